use Rattle.std.proofs.Common.{◌∷◌, take}
use Rattle.std.specs.Fmt.{signed_decimal}
use Rattle.std.specs.List.{flat_map}
use Rattle.mp_text.specs.Appending.{Appends}
use Rattle.mp_cert.proofs.print.push_spaced.Given as goal

abbrev pub invariant-loop-number : goal.invariant-loop-number
invariant-loop-number g l = Appends (flat_map (λ n. 32 ∷ signed_decimal n) (take l.number-index l.numbers)) l.initial.text l.text (g.K.Sink.held l.initial.out) (g.K.Sink.held l.out) (g.K.Sink.faults l.initial.out) (g.K.Sink.faults l.out)
