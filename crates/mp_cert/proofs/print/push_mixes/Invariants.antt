use Rattle.std.proofs.Common.{take, map}
use Rattle.mp_model.specs.Log.{text_of}
use Rattle.mp_text.specs.Appending.{Appends}
use Rattle.mp_cert.specs.Texts.{mix_lines}
use Rattle.mp_cert.specs.Views.{mix_of}
use Rattle.mp_cert.proofs.print.push_mixes.Given as goal

abbrev pub invariant-loop-index : goal.invariant-loop-index
invariant-loop-index g l = Appends (text_of (mix_lines 1 (map mix_of (take l.index l.mixes)))) l.initial.text l.text (g.K.Sink.held l.initial.out) (g.K.Sink.held l.out) (g.K.Sink.faults l.initial.out) (g.K.Sink.faults l.out)
