use Rattle.std.proofs.Common.{map}
use Rattle.mp_guard.proofs.PrintLemmas.{Greening}
use Rattle.mp_guard.proofs.print.push_all_greens.Given as goal

abbrev pub invariant-loop-index : goal.invariant-loop-index
invariant-loop-index l = Greening l.initial.text.items l.text.items (map (λ row. row.items) l.greens) l.index
