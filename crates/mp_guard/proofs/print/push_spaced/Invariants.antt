use Rattle.mp_guard.proofs.PrintLemmas.{Spacing}
use Rattle.mp_guard.proofs.print.push_spaced.Given as goal

abbrev pub invariant-loop-number : goal.invariant-loop-number
invariant-loop-number l = Spacing l.initial.text.items l.text.items l.numbers l.number-index
