use Rattle.mp_growth.proofs.EvenCounts.{FilledTo}
use Rattle.mp_growth.proofs.evens.even_arrivals.Given as goal

abbrev pub invariant-loop-l : goal.invariant-loop-l
invariant-loop-l l = FilledTo l.net l.period l.into.items l.l-index
