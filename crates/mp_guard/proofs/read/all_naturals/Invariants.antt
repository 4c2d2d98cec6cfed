use Rattle.mp_guard.proofs.ReadLemmas.{Naturals}
use Rattle.mp_guard.proofs.read.all_naturals.Given as goal

abbrev pub invariant-loop-row : goal.invariant-loop-row
invariant-loop-row l = Naturals l.greens.items l.rows l.row-index
