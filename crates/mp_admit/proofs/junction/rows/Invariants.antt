use Rattle.mp_admit.proofs.RowLemmas.{Rowing}
use Rattle.mp_admit.proofs.junction.rows.Given as goal

abbrev pub invariant-loop-s : goal.invariant-loop-s
invariant-loop-s l = Rowing l.net l.j l.s l.cells.items
