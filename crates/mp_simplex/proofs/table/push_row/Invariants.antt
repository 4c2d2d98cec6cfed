use Rattle.mp_num.proofs.PassingLemmas.{Pushing}
use Rattle.mp_simplex.specs.Outcome.{cell}
use Rattle.mp_simplex.proofs.table.push_row.Given as goal

abbrev pub invariant-loop-k : goal.invariant-loop-k
invariant-loop-k l = Pushing (cell l.lp.rows l.lp.cols l.lp.a l.lp.b l.lp.c l.r) l.width 0 l.fn.cells.items l.k l.cells.items
