use Rattle.std.proofs.Common.{◌+◌}
use Rattle.mp_simplex.proofs.TableLemmas.{Stacking}
use Rattle.mp_simplex.proofs.table.first_cells.Given as goal

abbrev pub invariant-loop-r : goal.invariant-loop-r
invariant-loop-r l = Stacking l.lp.rows l.lp.cols l.lp.a l.lp.b l.lp.c (1 + l.lp.rows) l.width l.r l.cells.items
