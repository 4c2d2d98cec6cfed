use Rattle.std.proofs.Common.{◌+◌}
use Rattle.mp_simplex.proofs.TableLemmas.{Basing}
use Rattle.mp_simplex.proofs.table.first_basis.Given as goal

abbrev pub invariant-loop-i : goal.invariant-loop-i
invariant-loop-i l = Basing l.rows (1 + l.cols) l.i l.basis.items
