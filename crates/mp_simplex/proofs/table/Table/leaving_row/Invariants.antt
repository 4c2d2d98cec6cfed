use Rattle.mp_simplex.specs.Running.{rows_in, right_in}
use Rattle.mp_simplex.proofs.ProgramLemmas.{Looking}
use Rattle.mp_simplex.proofs.table.Table.leaving_row.Given as goal

abbrev pub invariant-loop-i : goal.invariant-loop-i
invariant-loop-i l = Looking l.j (right_in l.self) l.self.constraints (rows_in l.self) l.self.basis.items l.i l.best
