use Rattle.mp_simplex.specs.Running.{rows_in}
use Rattle.mp_simplex.proofs.ReadingLemmas.{Scaling}
use Rattle.mp_simplex.proofs.table.Table.denominator.Given as goal

abbrev pub invariant-loop-r : goal.invariant-loop-r
invariant-loop-r l = Scaling l.self.columns l.self.constraints (rows_in l.self) l.self.basis.items l.r l.q
