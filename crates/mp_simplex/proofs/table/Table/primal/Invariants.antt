use Rattle.std.proofs.Common.{[]}
use Rattle.mp_num.proofs.PassingLemmas.{Pushing}
use Rattle.mp_simplex.specs.Running.{rows_in, right_in}
use Rattle.mp_simplex.specs.Outcome.{primal_at}
use Rattle.mp_simplex.proofs.table.Table.primal.Given as goal

abbrev pub invariant-loop-k : goal.invariant-loop-k
invariant-loop-k l = Pushing (primal_at (right_in l.self) l.q (rows_in l.self) l.self.basis.items) l.self.columns 1 [] l.k l.x.items
