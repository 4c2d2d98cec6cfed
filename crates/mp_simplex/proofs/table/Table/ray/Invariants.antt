use Rattle.std.proofs.Common.{[]}
use Rattle.mp_num.proofs.PassingLemmas.{Pushing}
use Rattle.mp_simplex.specs.Running.{rows_in}
use Rattle.mp_simplex.specs.Outcome.{ray_at}
use Rattle.mp_simplex.proofs.table.Table.ray.Given as goal

abbrev pub invariant-loop-k : goal.invariant-loop-k
invariant-loop-k l = Pushing (ray_at l.j l.q (rows_in l.self) l.self.basis.items) l.self.columns 1 [] l.k l.x.items
