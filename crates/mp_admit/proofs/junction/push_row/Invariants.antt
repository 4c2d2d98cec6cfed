use Rattle.std.proofs.Common.{cond, pos}
use Rattle.mp_model.specs.Network.{flow_of, has}
use Rattle.mp_admit.proofs.RowLemmas.{Lining}
use Rattle.mp_admit.proofs.junction.push_row.Given as goal

abbrev pub invariant-loop-k : goal.invariant-loop-k
invariant-loop-k l = Lining (λ k. cond (has l.stage k) (pos (flow_of l.net k)) (pos 0)) l.k-items l.fn.cells.items l.k-index l.cells.items
