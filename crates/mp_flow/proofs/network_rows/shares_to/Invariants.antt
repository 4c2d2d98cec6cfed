use Rattle.std.proofs.Common.{cond}
use Rattle.mp_model.specs.Network.{to_of, share_of, goes_to}
use Rattle.mp_flow.proofs.RowLoopLemmas.{Summing}
use Rattle.mp_flow.proofs.network_rows.shares_to.Given as goal

abbrev pub invariant-loop-k : goal.invariant-loop-k
invariant-loop-k l = Summing (λ k. cond (goes_to (to_of l.net k) l.m) (share_of l.net k) 0) l.k-items l.k-index l.sum
