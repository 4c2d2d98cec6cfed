use Rattle.std.proofs.Common.{◌==◌, cond}
use Rattle.mp_model.specs.Network.{from_of, share_of}
use Rattle.mp_flow.proofs.RowLoopLemmas.{Summing}
use Rattle.mp_flow.proofs.network_rows.shares_from.Given as goal

abbrev pub invariant-loop-j : goal.invariant-loop-j
invariant-loop-j l = Summing (λ j. cond (from_of l.net j == l.m) (share_of l.net j) 0) l.j-items l.j-index l.sum
