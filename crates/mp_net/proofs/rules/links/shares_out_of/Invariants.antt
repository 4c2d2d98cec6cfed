use Rattle.std.proofs.Common.{◌==◌}
use Rattle.mp_net.specs.Parts.{network_of}
use Rattle.mp_model.specs.Network.{from_of, share_of}
use Rattle.mp_net.proofs.Numbers.{SummedTo}
use Rattle.mp_net.proofs.rules.links.shares_out_of.Given as goal

abbrev pub invariant-loop-k : goal.invariant-loop-k
invariant-loop-k l = SummedTo (λ k. from_of (network_of l.parts) k == l.l) (share_of (network_of l.parts)) l.k l.sum
