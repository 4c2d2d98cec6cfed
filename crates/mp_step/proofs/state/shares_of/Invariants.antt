use Rattle.std.proofs.Common.{◌≡◌, map, take}
use Rattle.mp_model.specs.Network.{share_of}
use Rattle.mp_step.proofs.state.shares_of.Given as goal

abbrev pub invariant-loop-k : goal.invariant-loop-k
invariant-loop-k l = l.shares.items ≡ map (share_of l.net) (take l.k-index l.ks)
