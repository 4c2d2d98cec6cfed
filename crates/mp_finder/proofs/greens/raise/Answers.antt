use Rattle.std.proofs.Common.{arith}
use Rattle.mp_finder.proofs.Wanting.{known_in_own}
use Rattle.mp_finder.proofs.greens.raise.Goals as goal

pub raise_for-requires-clause-movement : goal.raise_for-requires-clause-movement
raise_for-requires-clause-movement c = known_in_own c.args.net.now c.args.j c.own-k-items.result.now c.loop-k.k-index c.own-k-items.ensures (omega arith)
