use Rattle.std.proofs.Common.{rules}
use Rattle.mp_admit.proofs.SpreadLemmas.{lining_pushed}
use Rattle.mp_admit.proofs.vector.values_beside.Goals as goal

pub loop-k-preserved : goal.loop-k-preserved
loop-k-preserved c = lining_pushed _ _ _ _ _ _ _ c.loop-k.invariant c.in_ok-push.ensures.items (search rules) c.value_beside.ensures
