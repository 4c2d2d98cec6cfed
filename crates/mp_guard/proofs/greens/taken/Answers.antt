use Rattle.mp_guard.proofs.GreenLemmas.{taking_more}
use Rattle.mp_guard.proofs.greens.taken.Goals as goal

pub loop-green-preserved : goal.loop-green-preserved
loop-green-preserved c = taking_more c.args.lost c.args.greens.now c.loop-green.green-index c.loop-green.sum c.taken_by-sum.result c.loop-green.invariant c.loop-green-test.true c.taken_by-sum.ensures.taken c.taken_by-sum.ensures.few
