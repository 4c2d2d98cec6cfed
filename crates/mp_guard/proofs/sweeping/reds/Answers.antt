use Rattle.mp_model.specs.Guard.{red}
use Rattle.mp_guard.proofs.BurstLemmas.{mapped_more}
use Rattle.mp_guard.proofs.sweeping.reds.Goals as goal

pub loop-i-preserved : goal.loop-i-preserved
loop-i-preserved c = mapped_more (red c.args.net.now c.args.guard.now) c.loop-i.i c.red.result c.loop-i.reds.items c.push.new.self.items c.loop-i.invariant c.red.ensures.periods c.in_ok-push.ensures.items
