use Rattle.std.proofs.Common.{◌*◌, ap}
use Rattle.mp_model.specs.Guard.{red}
use Rattle.mp_guard.proofs.BurstLemmas.{mapped_more}
use Rattle.mp_guard.proofs.sweeping.waits.Goals as goal

pub loop-i-preserved : goal.loop-i-preserved
loop-i-preserved c = mapped_more (λ k. 2 * red c.args.net.now c.args.guard.now k) c.loop-i.i (2 * c.red.result) c.loop-i.waits.items c.push.new.self.items c.loop-i.invariant (ap (λ n. 2 * n) c.red.ensures.periods) c.in_ok-push.ensures.items
