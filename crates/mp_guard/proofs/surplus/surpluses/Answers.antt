use Rattle.std.proofs.Common.{arith}
use Rattle.mp_model.specs.Guard.{IsSurplus}
use Rattle.mp_net.proofs.Filled.{FilledTo-more}
use Rattle.mp_guard.proofs.SurplusLemmas.{are_surpluses}
use Rattle.mp_guard.proofs.surplus.surpluses.Goals as goal

pub loop-k-preserved : goal.loop-k-preserved
loop-k-preserved c = FilledTo-more (IsSurplus c.args.net.now) c.loop-k.k c.loop-k.surpluses.items c.push.new.self.items c.in_ok-surplus.field-0 c.loop-k.invariant c.in_ok-push.ensures.items c.in_ok-surplus.ensures

pub returns : goal.returns
returns c = are_surpluses c.args.net.now c.loop-k.k c.loop-k.surpluses.items c.loop-k.invariant (omega arith)
