use Rattle.std.proofs.Common.{arith}
use Rattle.mp_cli.proofs.GrowthLemmas.{ran_start, ran_more, ran_all}
use Rattle.mp_cli.proofs.overloading.run_evenly.Goals as goal

pub loop-turn-init : goal.loop-turn-init
loop-turn-init c = ran_start c.args.net.now c.args.trail.now c.requires.on c.requires.start

pub loop-turn-preserved : goal.loop-turn-preserved
loop-turn-preserved c = ran_more c.args.net.now c.loop-turn.trail c.step_greatest.new.trail c.loop-turn._turn c.loop-turn.invariant c.step_greatest.ensures.step c.step_greatest.ensures.on c.step_greatest.ensures.period

pub returns-clause-end : goal.returns-clause-end
returns-clause-end c = ran_all c.args.net.now c.loop-turn.trail c.loop-turn._turn c.loop-turn.invariant (omega arith)
