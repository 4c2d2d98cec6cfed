use Rattle.std.proofs.Common.{arith}
use Rattle.mp_scaled.proofs.Leasts.{leasting_more, leasting_end, leasting_few}
use Rattle.mp_scaled.proofs.search.least_flow.Goals as goal

pub loop-i-preserved : goal.loop-i-preserved
loop-i-preserved c = leasting_more _ c.loop-i.i c.loop-i.least c.from.result c.min-least.result c.loop-i.invariant (omega arith) (omega (arith, c.from.ensures, c.movement-in-loop-i.ensures.flow)) (omega (arith, c.min-least.ensures))

pub returns-clause-value : goal.returns-clause-value
returns-clause-value c = leasting_end _ c.loop-i.i c.loop-i.least c.loop-i.invariant (omega arith)

pub returns-clause-few : goal.returns-clause-few
returns-clause-few c = leasting_few _ c.loop-i.i c.loop-i.least c.requires c.loop-i.invariant
