use Rattle.std.proofs.Common.{◌<◌, length, arith, refl, Option}
use Rattle.mp_flow.specs.Calculating.{flows_of}
use Rattle.mp_flow.specs.declared.network.Place.TheVariants.{Game}
use Rattle.mp_admit.specs.declared.score.Score.{Score}
use Rattle.mp_admit.specs.Scores.{scores_of}
use Rattle.mp_admit.proofs.AloneLemmas.{at_fault, at_more}
use Rattle.mp_admit.proofs.alone.try_movements.Goals as goal

pub returns-in-Err-clause-calculation : goal.returns-in-Err-clause-calculation
returns-in-Err-clause-calculation c =
    let h : c.loop-k.k-index < length c.own-k-items.result.now = omega arith in
    at_fault {X = Option Score} {X' = Option Score} scores_of scores_of c.args.net.now (flows_of c.args.flows.now) c.args.j (Game c.args.j) c.args.before c.loop-k.score c.loop-k.k-index _ c.own-k-items.result.now c.in-Err.fault c.loop-k.invariant c.own-k-items.ensures h refl c.in-Err.ensures.calculation

pub loop-k-preserved : goal.loop-k-preserved
loop-k-preserved c =
    let h : c.loop-k.k-index < length c.own-k-items.result.now = omega arith in
    at_more c.args.net.now (flows_of c.args.flows.now) c.args.j (Game c.args.j) c.args.before c.loop-k.score c.in-Ok.next c.loop-k.k-index _ c.own-k-items.result.now c.loop-k.invariant c.own-k-items.ensures h refl c.in-Ok.ensures.calculation c.in-Ok.ensures.stands
