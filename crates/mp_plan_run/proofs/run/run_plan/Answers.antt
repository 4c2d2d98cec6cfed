use Rattle.mp_planned.proofs.Plans.{planned_bounded}
use Rattle.mp_plan_run.proofs.run.run_plan.Goals as goal

pub returns-clause-bounded : goal.returns-clause-bounded
returns-clause-bounded g c = λ A permitted.
    let s = c.args.session.now in
    let p = c.state.ensures.planned in
    let made = p.plan in
    planned_bounded s.net p.acceptable.network made.flows made.denominator s.plan made.is A permitted
