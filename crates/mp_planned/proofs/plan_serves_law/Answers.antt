use Rattle.mp_planned.proofs.plan_serves_law.Goals as goal
use Rattle.mp_planned.proofs.Plans.{plan_serves}

pub returns : goal.returns
returns c = plan_serves
