use Rattle.mp_planned.proofs.planned_bound_law.Goals as goal
use Rattle.mp_planned.proofs.Plans.{planned_bounded}

pub returns : goal.returns
returns c = planned_bounded
