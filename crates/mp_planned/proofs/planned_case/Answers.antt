use Rattle.mp_planned.proofs.planned_case.Goals as goal
use Rattle.mp_planned.proofs.Plans.{planned_met}

pub returns : goal.returns
returns c = planned_met
