use Rattle.mp_planned.proofs.planned_bound_one_lower_control.Goals as goal
use Rattle.mp_planned.proofs.Controls.{not_one_lower}

pub returns : goal.returns
returns c = not_one_lower
