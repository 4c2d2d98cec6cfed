use Rattle.mp_framed.proofs.frame_bound_two_lower_control.Goals as goal
use Rattle.mp_framed.proofs.Controls.{not_two_lower}

pub returns : goal.returns
returns c = not_two_lower
