use Rattle.mp_framed.proofs.twice_lost_control.Goals as goal
use Rattle.mp_framed.proofs.Controls.{not_twice_lost}

pub returns : goal.returns
returns c = not_twice_lost
