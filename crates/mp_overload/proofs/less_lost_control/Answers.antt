use Rattle.mp_overload.proofs.less_lost_control.Goals as goal
use Rattle.mp_overload.proofs.Sharper.{not_less_lost}

pub returns : goal.returns
returns c = not_less_lost
