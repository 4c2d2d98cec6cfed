use Rattle.mp_overload.proofs.faster_growth_control.Goals as goal
use Rattle.mp_overload.proofs.Sharper.{not_faster}

pub returns : goal.returns
returns c = not_faster
