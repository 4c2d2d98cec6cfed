use Rattle.mp_overload.proofs.least_law.Goals as goal
use Rattle.mp_overload.proofs.Forms.{least_below}

pub returns : goal.returns
returns c = least_below
