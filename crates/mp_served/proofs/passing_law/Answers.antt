use Rattle.mp_served.proofs.passing_law.Goals as goal
use Rattle.mp_served.proofs.Bounds.{passing_bounded}

pub returns : goal.returns
returns c = passing_bounded
