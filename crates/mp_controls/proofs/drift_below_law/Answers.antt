use Rattle.mp_controls.proofs.drift_below_law.Goals as goal
use Rattle.mp_controls.proofs.Below.{below}

pub returns : goal.returns
returns c = below
