use Rattle.mp_controls.proofs.lower_bound_law.Goals as goal
use Rattle.mp_controls.proofs.Runs.{lower_bound}

pub returns : goal.returns
returns c = lower_bound
