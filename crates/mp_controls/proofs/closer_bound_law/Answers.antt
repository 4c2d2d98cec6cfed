use Rattle.mp_controls.proofs.closer_bound_law.Goals as goal
use Rattle.mp_controls.proofs.Runs.{closer_bound}

pub returns : goal.returns
returns c = closer_bound
