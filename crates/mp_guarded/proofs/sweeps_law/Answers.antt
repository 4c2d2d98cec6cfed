use Rattle.mp_guarded.proofs.sweeps_law.Goals as goal
use Rattle.mp_guarded.proofs.Sweeps.{sweeps_least}

pub returns : goal.returns
returns c = sweeps_least
