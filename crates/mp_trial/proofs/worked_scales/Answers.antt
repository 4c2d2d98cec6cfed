use Rattle.mp_trial.proofs.worked_scales.Goals as goal
use Rattle.mp_trial.proofs.Computed.{worked}

pub returns : goal.returns
returns c = worked
