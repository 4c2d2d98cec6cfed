use Rattle.mp_trial.proofs.Halving.{enough}
use Rattle.mp_trial.proofs.halvings_law.Goals as goal

pub returns : goal.returns
returns c = enough
