use Rattle.mp_trial.proofs.Rounding.{rounding}
use Rattle.mp_trial.proofs.rounding_law.Goals as goal

pub returns : goal.returns
returns c = rounding
