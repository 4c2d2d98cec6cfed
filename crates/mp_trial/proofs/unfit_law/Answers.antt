use Rattle.mp_trial.proofs.Unfitness.{unfit}
use Rattle.mp_trial.proofs.unfit_law.Goals as goal

pub returns : goal.returns
returns c = unfit
