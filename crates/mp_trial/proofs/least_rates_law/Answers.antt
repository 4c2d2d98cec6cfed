use Rattle.mp_trial.proofs.Least.{least_rates}
use Rattle.mp_trial.proofs.least_rates_law.Goals as goal

pub returns : goal.returns
returns c = least_rates
