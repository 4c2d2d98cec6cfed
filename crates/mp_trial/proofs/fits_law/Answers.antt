use Rattle.mp_trial.proofs.Fitting.{fits}
use Rattle.mp_trial.proofs.fits_law.Goals as goal

pub returns : goal.returns
returns c = fits
