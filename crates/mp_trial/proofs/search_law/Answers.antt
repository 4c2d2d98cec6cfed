use Rattle.mp_trial.proofs.Searching.{searched}
use Rattle.mp_trial.proofs.search_law.Goals as goal

pub returns : goal.returns
returns c = searched
