use Rattle.mp_trial.proofs.Unfitness.{easier}
use Rattle.mp_trial.proofs.easier_law.Goals as goal

pub returns : goal.returns
returns c = easier
