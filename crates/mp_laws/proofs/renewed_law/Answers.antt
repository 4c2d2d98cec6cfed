use Rattle.mp_laws.proofs.renewed_law.Goals as goal
use Rattle.mp_laws.proofs.Renewed.{renewed}

pub returns : goal.returns
returns c = renewed
