use Rattle.mp_laws.proofs.stretch_law.Goals as goal
use Rattle.mp_laws.proofs.Drift.{stretched}

pub returns : goal.returns
returns c = stretched
