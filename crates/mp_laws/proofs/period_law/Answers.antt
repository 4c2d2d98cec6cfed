use Rattle.mp_laws.proofs.period_law.Goals as goal
use Rattle.mp_laws.proofs.Bounds.{period_is}

pub returns : goal.returns
returns c = period_is
