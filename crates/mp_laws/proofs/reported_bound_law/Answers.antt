use Rattle.mp_laws.proofs.reported_bound_law.Goals as goal
use Rattle.mp_laws.proofs.Reported.{bound_of_reported}

pub returns : goal.returns
returns c = bound_of_reported
