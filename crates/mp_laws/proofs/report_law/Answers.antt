use Rattle.mp_laws.proofs.report_law.Goals as goal
use Rattle.mp_laws.proofs.Changes.{near_by}

pub returns : goal.returns
returns c = near_by
