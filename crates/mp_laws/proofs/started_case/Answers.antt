use Rattle.mp_laws.proofs.started_case.Goals as goal
use Rattle.mp_laws.proofs.StartedCases.{started_case}

pub returns : goal.returns
returns c = started_case
