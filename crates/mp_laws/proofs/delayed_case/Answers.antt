use Rattle.mp_laws.proofs.delayed_case.Goals as goal
use Rattle.mp_laws.proofs.StartedCases.{delayed_case}

pub returns : goal.returns
returns c = delayed_case
