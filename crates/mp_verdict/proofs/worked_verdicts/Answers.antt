use Rattle.mp_verdict.proofs.worked_verdicts.Goals as goal
use Rattle.mp_verdict.proofs.Computed.{worked}

pub returns : goal.returns
returns c = worked
