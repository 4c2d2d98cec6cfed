use Rattle.mp_overload.proofs.worked_growths.Goals as goal
use Rattle.mp_overload.proofs.Cases.{worked}

pub returns : goal.returns
returns c = worked
