use Rattle.mp_overload.proofs.overloaded_case.Goals as goal
use Rattle.mp_overload.proofs.Cases.{overloaded}

pub returns : goal.returns
returns c = overloaded
