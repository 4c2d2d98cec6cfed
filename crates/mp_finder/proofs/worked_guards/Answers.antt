use Rattle.mp_finder.proofs.Computed.{worked}
use Rattle.mp_finder.proofs.worked_guards.Goals as goal

pub returns : goal.returns
returns c = worked
