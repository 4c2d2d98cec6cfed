use Rattle.mp_overload.proofs.worked_runs.Goals as goal
use Rattle.mp_overload.proofs.Runs.{runs}

pub returns : goal.returns
returns c = runs
