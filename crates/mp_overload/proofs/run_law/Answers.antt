use Rattle.mp_overload.proofs.run_law.Goals as goal
use Rattle.mp_overload.proofs.Trails.{run_on}

pub returns : goal.returns
returns c = run_on
