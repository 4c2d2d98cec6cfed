use Rattle.mp_controls.proofs.core_one_lower_law.Goals as goal
use Rattle.mp_controls.proofs.Runs.{core_one_lower}

pub returns : goal.returns
returns c = core_one_lower
