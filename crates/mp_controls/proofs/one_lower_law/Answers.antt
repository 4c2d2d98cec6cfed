use Rattle.mp_controls.proofs.one_lower_law.Goals as goal
use Rattle.mp_controls.proofs.Runs.{one_lower}

pub returns : goal.returns
returns c = one_lower
