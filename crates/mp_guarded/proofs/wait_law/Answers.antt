use Rattle.mp_guarded.proofs.wait_law.Goals as goal
use Rattle.mp_guarded.proofs.Greens.{wait_holds}

pub returns : goal.returns
returns c = wait_holds
