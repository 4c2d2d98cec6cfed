use Rattle.mp_guarded.proofs.guarded_wait_law.Goals as goal
use Rattle.mp_guarded.proofs.Waits.{run_waits}

pub returns : goal.returns
returns c = run_waits
