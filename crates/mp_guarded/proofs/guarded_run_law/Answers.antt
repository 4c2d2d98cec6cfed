use Rattle.mp_guarded.proofs.guarded_run_law.Goals as goal
use Rattle.mp_guarded.proofs.Runs.{run_bounded}

pub returns : goal.returns
returns c = run_bounded
