use Rattle.mp_guarded.proofs.guarded_stages_law.Goals as goal
use Rattle.mp_guarded.proofs.Runs.{run_takes}

pub returns : goal.returns
returns c = run_takes
