use Rattle.mp_guarded.proofs.play_wait_law.Goals as goal
use Rattle.mp_guarded.proofs.Waits.{play_waits}

pub returns : goal.returns
returns c = play_waits
