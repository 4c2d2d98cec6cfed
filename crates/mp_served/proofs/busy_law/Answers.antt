use Rattle.mp_served.proofs.busy_law.Goals as goal
use Rattle.mp_served.proofs.Busy.{is_busy}

pub returns : goal.returns
returns c = is_busy
