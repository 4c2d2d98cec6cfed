use Rattle.mp_framed.proofs.frame_served_law.Goals as goal
use Rattle.mp_framed.proofs.Drift.{frame_served}

pub returns : goal.returns
returns c = frame_served
