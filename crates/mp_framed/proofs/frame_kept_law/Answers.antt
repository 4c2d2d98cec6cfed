use Rattle.mp_framed.proofs.frame_kept_law.Goals as goal
use Rattle.mp_framed.proofs.Drift.{frame_kept}

pub returns : goal.returns
returns c = frame_kept
