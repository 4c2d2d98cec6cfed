use Rattle.mp_framed.proofs.frame_drift_law.Goals as goal
use Rattle.mp_framed.proofs.Drift.{frame_drift}

pub returns : goal.returns
returns c = frame_drift
