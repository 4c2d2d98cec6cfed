use Rattle.mp_controls.proofs.closer_drift_law.Goals as goal
use Rattle.mp_controls.proofs.Closer.{closer_kept}

pub returns : goal.returns
returns c = closer_kept
