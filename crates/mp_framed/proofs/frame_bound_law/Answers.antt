use Rattle.mp_framed.proofs.frame_bound_law.Goals as goal
use Rattle.mp_framed.proofs.Runs.{frame_bound_of}

pub returns : goal.returns
returns c = frame_bound_of
