use Rattle.mp_framed.proofs.frame_queue_law.Goals as goal
use Rattle.mp_framed.proofs.Drift.{frame_queues}

pub returns : goal.returns
returns c = frame_queues
