use Rattle.mp_served.proofs.served_bound_law.Goals as goal
use Rattle.mp_served.proofs.Bounds.{queues_bounded}

pub returns : goal.returns
returns c = queues_bounded
