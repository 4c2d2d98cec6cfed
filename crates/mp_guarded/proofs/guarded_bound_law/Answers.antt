use Rattle.mp_guarded.proofs.guarded_bound_law.Goals as goal
use Rattle.mp_guarded.proofs.Bounds.{queues_guarded}

pub returns : goal.returns
returns c = queues_guarded
