use Rattle.mp_guarded.proofs.guarded_passing_law.Goals as goal
use Rattle.mp_guarded.proofs.Bounds.{passing_guarded}

pub returns : goal.returns
returns c = passing_guarded
