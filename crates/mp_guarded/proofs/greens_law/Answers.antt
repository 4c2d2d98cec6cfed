use Rattle.mp_guarded.proofs.greens_law.Goals as goal
use Rattle.mp_guarded.proofs.Greens.{greens_hold}

pub returns : goal.returns
returns c = greens_hold
