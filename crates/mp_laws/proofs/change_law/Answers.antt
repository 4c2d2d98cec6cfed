use Rattle.mp_laws.proofs.change_law.Goals as goal
use Rattle.mp_laws.proofs.Changes.{changes}

pub returns : goal.returns
returns c = changes
