use Rattle.mp_laws.proofs.copy_bound_law.Goals as goal
use Rattle.mp_laws.proofs.Heard.{copies_bounded}

pub returns : goal.returns
returns c = copies_bounded
