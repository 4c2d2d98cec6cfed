use Rattle.mp_laws.proofs.copy_law.Goals as goal
use Rattle.mp_laws.proofs.Heard.{copies_kept}

pub returns : goal.returns
returns c = copies_kept
