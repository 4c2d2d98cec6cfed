use Rattle.mp_laws.proofs.same_law.Goals as goal
use Rattle.mp_laws.proofs.Heard.{alike}

pub returns : goal.returns
returns c = alike
