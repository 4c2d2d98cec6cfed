use Rattle.mp_laws.proofs.served_law.Goals as goal
use Rattle.mp_laws.proofs.Serve.{served}

pub returns : goal.returns
returns c = served
