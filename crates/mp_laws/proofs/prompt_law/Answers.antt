use Rattle.mp_laws.proofs.prompt_law.Goals as goal
use Rattle.mp_laws.proofs.Reported.{prompt}

pub returns : goal.returns
returns c = prompt
