use Rattle.mp_laws.proofs.prompt_same_law.Goals as goal
use Rattle.mp_laws.proofs.Heard.{prompt_alike}

pub returns : goal.returns
returns c = prompt_alike
