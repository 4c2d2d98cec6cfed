use Rattle.mp_laws.proofs.prompt_order_law.Goals as goal
use Rattle.mp_laws.proofs.PromptOrder.{prompt_order}

pub returns : goal.returns
returns c = prompt_order
