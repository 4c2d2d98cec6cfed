use Rattle.mp_step.proofs.SamePasses.{steps_agree}
use Rattle.mp_step.proofs.laws.open_step_law.Goals as goal

pub returns : goal.returns
returns c = steps_agree
