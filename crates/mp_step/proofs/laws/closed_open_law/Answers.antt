use Rattle.mp_step.proofs.SamePasses.{closes_agree}
use Rattle.mp_step.proofs.laws.closed_open_law.Goals as goal

pub returns : goal.returns
returns c = closes_agree
