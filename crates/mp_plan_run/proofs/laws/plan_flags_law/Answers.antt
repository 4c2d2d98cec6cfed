use Rattle.mp_plan_run.proofs.GreenLemmas.{flags_agree}
use Rattle.mp_plan_run.proofs.laws.plan_flags_law.Goals as goal

pub returns : goal.returns
returns c = flags_agree
