use Rattle.mp_guarded.proofs.miscounted_case.Goals as goal
use Rattle.mp_guarded.proofs.Cases.{miscounted_case}

pub returns : goal.returns
returns c = miscounted_case
