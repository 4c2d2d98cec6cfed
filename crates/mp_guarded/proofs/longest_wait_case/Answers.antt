use Rattle.mp_guarded.proofs.longest_wait_case.Goals as goal
use Rattle.mp_guarded.proofs.Cases.{longest_wait_case}

pub returns : goal.returns
returns c = longest_wait_case
