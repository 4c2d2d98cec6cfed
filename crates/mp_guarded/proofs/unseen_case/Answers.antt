use Rattle.mp_guarded.proofs.unseen_case.Goals as goal
use Rattle.mp_guarded.proofs.Cases.{unseen_case}

pub returns : goal.returns
returns c = unseen_case
