use Rattle.mp_guarded.proofs.candidate_law.Goals as goal
use Rattle.mp_guarded.proofs.Candidates.{candidate_there}

pub returns : goal.returns
returns c = candidate_there
