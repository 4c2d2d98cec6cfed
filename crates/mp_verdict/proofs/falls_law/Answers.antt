use Rattle.mp_verdict.proofs.falls_law.Goals as goal
use Rattle.mp_verdict.proofs.TurnProof as Laws

pub returns : goal.returns
returns c = Laws.falls_lower
