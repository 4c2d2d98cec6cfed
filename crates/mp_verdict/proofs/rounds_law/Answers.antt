use Rattle.mp_verdict.proofs.rounds_law.Goals as goal
use Rattle.mp_verdict.proofs.TurnProof as Laws

pub returns : goal.returns
returns c = Laws.turns_first
