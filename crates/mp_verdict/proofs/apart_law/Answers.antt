use Rattle.mp_verdict.proofs.apart_law.Goals as goal
use Rattle.mp_verdict.proofs.VerdictProof as Laws

pub returns : goal.returns
returns c = Laws.apart
