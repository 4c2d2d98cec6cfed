use Rattle.mp_verdict.proofs.critical_law.Goals as goal
use Rattle.mp_verdict.proofs.VerdictProof as Laws

pub returns : goal.returns
returns g c = Laws.critical _
