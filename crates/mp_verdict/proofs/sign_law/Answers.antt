use Rattle.mp_verdict.proofs.sign_law.Goals as goal
use Rattle.mp_verdict.proofs.VectorLaw as Laws

pub returns : goal.returns
returns c = Laws.by_sign
