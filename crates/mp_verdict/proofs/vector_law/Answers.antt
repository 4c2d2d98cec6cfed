use Rattle.mp_verdict.proofs.vector_law.Goals as goal
use Rattle.mp_verdict.proofs.VectorLaw as Laws

pub returns : goal.returns
returns c = Laws.shows
