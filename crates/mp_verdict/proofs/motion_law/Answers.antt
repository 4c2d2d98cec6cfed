use Rattle.mp_verdict.proofs.motion_law.Goals as goal
use Rattle.mp_verdict.proofs.ScoreLaw as Laws

pub returns : goal.returns
returns c = Laws.no_motion
