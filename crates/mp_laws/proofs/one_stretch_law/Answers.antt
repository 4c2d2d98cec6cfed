use Rattle.mp_laws.proofs.one_stretch_law.Goals as goal
use Rattle.mp_laws.proofs.Drift.{one_stretch}

pub returns : goal.returns
returns c = one_stretch
