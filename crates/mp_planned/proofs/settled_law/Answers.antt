use Rattle.mp_planned.proofs.settled_law.Goals as goal
use Rattle.mp_planned.proofs.Chains.{settled_of}

pub returns : goal.returns
returns c = settled_of
