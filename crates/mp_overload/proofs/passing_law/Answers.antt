use Rattle.mp_overload.proofs.passing_law.Goals as goal
use Rattle.mp_overload.proofs.Passing.{passes_within}

pub returns : goal.returns
returns c = passes_within
