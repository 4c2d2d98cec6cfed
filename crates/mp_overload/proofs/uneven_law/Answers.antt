use Rattle.mp_overload.proofs.uneven_law.Goals as goal
use Rattle.mp_overload.proofs.Evens.{uneven_refused}

pub returns : goal.returns
returns c = uneven_refused
