use Rattle.mp_overload.proofs.even_law.Goals as goal
use Rattle.mp_overload.proofs.Evens.{even_permitted}

pub returns : goal.returns
returns c = even_permitted
