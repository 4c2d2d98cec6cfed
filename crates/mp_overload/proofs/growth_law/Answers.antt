use Rattle.mp_overload.proofs.growth_law.Goals as goal
use Rattle.mp_overload.proofs.Accounts.{grows_along}

pub returns : goal.returns
returns c = grows_along
