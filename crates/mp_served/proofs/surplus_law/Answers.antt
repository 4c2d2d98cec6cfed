use Rattle.mp_served.proofs.surplus_law.Goals as goal
use Rattle.mp_served.proofs.Surplus.{surpluses}

pub returns : goal.returns
returns c = surpluses
