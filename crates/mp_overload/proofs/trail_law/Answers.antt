use Rattle.mp_overload.proofs.trail_law.Goals as goal
use Rattle.mp_overload.proofs.Accounts.{on_trail}

pub returns : goal.returns
returns c = on_trail
