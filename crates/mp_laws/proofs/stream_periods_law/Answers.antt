use Rattle.mp_laws.proofs.stream_periods_law.Goals as goal
use Rattle.mp_laws.proofs.Renewed.{closes_periods}

pub returns : goal.returns
returns c = closes_periods
