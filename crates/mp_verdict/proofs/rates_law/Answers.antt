use Rattle.mp_verdict.proofs.rates_law.Goals as goal
use Rattle.mp_verdict.proofs.RatesThere as Laws

pub returns : goal.returns
returns c = Laws.rates_there
