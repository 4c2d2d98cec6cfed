use Rattle.mp_gen.proofs.Roads.{demo_certified}
use Rattle.mp_gen.proofs.laws.demo_certified_law.Goals as goal

pub returns : goal.returns
returns c = demo_certified
