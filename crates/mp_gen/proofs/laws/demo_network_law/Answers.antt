use Rattle.mp_gen.proofs.Roads.{demo_acceptable}
use Rattle.mp_gen.proofs.laws.demo_network_law.Goals as goal

pub returns : goal.returns
returns c = demo_acceptable
