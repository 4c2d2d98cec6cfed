use Rattle.std.proofs.Common.{[]}
use Rattle.mp_gen.specs.DemoNetwork.{demo_network}
use Rattle.mp_gen.specs.DemoArrivals.{seeded}
use Rattle.mp_gen.proofs.Only.{one_drawn}
use Rattle.mp_gen.proofs.laws.one_demo_law.Goals as goal

pub returns : goal.returns
returns c = λ n A B a b same. one_drawn (demo_network n) [] (seeded n) A B a.0 b.0 a.1 b.1 same
