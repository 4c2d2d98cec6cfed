use Rattle.mp_gen.specs.DemoNetwork.{demo_network}
use Rattle.mp_gen.specs.DemoArrivals.{seeded}
use Rattle.mp_gen.proofs.Draws.{drawn_permitted}
use Rattle.mp_gen.proofs.laws.demo_permitted_law.Goals as goal

pub returns : goal.returns
returns c = λ n A drawn. drawn_permitted (demo_network n) (seeded n) A drawn.0 drawn.1
