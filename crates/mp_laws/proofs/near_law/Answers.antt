use Rattle.mp_laws.proofs.near_law.Goals as goal
use Rattle.mp_laws.proofs.Serve.{nearly}

pub returns : goal.returns
returns c = λ net q stages g. nearly net q net.junctions stages g
