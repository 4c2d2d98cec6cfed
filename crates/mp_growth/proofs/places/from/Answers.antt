use Rattle.mp_cert.proofs.PlaceLemmas.{from_known}
use Rattle.mp_growth.proofs.places.from.Goals as goal

pub returns-clause-known : goal.returns-clause-known
returns-clause-known c = let known = from_known c.args.net.now c.requires.acceptable.network c.args.k c.requires.movement.0 c.requires.movement.1 in rw c.movement.ensures.from known
