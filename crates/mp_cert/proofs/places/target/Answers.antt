use Rattle.mp_cert.proofs.PlaceLemmas.{target_known}
use Rattle.mp_cert.proofs.places.target.Goals as goal

pub returns-clause-known : goal.returns-clause-known
returns-clause-known c = target_known c.args.net.now c.requires.acceptable.network c.args.k c.requires.movement.0 c.requires.movement.1 _ c.movement.ensures.to
