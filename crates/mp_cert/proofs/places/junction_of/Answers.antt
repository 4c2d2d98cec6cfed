use Rattle.std.proofs.Common.{◌∙◌, ap}
use Rattle.mp_model.specs.Network.{junction_of_link}
use Rattle.mp_cert.proofs.PlaceLemmas.{junction_known, junction_same}
use Rattle.mp_cert.proofs.places.junction_of.Goals as goal

pub returns-clause-value : goal.returns-clause-value
returns-clause-value c = c.junction_of.ensures ∙ ap (junction_of_link c.args.net.now) c.from.ensures.value ∙ junction_same c.args.net.now c.requires.acceptable.network c.args.k c.requires.movement.0 c.requires.movement.1

pub returns-clause-known : goal.returns-clause-known
returns-clause-known c = let known = junction_known c.args.net.now c.requires.acceptable.network c.args.k c.requires.movement.0 c.requires.movement.1 in rw (returns-clause-value c) known
