use Rattle.std.proofs.Common.{length, rules, arith}
use Rattle.std.proofs.lemmas.List.{length-map}
use Rattle.mp_net.specs.Parts.{network_of}
use Rattle.mp_model.specs.Network.{link_at, is_fed}
use Rattle.mp_net.proofs.Numbers.{asked}
use Rattle.mp_net.proofs.rules.links.any_is_fed.Goals as goal

pub returns : goal.returns
returns c = let net = network_of c.args.parts.now in asked (λ l. is_fed (link_at net l)) (length net.links) _ (simp length-map (omega arith)) c.any.ensures.ran (λ x b q k. search rules)
