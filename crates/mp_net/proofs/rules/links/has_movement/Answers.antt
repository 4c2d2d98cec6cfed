use Rattle.std.proofs.Common.{length, rules, arith}
use Rattle.std.proofs.lemmas.List.{length-map}
use Rattle.mp_net.specs.Parts.{network_of}
use Rattle.std.proofs.Common.{◌==◌}
use Rattle.mp_model.specs.Network.{from_of}
use Rattle.mp_net.proofs.Numbers.{asked}
use Rattle.mp_net.proofs.rules.links.has_movement.Goals as goal

pub returns : goal.returns
returns c = let net = network_of c.args.parts.now in asked (λ k. from_of net k == c.args.l) (length net.movements) _ (simp length-map (omega arith)) c.any.ensures.ran (λ x b q k. search rules)
