use Rattle.std.proofs.Common.{length, rules, arith}
use Rattle.std.proofs.lemmas.List.{length-map}
use Rattle.mp_net.specs.Parts.{network_of}
use Rattle.std.proofs.Common.{not}
use Rattle.mp_net.specs.LinkRules.{has_movement}
use Rattle.mp_net.proofs.Numbers.{found}
use Rattle.mp_net.proofs.rules.links.first_without_movement.Goals as goal

pub returns : goal.returns
returns c = let net = network_of c.args.parts.now in found (λ l. not (has_movement net l)) (length net.links) _ (simp length-map (omega arith)) c.find.ensures.ran (λ x b q k. search rules)
