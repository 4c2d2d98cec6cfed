use Rattle.std.proofs.Common.{length, rules, arith}
use Rattle.std.proofs.lemmas.List.{length-map}
use Rattle.mp_net.specs.Parts.{network_of}
use Rattle.mp_net.specs.StageRules.{is_served_twice}
use Rattle.mp_net.proofs.Numbers.{asked}
use Rattle.mp_net.proofs.rules.stages.any_is_served_twice.Goals as goal

pub returns : goal.returns
returns c = let net = network_of c.args.parts.now in asked (is_served_twice net c.args.j) (length net.links) _ (simp length-map (omega arith)) c.any.ensures.ran (λ x b q k. search rules)
