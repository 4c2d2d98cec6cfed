use Rattle.std.proofs.Common.{length, rules, arith}
use Rattle.std.proofs.lemmas.List.{length-map}
use Rattle.mp_net.specs.Parts.{network_of}
use Rattle.mp_net.specs.RepeatRules.{link_is_repeated}
use Rattle.mp_net.proofs.Numbers.{found}
use Rattle.mp_net.proofs.rules.repeats.first_repeated_link.Goals as goal

pub returns : goal.returns
returns c = let net = network_of c.args.parts.now in found (link_is_repeated net) (length net.links) _ (simp length-map (omega arith)) c.find.ensures.ran (λ x b q k. search rules)
