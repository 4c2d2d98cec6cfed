use Rattle.std.proofs.Common.{length, rules, arith}
use Rattle.std.proofs.lemmas.List.{length-map}
use Rattle.mp_net.specs.Parts.{network_of}
use Rattle.mp_net.specs.LinkRules.{has_bad_shares}
use Rattle.mp_net.proofs.Numbers.{found}
use Rattle.mp_net.proofs.rules.links.first_with_bad_shares.Goals as goal

pub returns : goal.returns
returns c = let net = network_of c.args.parts.now in found (has_bad_shares net) (length net.links) _ (simp length-map (omega arith)) c.find.ensures.ran (λ x b q k. search rules)
