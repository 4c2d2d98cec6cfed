use Rattle.std.proofs.Common.{length, rules, arith}
use Rattle.std.proofs.lemmas.List.{length-map}
use Rattle.mp_net.specs.Parts.{network_of}
use Rattle.mp_net.specs.NumberRules.{is_named_out}
use Rattle.mp_net.proofs.Numbers.{found}
use Rattle.mp_net.proofs.rules.names.first_named_out.Goals as goal

pub returns : goal.returns
returns c = let net = network_of c.args.parts.now in found (is_named_out net) (length net.links) _ (simp length-map (omega arith)) c.find.ensures.ran (λ x b q k. search rules)
