use Rattle.std.proofs.Common.{length, rules, arith}
use Rattle.std.proofs.lemmas.List.{length-map}
use Rattle.mp_net.specs.Parts.{network_of}
use Rattle.mp_net.specs.NumberRules.{movement_has_bad_number}
use Rattle.mp_net.proofs.Numbers.{found}
use Rattle.mp_net.proofs.rules.numbers.first_bad_movement.Goals as goal

pub returns : goal.returns
returns c = let net = network_of c.args.parts.now in found (movement_has_bad_number net) (length net.movements) _ (simp length-map (omega arith)) c.find.ensures.ran (λ x b q k. search rules)
