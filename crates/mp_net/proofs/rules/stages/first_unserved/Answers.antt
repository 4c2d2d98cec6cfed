use Rattle.std.proofs.Common.{length, rules, arith}
use Rattle.std.proofs.lemmas.List.{length-map}
use Rattle.mp_net.specs.Parts.{network_of}
use Rattle.mp_net.specs.StageRules.{is_unserved}
use Rattle.mp_net.proofs.Numbers.{found}
use Rattle.mp_net.proofs.rules.stages.first_unserved.Goals as goal

pub returns : goal.returns
returns c = let net = network_of c.args.parts.now in found (is_unserved net) (length net.movements) _ (simp length-map (omega arith)) c.find.ensures.ran (λ x b q k. search rules)
