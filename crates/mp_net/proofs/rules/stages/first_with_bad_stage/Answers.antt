use Rattle.std.proofs.Common.{length, rules, arith}
use Rattle.std.proofs.lemmas.List.{length-map}
use Rattle.mp_net.specs.Parts.{network_of}
use Rattle.mp_net.specs.StageRules.{has_bad_stage}
use Rattle.mp_net.proofs.Numbers.{found}
use Rattle.mp_net.proofs.rules.stages.first_with_bad_stage.Goals as goal

pub returns : goal.returns
returns c = let net = network_of c.args.parts.now in found (has_bad_stage net) (length net.junctions) _ (simp length-map (omega arith)) c.find.ensures.ran (λ x b q k. search rules)
