use Rattle.std.proofs.Common.{length, rules, arith}
use Rattle.std.proofs.lemmas.List.{length-map}
use Rattle.mp_net.specs.Parts.{network_of}
use Rattle.mp_model.specs.Network.{junction_at, stands_in}
use Rattle.mp_net.proofs.Numbers.{asked}
use Rattle.mp_net.proofs.rules.stages.is_served.Goals as goal

pub returns : goal.returns
returns c = let net = network_of c.args.parts.now in asked (λ j. stands_in (junction_at net j) c.args.k) (length net.junctions) _ (simp length-map (omega arith)) c.any.ensures.ran (λ x b q k. search rules)
