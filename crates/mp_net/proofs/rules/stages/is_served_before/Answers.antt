use Rattle.std.proofs.Common.{rules, arith}
use Rattle.mp_net.specs.Parts.{network_of}
use Rattle.mp_model.specs.Network.{junction_at}
use Rattle.mp_net.specs.StageRules.{serves_link}
use Rattle.mp_net.proofs.Numbers.{asked}
use Rattle.mp_net.proofs.rules.stages.is_served_before.Goals as goal

pub returns : goal.returns
returns c = let net = network_of c.args.parts.now in asked (λ i. serves_link net c.args.l (junction_at net i)) _ _ (omega arith) c.any.ensures.ran (λ x b q k. search rules)
