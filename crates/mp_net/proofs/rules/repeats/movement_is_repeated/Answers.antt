use Rattle.std.proofs.Common.{rules, arith}
use Rattle.mp_net.specs.Parts.{network_of}
use Rattle.std.specs.Str.{bytes_eq}
use Rattle.mp_model.specs.Network.{movement_at}
use Rattle.mp_net.proofs.Numbers.{asked}
use Rattle.mp_net.proofs.rules.repeats.movement_is_repeated.Goals as goal

pub returns : goal.returns
returns c = let net = network_of c.args.parts.now in asked (λ i. bytes_eq (movement_at net i).name (movement_at net c.args.k).name) _ _ (omega arith) c.any.ensures.ran (λ x b q k. search rules)
