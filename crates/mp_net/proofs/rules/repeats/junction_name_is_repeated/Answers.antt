use Rattle.std.proofs.Common.{rules, arith}
use Rattle.mp_net.specs.Parts.{network_of}
use Rattle.std.specs.Str.{bytes_eq}
use Rattle.mp_model.specs.Network.{junction_at}
use Rattle.mp_net.proofs.Numbers.{asked}
use Rattle.mp_net.proofs.rules.repeats.junction_name_is_repeated.Goals as goal

pub returns : goal.returns
returns c = let net = network_of c.args.parts.now in asked (λ i. bytes_eq (junction_at net i).name (junction_at net c.args.j).name) _ _ (omega arith) c.any.ensures.ran (λ x b q k. search rules)
