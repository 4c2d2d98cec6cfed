use Rattle.std.proofs.Common.{◌+◌, length, rules, arith}
use Rattle.std.proofs.lemmas.List.{length-map}
use Rattle.std.proofs.lemmas.Iterator.{YieldsList-from_range}
use Rattle.std.proofs.lemmas.Iterator.Consumers.{YieldsList-from_filter, count_from_yields_List}
use Rattle.mp_model.specs.Network.{junction_at, stands_in}
use Rattle.mp_net.specs.Parts.{network_of}
use Rattle.mp_net.proofs.rules.stages.count_own.Goals as goal

pub returns : goal.returns
returns c =
    let net = network_of c.args.parts.now in
    count_from_yields_List _ c.count.result c.count.ensures.ran
    (YieldsList-from_filter _ (stands_in (junction_at net c.args.j)) (YieldsList-from_range 1 (c.len.result + 1) (length net.movements) c.filter.ensures.source (simp length-map (omega arith))) c.filter.ensures.closure (λ x b q k. search rules))
