use Rattle.std.proofs.Common.{◌≡◌, ◌+◌, length, rules, arith}
use Rattle.std.proofs.lemmas.Iterator.{YieldsList-from_range, items_from_collect}
use Rattle.std.proofs.lemmas.Iterator.Consumers.{YieldsList-from_filter}
use Rattle.std.proofs.lemmas.List.{length-map}
use Rattle.mp_model.specs.Network.{has, from_of}
use Rattle.mp_net.specs.Parts.{network_of}
use Rattle.mp_net.proofs.tables.next.Goals as goal

pub returns : goal.returns
returns c =
    let net = network_of c.args.parts.now in
    let end : c.len.result + 1 ≡ length net.movements + 1 = simp length-map (omega arith) in
    items_from_collect c.collect.result c.collect.ensures.ran
    (YieldsList-from_filter _ (λ k. has c.args.links.now (from_of net k))
    (YieldsList-from_range 1 (c.len.result + 1) (length net.movements) c.filter.ensures.source (omega (arith, end)))
    c.filter.ensures.closure (λ x b q called. search rules))
