use Rattle.std.proofs.Common.{◌≡◌, ◌+◌, length, rules, arith}
use Rattle.std.proofs.lemmas.Iterator.{YieldsList-from_range, items_from_collect}
use Rattle.std.proofs.lemmas.Iterator.Consumers.{YieldsList-from_filter}
use Rattle.std.proofs.lemmas.List.{length-map}
use Rattle.std.specs.List.{list_any}
use Rattle.mp_model.specs.Network.{goes_to, to_of}
use Rattle.mp_net.specs.Parts.{network_of}
use Rattle.mp_net.proofs.tables.targets.Goals as goal

pub returns : goal.returns
returns c =
    let net = network_of c.args.parts.now in
    let end : c.len.result + 1 ≡ length net.links + 1 = simp length-map (omega arith) in
    items_from_collect c.collect.result c.collect.ensures.ran
    (YieldsList-from_filter _ (λ l. list_any (λ k. goes_to (to_of net k) l) c.args.movements.now)
    (YieldsList-from_range 1 (c.len.result + 1) (length net.links) c.filter.ensures.source (omega (arith, end)))
    c.filter.ensures.closure (λ x b q called. search rules))
