use Rattle.std.proofs.Common.{◌≡◌, ap, arith, ◌∙◌, length, ◌-◌, get_or}
use Rattle.mp_model.specs.Network.{Network, junction_of_link}
use Rattle.mp_net.proofs.net.Net.junction_of.Goals as goal

pub index-requires : goal.index-requires
index-requires c =
    let count = c.self.invariant.by_link.count in
    let size = ap (λ (net : Network). length net.links) c.self.view_is in
    omega arith

pub returns : goal.returns
returns c =
    let i : c.from.result ≡ c.args.l = c.from.ensures in
    let size = ap (λ (net : Network). length net.links) c.self.view_is in
    ap (λ row. row.junction) (c.index.ensures ∙ ap (λ n. get_or c.self.inside.by_link.items (n - 1) c.index.result.now) i)
    ∙ (c.self.invariant.by_link.each c.args.l (omega arith) (omega arith) c.index.result.now).junction_is
    ∙ ap (λ net. junction_of_link net c.args.l) c.self.view_is
