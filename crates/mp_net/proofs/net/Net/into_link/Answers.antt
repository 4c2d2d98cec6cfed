use Rattle.std.proofs.Common.{◌≡◌, ap, arith, ◌∙◌, length, ◌-◌, get_or}
use Rattle.mp_model.specs.Network.{Network, into_link}
use Rattle.mp_net.proofs.net.Net.into_link.Goals as goal

pub index-requires : goal.index-requires
index-requires c =
    let count = c.self.invariant.by_link.count in
    let size = ap (λ (net : Network). length net.links) c.self.view_is in
    omega arith

pub returns : goal.returns
returns c =
    let i : c.from.result ≡ c.args.l = c.from.ensures in
    let size = ap (λ (net : Network). length net.links) c.self.view_is in
    c.deref.ensures.value ∙ ap (λ row. row.intos.items) (c.index.ensures ∙ ap (λ n. get_or c.self.inside.by_link.items (n - 1) c.index.result.now) i)
    ∙ (c.self.invariant.by_link.each c.args.l (omega arith) (omega arith) c.index.result.now).intos_are
    ∙ ap (λ net. into_link net c.args.l) c.self.view_is
