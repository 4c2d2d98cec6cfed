use Rattle.std.proofs.Common.{◌≡◌, ap, arith, ◌∙◌, length, ◌-◌, get_or}
use Rattle.mp_model.specs.Network.{Network, junction_at, next}
use Rattle.mp_net.proofs.net.Net.next.Goals as goal

pub index-requires : goal.index-requires
index-requires c =
    let count = c.self.invariant.by_junction.count in
    let size = ap (λ (net : Network). length net.junctions) c.self.view_is in
    omega arith

pub returns : goal.returns
returns c =
    let i : c.from.result ≡ c.args.j = c.from.ensures in
    let size = ap (λ (net : Network). length net.junctions) c.self.view_is in
    c.deref.ensures.value ∙ ap (λ row. row.next.items) (c.index.ensures ∙ ap (λ n. get_or c.self.inside.by_junction.items (n - 1) c.index.result.now) i)
    ∙ (c.self.invariant.by_junction.each c.args.j (omega arith) (omega arith) c.index.result.now).next_are
    ∙ ap (λ net. next net (junction_at net c.args.j)) c.self.view_is
