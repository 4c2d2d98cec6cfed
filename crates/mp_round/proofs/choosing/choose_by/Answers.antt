use Rattle.std.proofs.Common.{◌≡◌, ◌∙◌, ap, map}
use Rattle.mp_laws.proofs.Order.{count_map}
use Rattle.mp_model.specs.Arrivals.{count_in}
use Rattle.mp_model.specs.Network.{entry, junction_at, next, own, stands_in}
use Rattle.mp_press.proofs.Known.{all_known}
use Rattle.mp_press.specs.Presses.{next_queue, own_queue}
use Rattle.mp_press.specs.Queues.{naturals}
use Rattle.mp_round.specs.Deciding.{seen_in}
use Rattle.mp_round.proofs.Choices.{greatest_same}
use Rattle.mp_round.proofs.Counting.{naturals_pos}
use Rattle.mp_round.proofs.choosing.choose_by.Goals as goal

pub counts_of-own-requires-clause-known : goal.counts_of-own-requires-clause-known
counts_of-own-requires-clause-known c = rw (c.own.ensures, c.requires.on.queues) (all_known (stands_in (junction_at c.args.net.now c.args.j)) _)

pub returns-clause-value : goal.returns-clause-value
returns-clause-value c =
    let net = c.args.net.now in
    let j = c.args.j in
    let q = entry c.args.state.now.queues in
    let r = seen_in net c.args.copies.now j in
    let ks = own net (junction_at net j) in
    let ls = next net (junction_at net j) in
    let mine : naturals c.deref.result.now ≡ map q ks = ap naturals (c.deref.ensures.0 ∙ c.counts_of-own.ensures.items) ∙ naturals_pos q c.own.result.now ∙ ap (map q) c.own.ensures in
    let behind : naturals c.deref-2.result.now ≡ map r ls = ap naturals (c.deref-2.ensures.0 ∙ c.seen_next.ensures.items) ∙ naturals_pos r ls in
    c.choose.ensures.value
    ∙ greatest_same net c.shares.ensures.acceptable.network j (own_queue net j (naturals c.deref.result.now)) q (next_queue net j (naturals c.deref-2.result.now)) r
    (λ k h. ap (λ xs. count_in ks xs k) mine ∙ count_map q ks k h) (λ k h. ap (λ xs. count_in ls xs k) behind ∙ count_map r ls k h)
