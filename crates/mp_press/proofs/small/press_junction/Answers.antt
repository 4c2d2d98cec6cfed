use Rattle.std.proofs.Common.{◌≡◌, ◌≤◌, ◌<◌, ◌+◌, ◌-◌, ◌*◌, ◌^◌, ◌∙◌, ap, ap₂, arith, length, ℕ, sym, List, [], get_or, drop, set, refl}
use Rattle.std.proofs.lemmas.List.{drop_all, length-map}
use Rattle.std.specs.Prelude.{unsigned_abs}
use Rattle.mp_model.specs.Network.{Network, flow_of, stands_in, junction_at, entry}
use Rattle.mp_press.specs.Queues.{naturals}
use Rattle.mp_press.specs.Written.{IsAmong, written}
use Rattle.mp_press.specs.Presses.{press_by, own_of}
use Rattle.mp_press.proofs.Known.{all_known}
use Rattle.mp_press.proofs.Sums.{at_most}
use Rattle.mp_press.proofs.Cached.{downstream_in, downstream_few}
use Rattle.mp_press.proofs.Writes.{written_more}
use Rattle.mp_press.proofs.small.press_junction.Goals as goal

known : (net : Network) (j : ℕ) (ks : List ℕ) → ks ≡ own_of net j → (i : ℕ) → i < length ks → IsAmong (length net.movements) (get_or ks i 0)
known net j ks e i h = let all = rw (sym e) at (all_known (stands_in (junction_at net j)) (length net.movements)) in all i 0 h

pub small_behind-behind-requires-clause-known : goal.small_behind-behind-requires-clause-known
small_behind-behind-requires-clause-known c = known c.args.net.now c.args.j _ c.own-k-items.ensures c.loop-k.k-index c.loop-k-test.true

pub small_behind-behind-requires-clause-small : goal.small_behind-behind-requires-clause-small
small_behind-behind-requires-clause-small c =
    let net = c.args.net.now in
    let ok = c.requires.acceptable in
    let q : ℕ → ℕ = entry (naturals c.args.queues.now) in
    let k = get_or c.own-k-items.result.now c.loop-k.k-index 0 in
    let in_range = known net c.args.j _ c.own-k-items.ensures c.loop-k.k-index c.loop-k-test.true in
    let few : (k : ℕ) → q k ≤ 2 ^ 31 = λ k. at_most (2 ^ 31) (naturals c.args.queues.now) (k - 1) (λ i d lt. let h = c.requires.small i d lt in omega (arith, h)) in
    omega (arith, downstream_in net ok.network q c.args.queued.now c.requires.queued.each k in_range, downstream_few net ok (2 ^ 31) q few k)

pub small_queue-requires-clause-known : goal.small_queue-requires-clause-known
small_queue-requires-clause-known c = let k = known c.args.net.now c.args.j _ c.own-k-items.ensures c.loop-k.k-index c.loop-k-test.true in omega (arith, k, c.requires.len)

pub small_queue-requires-clause-small : goal.small_queue-requires-clause-small
small_queue-requires-clause-small c =
    let k = known c.args.net.now c.args.j _ c.own-k-items.ensures c.loop-k.k-index c.loop-k-test.true in
    c.requires.small (get_or c.own-k-items.result.now c.loop-k.k-index 0 - 1) 0 (omega (arith, k, c.requires.len, length-map c.args.queues.now unsigned_abs))

pub small_press-requires-clause-known : goal.small_press-requires-clause-known
small_press-requires-clause-known c = known c.args.net.now c.args.j _ c.own-k-items.ensures c.loop-k.k-index c.loop-k-test.true

pub put_small-requires-clause-known : goal.put_small-requires-clause-known
put_small-requires-clause-known c = let k = known c.args.net.now c.args.j _ c.own-k-items.ensures c.loop-k.k-index c.loop-k-test.true in omega (arith, k, c.loop-k.auto.presses, c.requires.size)

pub loop-k-preserved : goal.loop-k-preserved
loop-k-preserved c =
    let net = c.args.net.now in
    let ks = c.own-k-items.result.now in
    let i = c.loop-k.k-index in
    let k = get_or ks i 0 in
    let q : ℕ → ℕ = entry (naturals c.args.queues.now) in
    let f : ℕ → ℕ = press_by net q q in
    let in_range = known net c.args.j ks c.own-k-items.ensures i c.loop-k-test.true in
    let down = downstream_in net c.requires.acceptable.network q c.args.queued.now c.requires.queued.each k in_range in
    let press : c.small_press.result ≡ f k = c.small_press.ensures.value ∙ ap₂ (λ a b. flow_of net k * (net.shares * a - b)) c.small_queue.ensures (c.small_behind-behind.ensures ∙ down) in
    record {
      value = ap (written f (drop (i + 1) ks)) c.put_small.ensures.value ∙ ap (λ v. written f (drop (i + 1) ks) (set c.loop-k.presses (k - 1) v)) press
          ∙ sym (written_more f ks c.loop-k.presses i k c.loop-k-test.true refl) ∙ c.loop-k.invariant.value;
      few = c.put_small.ensures.few;
    }

pub returns-clause-value : goal.returns-clause-value
returns-clause-value c =
    let q : ℕ → ℕ = entry (naturals c.args.queues.now) in
    let f = press_by c.args.net.now q q in
    let end : drop c.loop-k.k-index c.own-k-items.result.now ≡ [] = drop_all c.loop-k.k-index c.own-k-items.result.now (omega arith) in
    ap (λ ks. written f ks c.loop-k.presses) (sym end) ∙ c.loop-k.invariant.value ∙ ap (λ ks. written f ks c.args.presses.now) c.own-k-items.ensures
