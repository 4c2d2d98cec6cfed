use Rattle.std.proofs.Common.{◌≡◌, ◌<◌, ◌+◌, ◌-◌, ◌*◌, ◌∙◌, ap, ap₂, arith, length, ℕ, sym, List, [], get_or, drop, set, refl}
use Rattle.std.specs.Prelude.{unsigned_abs}
use Rattle.std.proofs.lemmas.List.{length-map, drop_all}
use Rattle.mp_model.specs.Network.{Network, flow_of, stands_in, junction_at}
use Rattle.mp_model.specs.Arrivals.{count_in}
use Rattle.mp_press.specs.Queues.{naturals}
use Rattle.mp_press.specs.Written.{IsAmong, written}
use Rattle.mp_press.specs.Presses.{press_by, own_of, own_queue, next_queue}
use Rattle.mp_press.proofs.Known.{all_known, kept_differ}
use Rattle.mp_press.proofs.Among.{count_here}
use Rattle.mp_press.proofs.Sums.{few_at}
use Rattle.mp_press.proofs.Writes.{written_more}
use Rattle.mp_press.proofs.stages.press_own.Goals as goal

known : (net : Network) (j : ℕ) (ks : List ℕ) → ks ≡ own_of net j → (i : ℕ) → i < length ks → IsAmong (length net.movements) (get_or ks i 0)
known net j ks e i h = let all = rw (sym e) at (all_known (stands_in (junction_at net j)) (length net.movements)) in all i 0 h

pub behind_among-behind-requires-clause-known : goal.behind_among-behind-requires-clause-known
behind_among-behind-requires-clause-known c = known c.args.net.now c.args.j _ c.own-ks.ensures c.loop-i.i (omega arith)

pub press-requires-clause-known : goal.press-requires-clause-known
press-requires-clause-known c = known c.args.net.now c.args.j _ c.own-ks.ensures c.loop-i.i (omega arith)

pub press-requires-clause-few : goal.press-requires-clause-few
press-requires-clause-few c = omega (arith, c.queue_at.ensures, few_at c.args.own.now c.loop-i.i c.requires.counts.own_counts)

pub put_press-requires-clause-known : goal.put_press-requires-clause-known
put_press-requires-clause-known c = let k = known c.args.net.now c.args.j _ c.own-ks.ensures c.loop-i.i (omega arith) in omega (arith, k, c.loop-i.auto.presses, c.requires.size, c.requires.acceptable.range.movements)

pub loop-i-preserved : goal.loop-i-preserved
loop-i-preserved c =
    let net = c.args.net.now in
    let j = c.args.j in
    let ks = c.own-ks.result.now in
    let i = c.loop-i.i in
    let k = get_or ks i 0 in
    let q = own_queue net j (naturals c.args.own.now) in
    let r = next_queue net j (naturals c.args.next.now) in
    let f : ℕ → ℕ = press_by net q r in
    let size : length (naturals c.args.own.now) ≡ length (own_of net j) = length-map c.args.own.now unsigned_abs ∙ c.requires.counts.own_size in
    let queue : c.queue_at.result ≡ q k =
    c.queue_at.ensures ∙ sym (count_here (own_of net j) (naturals c.args.own.now) (kept_differ (stands_in (junction_at net j)) (length net.movements)) size i (omega (arith, ap length c.own-ks.ensures)))
    ∙ ap (λ ks. count_in (own_of net j) (naturals c.args.own.now) (get_or ks i 0)) (sym c.own-ks.ensures) in
    let press : c.press.result ≡ f k = c.press.ensures.value ∙ ap₂ (λ a b. flow_of net k * (net.shares * a - b)) queue c.behind_among-behind.ensures.value in
    record {
      value = ap (written f (drop (i + 1) ks)) c.put_press.ensures.value ∙ ap (λ v. written f (drop (i + 1) ks) (set c.loop-i.presses (k - 1) v)) press
          ∙ sym (written_more f ks c.loop-i.presses i k (omega arith) refl) ∙ c.loop-i.invariant.value;
      few = c.put_press.ensures.few;
    }

pub returns-clause-value : goal.returns-clause-value
returns-clause-value c =
    let net = c.args.net.now in
    let f = press_by net (own_queue net c.args.j (naturals c.args.own.now)) (next_queue net c.args.j (naturals c.args.next.now)) in
    let end : drop c.loop-i.i c.own-ks.result.now ≡ [] = drop_all c.loop-i.i c.own-ks.result.now (omega arith) in
    ap (λ ks. written f ks c.loop-i.presses) (sym end) ∙ c.loop-i.invariant.value ∙ ap (λ ks. written f ks c.args.presses.now) c.own-ks.ensures
