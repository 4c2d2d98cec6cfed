use Rattle.std.proofs.Common.{◌≡◌, ◌==◌, ◌≤◌, ◌<◌, ◌-◌, ◌*◌, ◌^◌, ℕ, ap₂, ◌∙◌, sym, arith, length, get_or, List}
use Rattle.mp_model.specs.Network.{Network, share_of, from_of, out_of, entry}
use Rattle.mp_press.specs.Queues.{naturals}
use Rattle.mp_press.specs.Written.{IsAmong}
use Rattle.mp_press.proofs.Known.{all_known, few_kept, share_few}
use Rattle.mp_press.proofs.Sums.{so_far_step, product_fits, few_at}
use Rattle.mp_guard_run.proofs.pressing.queued_on.Goals as goal

known : (net : Network) (l : ℕ) (ks : List ℕ) → ks ≡ out_of net l → (i : ℕ) → i < length ks → IsAmong (length net.movements) (get_or ks i 0)
known net l ks e i h = let all = rw (sym e) at (all_known (λ k. from_of net k == l) (length net.movements)) in all i 0 h

few : (net : Network) (l : ℕ) (ks : List ℕ) → ks ≡ out_of net l → length ks ≤ length net.movements
few net l ks e = rw e (few_kept (λ k. from_of net k == l) (length net.movements))

pub turn-requires : goal.turn-requires
turn-requires c = known c.args.net.now c.args.l _ c.out_of-k-items.ensures c.loop-k.k-index c.loop-k-test.true

pub queue_of-requires : goal.queue_of-requires
queue_of-requires c = let k = known c.args.net.now c.args.l _ c.out_of-k-items.ensures c.loop-k.k-index c.loop-k-test.true in omega (arith, k, c.requires.len)

pub overflow_mul-sum : goal.overflow_mul-sum
overflow_mul-sum c =
    let net = c.args.net.now in
    let ks = c.out_of-k-items.result.now in
    let qs = naturals c.args.counts.now in
    let k = get_or ks c.loop-k.k-index 0 in
    let value : c.from.result * c.queue_of.result ≡ share_of net k * entry qs k = ap₂ ◌*◌ (c.from.ensures ∙ c.turn.ensures.share) c.queue_of.ensures in
    let share = share_few net c.requires.acceptable.network k (known net c.args.l ks c.out_of-k-items.ensures c.loop-k.k-index c.loop-k-test.true) in
    omega (arith, value, product_fits (share_of net k) (entry qs k) (omega (arith, share, c.requires.acceptable.range.shares)) (few_at c.args.counts.now (k - 1) c.requires.counts))

pub loop-k-preserved : goal.loop-k-preserved
loop-k-preserved c =
    let net = c.args.net.now in
    let ks = c.out_of-k-items.result.now in
    let qs = naturals c.args.counts.now in
    let i = c.loop-k.k-index in
    let k = get_or ks i 0 in
    let value : c.from.result * c.queue_of.result ≡ share_of net k * entry qs k = ap₂ ◌*◌ (c.from.ensures ∙ c.turn.ensures.share) c.queue_of.ensures in
    let share = share_few net c.requires.acceptable.network k (known net c.args.l ks c.out_of-k-items.ensures i c.loop-k-test.true) in
    let most : c.from.result * c.queue_of.result ≤ 1000 * 2 ^ 90 = omega (arith, value, product_fits (share_of net k) (entry qs k) (omega (arith, share, c.requires.acceptable.range.shares)) (few_at c.args.counts.now (k - 1) c.requires.counts)) in
    so_far_step (λ k. share_of net k * entry qs k) ks i c.loop-k.sum (c.from.result * c.queue_of.result) (1000 * 2 ^ 90) c.loop-k-test.true value most c.loop-k.invariant.so_far c.loop-k.invariant.small

pub overflow_add-sum : goal.overflow_add-sum
overflow_add-sum c = let more = loop-k-preserved c in omega (arith, more.small, few c.args.net.now c.args.l _ c.out_of-k-items.ensures, c.requires.acceptable.range.movements)

pub returns-clause-few : goal.returns-clause-few
returns-clause-few c = omega (arith, few c.args.net.now c.args.l _ c.out_of-k-items.ensures, c.requires.acceptable.range.movements, c.loop-k.invariant.small)
