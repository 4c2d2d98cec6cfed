use Rattle.std.proofs.Common.{◌≡◌, ◌==◌, ◌≤◌, ◌<◌, ◌*◌, ℕ, List, length, get_or, ap, ap₂, ◌∙◌, sym, arith}
use Rattle.std.proofs.lemmas.Nat.{mul-le}
use Rattle.mp_model.specs.Bounds.{greatest_change}
use Rattle.mp_model.specs.Network.{Network, from_of, out_of, share_of}
use Rattle.mp_press.proofs.Known.{all_known}
use Rattle.mp_press.specs.Written.{IsAmong}
use Rattle.mp_drift.proofs.Limits.{limits, few_kept}
use Rattle.mp_drift.proofs.Loops.{summing_more}
use Rattle.mp_drift.proofs.terms.changes_on.Goals as goal

known : (net : Network) (l : ℕ) (ks : List ℕ) → ks ≡ out_of net l → (i : ℕ) → i < length ks → IsAmong (length net.movements) (get_or ks i 0)
known net l ks e i h = let all = rw (sym e) at (all_known (λ k. from_of net k == l) (length net.movements)) in all i 0 h

pub movement-requires : goal.movement-requires
movement-requires c = known c.args.net.now c.args.l _ c.out_of-k-items.ensures c.loop-k.k-index c.loop-k-test.true

pub change_at-requires-clause-known : goal.change_at-requires-clause-known
change_at-requires-clause-known c = known c.args.net.now c.args.l _ c.out_of-k-items.ensures c.loop-k.k-index c.loop-k-test.true

pub loop-k-preserved : goal.loop-k-preserved
loop-k-preserved c =
    let net = c.args.net.now in
    let ks = c.out_of-k-items.result.now in
    let k = get_or ks c.loop-k.k-index 0 in
    let in' = known net c.args.l ks c.out_of-k-items.ensures c.loop-k.k-index c.loop-k-test.true in
    let value : c.from.result * c.change_at.result ≡ share_of net k * greatest_change net k = ap₂ ◌*◌ (c.from.ensures ∙ c.movement.ensures.share) c.change_at.ensures.value in
    let share = (limits net k c.shares-shares.ensures.acceptable in'.0 in'.1).share in
    let few : c.from.result * c.change_at.result ≤ 523000000 = mul-le c.from.result c.change_at.result 1000 523000 (omega (arith, share, c.from.ensures, c.movement.ensures.share)) c.change_at.ensures.few in
    summing_more (λ k. share_of net k * greatest_change net k) 523000000 ks c.loop-k.k-index c.loop-k.sum (c.from.result * c.change_at.result) c.loop-k.invariant c.loop-k-test.true value few

pub overflow_add-sum : goal.overflow_add-sum
overflow_add-sum c =
    let more = loop-k-preserved c in
    let size = ap length c.out_of-k-items.ensures in
    omega (arith, more.small, size, few_kept (λ k. from_of c.args.net.now k == c.args.l) (length c.args.net.now.movements), c.shares-shares.ensures.acceptable.range.movements)

pub returns-clause-few : goal.returns-clause-few
returns-clause-few c =
    let size = ap length c.out_of-k-items.ensures in
    omega (arith, c.loop-k.invariant.small, size, few_kept (λ k. from_of c.args.net.now k == c.args.l) (length c.args.net.now.movements), c.shares-shares.ensures.acceptable.range.movements)
