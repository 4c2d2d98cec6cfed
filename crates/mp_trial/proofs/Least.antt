-- The rates after each sweep are at most those of any certificate over the denominator whose excess is at least that of the trial.
use Rattle.std.proofs.Common.{◌≡◌, ℕ, zero, suc, ◌+◌, ◌*◌, ◌≤◌, true, length, sum_by, pos, ◌≤ℤ◌, arith, ap, mul-le-mul, mul-le-mul_left}
use Rattle.std.proofs.lemmas.Int.{ints}
use Rattle.mp_model.specs.Network.{Network, movement_numbers, from_of, to_of, share_of, rate_before, into_link, goes_to, has, entry}
use Rattle.mp_model.specs.NetworkRules.{IsNetwork}
use Rattle.mp_laws.proofs.PlainCertificate.{PlainCert, Holds, Balances, plain_h, plain_inflow}
use Rattle.mp_laws.proofs.Bridge.{to_plain}
use Rattle.mp_laws.proofs.Lists.{at_in, each_in, filter_sub, numbered}
use Rattle.mp_laws.proofs.Sums.{sum_by-le_at}
use Rattle.mp_trial.specs.Laws.{LeastRatesLaw}
use Rattle.mp_trial.specs.Sweeps.{burden, swept_rate, swept, rates_after}
use Rattle.mp_trial.proofs.Rounding.{rounding}
use Rattle.mp_trial.proofs.Bounds.{plain_is}

burden_numbers : (w H D n S A e : ℕ) (d I E h : ℕ) → d ≡ D → S ≤ I → e ≤ E → w * (d * n + H * I) + A * E ≤ A * h → w * (D * n + H * S) + A * e ≤ A * h
burden_numbers w H D n S A e d I E h same more above le = omega (arith, ap (λ t. w * t * n) same, mul-le-mul_left (w * H) more, mul-le-mul_left A above, le)

module _ (net : Network) (ok : IsNetwork net) (D e : ℕ) (p : PlainCert) (holds : Holds net p) (same : p.d ≡ D) (above : e ≤ p.e) where
  pub least : (i k : ℕ) → has (movement_numbers net) k ≡ true → entry (rates_after net D e i) k ≤ plain_h p k
  unfolding rates_after swept swept_rate
  least zero k there = omega (arith, numbered (λ k. 0) (length net.movements) k there)
  least (suc i) k there =
      let h = rates_after net D e i in
      let into = into_link net (from_of net k) in
      let sums = sum_by-le_at (entry h) (plain_h p) into (each_in (λ m. entry h m ≤ plain_h p m) into (λ m im. least i m (filter_sub (λ t. goes_to (to_of net t) (from_of net k)) (movement_numbers net) m im))) in
      let row = at_in (Balances net p) k (movement_numbers net) there holds.balance in
      let le : burden net D e h k ≤ net.shares * net.per * plain_h p k =
      burden_numbers (share_of net k) net.per D (rate_before net k) (sum_by (entry h) into) (net.shares * net.per) e p.d (plain_inflow net (plain_h p) k) p.e (plain_h p k) same sums above row in
      let here = (rounding (burden net D e h k) (net.shares * net.per) (plain_h p k) (mul-le-mul ok.shares ok.per)).1 le in
      omega (arith, here, numbered (swept_rate net D e h) (length net.movements) k there)

pub least_rates : LeastRatesLaw
least_rates net ok D e cert c d above i k there =
    let p = plain_is net ok D cert c d (omega (arith, ints, above)) in
    let over : e ≤ (to_plain cert).e = omega (arith, ints, above, p.excess) in
    let le = least net ok D e (to_plain cert) p.holds p.denominator over i k there in
    let r = p.rate k there in
    omega (arith, ints, le, r)
