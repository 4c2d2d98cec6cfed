-- The rates at a slack that is not negative balance, with the slack between them.
use Rattle.std.proofs.Common.{◌≡◌, ℕ, zero, suc, ◌+◌, ◌*◌, ◌≤◌, true, length, sum_by, pos, ◌+ℤ◌, ◌*ℤ◌, arith, sym, ◌∙◌, ap, mul-zero, mul-le-mul}
use Rattle.std.proofs.lemmas.Int.{ints}
use Rattle.mp_model.specs.Network.{Network, movement_numbers, link_numbers, link_at, from_of, to_of, share_of, rate_before, into_link, has, goes_to}
use Rattle.mp_model.specs.NetworkRules.{IsNetwork}
use Rattle.mp_laws.proofs.Sums.{sum_by-add, sum_by-mul, sum_by-same}
use Rattle.mp_laws.proofs.Lists.{at_in}
use Rattle.mp_verdict.specs.Worst.{IsFlow}
use Rattle.mp_verdict.proofs.Plain.{AreRates, unit_asked}
use Rattle.mp_verdict.proofs.Facts.{mul_cancel, sum_by-same_in, sum_by-ones}
use Rattle.mp_verdict.proofs.Reduce.{of_filter}
use Rattle.mp_verdict.proofs.Signed.{mul_posℤ}

need_numbers : (x a u K h : ℕ) → pos x +ℤ (pos a *ℤ pos u) ≡ pos K *ℤ pos h → x + a * u ≡ K * h
need_numbers x a u K h e = omega (arith, ints, mul_posℤ a u, mul_posℤ K h, e)

excess_numbers : (x a K E : ℕ) → pos x *ℤ pos a ≡ pos K *ℤ pos E → x * a ≡ K * E
excess_numbers x a K E e = omega (arith, ints, mul_posℤ x a, mul_posℤ K E, e)

balance_numbers : (W H c w n f g F G N a q K D E S h : ℕ) → 1 ≤ K → W * f ≡ F + c * (W * n) → W * g ≡ G + c * (W * N) → W * H * c * q ≡ K * D → W * H * c * a ≡ K * E →
    K * S ≡ q * F + a * H * (G + W * c * N) → w * f * q + a * (H * (w * g + W * c)) ≡ K * h → w * (D * n + H * S) + W * H * E ≡ W * H * h
balance_numbers W H c w n f g F G N a q K D E S h some ef eg ed ee es eh =
    mul_cancel K (w * (D * n + H * S) + W * H * E) (W * H * h) some
    (omega (arith, ap (λ t. w * n * t) ed, ap (λ t. w * H * t) es, ap (λ t. W * H * t) ee, ap (λ t. W * H * t) eh, ap (λ t. w * H * q * t) ef, ap (λ t. w * H * H * a * t) eg))

module _ (net : Network) (ok : IsNetwork net) (c : ℕ) (f g : ℕ → ℕ) (flow : IsFlow net c f g) (a q : ℕ) (some : 1 ≤ q) (D E : ℕ) (h : ℕ → ℕ)
    (r : AreRates net c f g (pos a) q D (pos E) (λ k. pos (h k))) where
  rate_is : (k : ℕ) → has (movement_numbers net) k ≡ true → share_of net k * f (from_of net k) * q + a * (net.per * unit_asked net c g k) ≡ r.factor * h k
  rate_is k m = need_numbers (share_of net k * f (from_of net k) * q) a (net.per * unit_asked net c g k) r.factor (h k) (r.rate k m)

  excess_is : net.shares * net.per * c * a ≡ r.factor * E
  excess_is = excess_numbers (net.shares * net.per * c) a r.factor E r.excess

  -- the rates of the movements into a link
  into_is : (l : ℕ) → r.factor * sum_by h (into_link net l) ≡ q * sum_by (λ j. share_of net j * f (from_of net j)) (into_link net l) + a * net.per * (sum_by (λ j. share_of net j * g (from_of net j)) (into_link net l) + net.shares * c * length (into_link net l))
  into_is l =
      let js = into_link net l in
      let F : ℕ → ℕ = λ j. share_of net j * f (from_of net j) in
      let G : ℕ → ℕ = λ j. share_of net j * g (from_of net j) in
      let W = net.shares in
      let out = sym (sum_by-mul r.factor h js) in
      let terms = sum_by-same_in (λ j. r.factor * h j) (λ j. q * F j + a * net.per * (G j + W * c)) js (λ j i. omega (arith, rate_is j (of_filter (λ k. goes_to (to_of net k) l) j (movement_numbers net) i))) in
      let split = sum_by-add (λ j. q * F j) (λ j. a * net.per * (G j + W * c)) js in
      let left = sum_by-mul q F js in
      let right = sum_by-mul (a * net.per) (λ j. G j + W * c) js in
      let inner = sum_by-add G (λ j. W * c) js in
      let ones = sum_by-same (λ j. W * c) (λ j. W * c * 1) (λ j. omega arith) js ∙ sum_by-mul (W * c) (λ j. 1) js ∙ ap (λ n. W * c * n) (sum_by-ones js) in
      omega (arith, out, terms, split, left, right, ap (λ n. a * net.per * n) inner, ap (λ n. a * net.per * n) ones)

  pub balance_is : (k : ℕ) → has (movement_numbers net) k ≡ true → share_of net k * (D * rate_before net k + net.per * sum_by h (into_link net (from_of net k))) + net.shares * net.per * E ≡ net.shares * net.per * h k
  balance_is k m =
      let l = from_of net k in
      let link_in = at_in (λ k. has (link_numbers net) (from_of net k) ≡ true) k (movement_numbers net) m ok.from in
      balance_numbers net.shares net.per c (share_of net k) (rate_before net k) (f l) (g l) (sum_by (λ j. share_of net j * f (from_of net j)) (into_link net l)) (sum_by (λ j. share_of net j * g (from_of net j)) (into_link net l)) (length (into_link net l)) a q r.factor D E (sum_by h (into_link net l)) (h k) r.some
      (at_in (λ l. net.shares * f l ≡ sum_by (λ j. share_of net j * f (from_of net j)) (into_link net l) + c * (net.shares * (link_at net l).rate)) l (link_numbers net) link_in flow.rate)
      (at_in (λ l. net.shares * g l ≡ sum_by (λ j. share_of net j * g (from_of net j)) (into_link net l) + c * (net.shares * length (into_link net l))) l (link_numbers net) link_in flow.unit)
      r.whole excess_is (into_is l) (rate_is k m)

  positive : (K D : ℕ) → 1 ≤ K * D → 1 ≤ D
  positive K zero h = absurd (omega (arith, mul-zero K))
  positive K (suc D) h = omega arith

  pub whole_some : 1 ≤ D
  whole_some = positive r.factor D (omega (arith, r.whole, mul-le-mul (mul-le-mul (mul-le-mul ok.shares ok.per) flow.some) some))

  -- the slack of the rates is a over q
  pub slack_same : E * q ≡ a * D
  slack_same = mul_cancel r.factor (E * q) (a * D) r.some (omega (arith, ap (λ n. n * q) excess_is, ap (λ n. a * n) r.whole))
