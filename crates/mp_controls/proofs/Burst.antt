-- In a network with a burst and three movements one vehicle more in a queue would keep within the greatest drift value.
use Rattle.std.proofs.Common.{◌≡◌, ◌==◌, ℕ, ◌+◌, ◌-◌, ◌*◌, ◌/◌, ◌≤◌, ◌<◌, max, true, cond, List, [], ◌∷◌, length, sum_by, nat_abs, arith, refl, ◌∙◌, ap, ⊎_elim, ◌⊎◌, inl, inr, mul-le-mul, mul-le-mul_left, eqb-true, zero-le}
use Rattle.std.specs.List.{range_with_len}
use Rattle.std.proofs.Math.Nat.{le_of_mul-le-mul_left, lt-mul-div-succ, div-mul-le_self}
use Rattle.std.proofs.lemmas.Bool.{cases_lt}
use Rattle.std.proofs.lemmas.List.Sums.{sum_by-cons}
use Rattle.std.proofs.lemmas.List.FromFn.{length-range_with_len}
use Rattle.mp_model.specs.Bounds.{credit_term, step_term, drift_constant, queue_threshold, greatest_drift, threshold_drift}
use Rattle.mp_model.specs.Certificate.{Cert, Certifies}
use Rattle.mp_model.specs.Network.{Network, movement_numbers, link_numbers, link_at, from_of, share_of, flow_of, rate_before, burst_before, out_of, has, stands_in}
use Rattle.mp_model.specs.NetworkRules.{IsNetwork}
use Rattle.mp_model.specs.Slack.{IsSlack}
use Rattle.mp_laws.proofs.Bridge.{to_plain, plain_holds}
use Rattle.mp_laws.proofs.Drift.{cond-le}
use Rattle.mp_laws.proofs.Lists.{at_in, each_in, filter_has}
use Rattle.mp_laws.proofs.PlainCertificate.{Balances, plain_h, plain_inflow}
use Rattle.mp_laws.proofs.Sums.{sum_by-le, sum_by-le_at, sum_by-add, sum_by-mul, sum_by-same_at, sum_by-filter}
use Rattle.mp_laws.proofs.Tied.{excess_is, slack_is}
use Rattle.mp_controls.specs.Closer.{credit_part, burst_part, closer_drift, constant_left}
use Rattle.mp_controls.specs.OneLower.{HasBurst}
use Rattle.mp_controls.proofs.Below.{excess_some}
use Rattle.mp_controls.proofs.Numbers.{gentle_one_more, steep_one_more}
use Rattle.mp_controls.proofs.Still.{rate_most}

-- ones sum to how many there are
ones_of : (ks : List ℕ) → sum_by (λ (k : ℕ). 1) ks ≡ length ks
ones_of [] = refl
ones_of (k ∷ ks) = omega (arith, sum_by-cons (λ (k : ℕ). 1) k ks, ones_of ks)

ones : (a n : ℕ) → sum_by (λ (k : ℕ). 1) (range_with_len a n) ≡ n
ones a n = ones_of (range_with_len a n) ∙ length-range_with_len a n

-- the burst of movement k in its credit-and-burst term
abbrev burst_term : Network → ℕ → ℕ
burst_term net k = share_of net k * net.per * burst_before net k

terms_apart : (net : Network) → sum_by (credit_term net) (movement_numbers net) ≡ sum_by (credit_part net) (movement_numbers net) + sum_by (burst_term net) (movement_numbers net)
terms_apart net = sum_by-add (credit_part net) (burst_term net) (movement_numbers net)

product_turn : (w H b : ℕ) → w * H * b ≡ H * b * w
product_turn w H b = omega arith

-- with a burst they sum to at least the share total times the rate length
bursts_some : (net : Network) → IsNetwork net → HasBurst net → net.shares * net.per ≤ sum_by (burst_term net) (movement_numbers net)
bursts_some net ok burst =
    let l = burst.0 in
    let ks = out_of net l in
    let b = (link_at net l).burst in
    let split : sum_by (share_of net) ks ≡ net.shares = at_in (λ l. sum_by (share_of net) (out_of net l) ≡ net.shares) l (link_numbers net) burst.1 ok.split in
    let same : sum_by (burst_term net) ks ≡ sum_by (λ k. net.per * b * share_of net k) ks = sum_by-same_at (burst_term net) (λ k. net.per * b * share_of net k) ks (each_in _ ks (λ k here.
    ap (λ l. share_of net k * net.per * (link_at net l).burst) (eqb-true (from_of net k) l (filter_has (λ k. from_of net k == l) (movement_numbers net) k here)) ∙ product_turn (share_of net k) net.per b)) in
    let whole = sum_by-mul (net.per * b) (share_of net) ks in
    let part = sum_by-filter (λ k. from_of net k == l) (burst_term net) (movement_numbers net) in
    let most = sum_by-le (λ k. cond (from_of net k == l) (burst_term net k) 0) (burst_term net) (λ k. cond-le (from_of net k == l) (burst_term net k) (burst_term net k) (omega arith)) (movement_numbers net) in
    omega (arith, same, whole, part, most, ap (λ n. net.per * b * n) split, mul-le-mul_left (net.per * net.shares) burst.2)

-- differences of squares sum to at most the difference of the squares of the sums
squares_apart : (f g : ℕ → ℕ) → ((k : ℕ) → g k ≤ f k) → (ks : List ℕ) → sum_by (λ k. f k * f k - g k * g k) ks + sum_by g ks * sum_by g ks ≤ sum_by f ks * sum_by f ks
squares_apart f g less [] = zero-le
squares_apart f g less (k ∷ ks) =
    let sums : sum_by g ks ≤ sum_by f ks = sum_by-le g f less ks in
    let both = mul-le-mul (less k) sums in
    let square = mul-le-mul (less k) (less k) in
    omega (arith, both, square, squares_apart f g less ks, sum_by-cons (λ k. f k * f k - g k * g k) k ks, ap (λ n. n * n) (sum_by-cons g k ks), ap (λ n. n * n) (sum_by-cons f k ks))

slack_numbers : (e d E D h c r b : ℕ) → 1 ≤ d → 1 ≤ r → e * D ≡ E * d → b + r * e ≤ r * h → h ≤ c * d → E ≤ D * c
slack_numbers e d E D h c r b d1 r1 same balance rate =
    let a : e ≤ h = le_of_mul-le-mul_left {k = r} (omega arith) r1 in
    let m : d * E ≤ d * (D * c) = omega (arith, same, mul-le-mul_left D a, mul-le-mul_left D rate) in
    le_of_mul-le-mul_left {k = d} m d1

-- the slack is at most each flow
slack_most : (net : Network) → IsNetwork net → (cert : Cert) → Certifies net cert → (E D : ℕ) → IsSlack cert E D → (k : ℕ) → has (movement_numbers net) k ≡ true → E ≤ D * flow_of net k
slack_most net ok cert c E D slack k here =
    let plain = to_plain cert in
    let holds = plain_holds net ok cert c.rules (excess_is cert.e c.excess).0 in
    let placed = at_in (λ k. sum_by (λ j. cond (stands_in j k) 1 0) net.junctions ≡ 1) k (movement_numbers net) here ok.placed in
    let rate = rate_most net plain.d (plain_h plain) k here net.junctions plain.mixes holds.served (omega arith) in
    let balance = at_in (Balances net plain) k (movement_numbers net) here holds.balance in
    slack_numbers (nat_abs cert.e) (nat_abs cert.d) E D (plain_h plain k) (flow_of net k) (net.shares * net.per) (share_of net k * (nat_abs cert.d * rate_before net k + net.per * plain_inflow net (plain_h plain) k))
    holds.d (mul-le-mul ok.shares ok.per) (slack_is net cert c E D slack) balance rate

step_most : (r c m o : ℕ) → m ≡ max (r * c) o → r * c ≤ m
step_most r c m o e = omega arith

product_of_step : (r E D K M c : ℕ) → E ≤ D * c → r * c ≤ M → (r * E * K ≤ D * (K * M)) × ((r * E) * (r * E) * 1 ≤ D * D * (M * M))
product_of_step r E D K M c slack step =
    let a : r * E ≤ D * M = omega (arith, mul-le-mul_left r slack, mul-le-mul_left D step) in
    (omega (arith, mul-le-mul_left K a), omega (arith, mul-le-mul a a))

product_of_one : (r K M c : ℕ) → 1 ≤ c → r * c ≤ M → (r * K ≤ K * M) × (r * r * 1 ≤ M * M)
product_of_one r K M c some step =
    let a : r ≤ M = omega (arith, mul-le-mul_left r some) in
    (omega (arith, mul-le-mul_left K a), omega (arith, mul-le-mul a a))

-- the drift constant is large against the terms
module _ (net : Network) (ok : IsNetwork net) (three : 3 ≤ length net.movements) where
  step_flow : (k : ℕ) → net.shares * net.per * flow_of net k ≤ step_term net k
  step_flow k = omega arith

  constant_gentle : 2 * (net.shares * net.per) * sum_by (credit_term net) (movement_numbers net) + 3 * (net.shares * net.per * (net.shares * net.per)) ≤ drift_constant net
  constant_gentle =
      let r = net.shares * net.per in
      let ks = movement_numbers net in
      let K = credit_term net in
      let M = step_term net in
      let one : (k : ℕ) → has ks k ≡ true → (r * K k ≤ K k * M k) × (r * r * 1 ≤ M k * M k) = λ k here. product_of_one r (K k) (M k) (flow_of net k) (at_in (λ k. 1 ≤ flow_of net k) k ks here ok.flow) (step_flow k) in
      let a = sum_by-le_at (λ k. r * K k) (λ k. K k * M k) ks (each_in _ ks (λ k here. (one k here).0)) in
      let b = sum_by-le_at (λ k. r * r * 1) (λ k. M k * M k) ks (each_in _ ks (λ k here. (one k here).1)) in
      omega (arith, a, b, sum_by-mul r K ks, sum_by-mul (r * r) (λ k. 1) ks, ones 1 (length net.movements), mul-le-mul_left (r * r) three, ap (λ n. r * r * n) (ones 1 (length net.movements)))

  constant_steep : (E D : ℕ) → ((k : ℕ) → has (movement_numbers net) k ≡ true → E ≤ D * flow_of net k) →
      2 * (net.shares * net.per) * D * E * sum_by (credit_term net) (movement_numbers net) + 3 * (net.shares * net.per * (net.shares * net.per)) * (E * E) ≤ D * D * drift_constant net
  constant_steep E D slack =
      let r = net.shares * net.per in
      let ks = movement_numbers net in
      let K = credit_term net in
      let M = step_term net in
      let one : (k : ℕ) → has ks k ≡ true → (r * E * K k ≤ D * (K k * M k)) × ((r * E) * (r * E) * 1 ≤ D * D * (M k * M k)) = λ k here. product_of_step r E D (K k) (M k) (flow_of net k) (slack k here) (step_flow k) in
      let a = sum_by-le_at (λ k. r * E * K k) (λ k. D * (K k * M k)) ks (each_in _ ks (λ k here. (one k here).0)) in
      let b = sum_by-le_at (λ k. (r * E) * (r * E) * 1) (λ k. D * D * (M k * M k)) ks (each_in _ ks (λ k here. (one k here).1)) in
      let s1 = sum_by-mul (r * E) K ks in
      let s2 = sum_by-mul D (λ k. K k * M k) ks in
      let s3 = sum_by-mul ((r * E) * (r * E)) (λ k. 1) ks in
      let s4 = sum_by-mul (D * D) (λ k. M k * M k) ks in
      let n = ap (λ n. (r * E) * (r * E) * n) (ones 1 (length net.movements)) in
      omega (arith, mul-le-mul_left (2 * D) a, b, ap (λ n. 2 * D * n) s1, ap (λ n. 2 * D * n) s2, s3, s4, n, mul-le-mul_left ((r * E) * (r * E)) three)

max_cases : (n a b : ℕ) → n ≤ max a b → (n ≤ a) ⊎ (n ≤ b)
max_cases n a b h = ⊎_elim (λ (x : a < n). inr (omega arith)) (λ (x : n ≤ a). inl x) (cases_lt a n)

left_parts : (D B c : ℕ) → 1 ≤ c → (D * B ≡ c * (D * B / c) + (D * B - c * (D * B / c))) × (D * B - c * (D * B / c) < c)
left_parts D B c some = let low = div-mul-le_self (D * B) c in let high = lt-mul-div-succ (D * B) some in (omega (arith, low), omega (arith, low, high))

-- one vehicle more would keep within the greatest drift value
one_more_threshold : (net : Network) → IsNetwork net → HasBurst net → 3 ≤ length net.movements → (cert : Cert) → Certifies net cert → (E D : ℕ) → IsSlack cert E D → (a : ℕ) → a * a ≤ closer_drift net E D →
    (a + net.shares * net.per) * (a + net.shares * net.per) ≤ threshold_drift net E D
one_more_threshold net ok burst three cert c E D slack a near =
    let r = net.shares * net.per in
    let ks = movement_numbers net in
    let z = sum_by (credit_term net) ks in
    let u = sum_by (credit_part net) ks in
    let v = sum_by (burst_term net) ks in
    let B = drift_constant net in
    let f = 2 * (r * r) * E in
    let L = queue_threshold net E D in
    let x = D * B - f * L in
    let D_some = slack.lowest.denominator in
    let E_some = excess_some (nat_abs cert.e) D E (nat_abs cert.d) (slack_is net cert c E D slack) (excess_is cert.e c.excess).1 D_some in
    let r1 : 1 ≤ r = mul-le-mul ok.shares ok.per in
    let parts = left_parts D B f (omega (arith, mul-le-mul (mul-le-mul r1 r1) E_some)) in
    let apart = terms_apart net in
    let some = bursts_some net ok burst in
    let squares = squares_apart (credit_term net) (credit_part net) (λ k. omega arith) ks in
    let left : D * constant_left net E D ≤ x = omega (arith, div-mul-le_self x D) in
    let cases = max_cases (a * a) _ _ near in
    ⊎_elim
    (λ (steep : D < E).
    steep_one_more r z L D E B x a u v (burst_part net) (constant_left net E D)
    (record { some = r1; denominator = D_some; slack = omega arith; burst = omega (arith, apart, some); parts = parts.0; left = parts.1; constant = constant_steep net ok three E D (slack_most net ok cert c E D slack) })
    apart some squares left cases)
    (λ (gentle : E ≤ D).
    gentle_one_more r z L D E B x a u v (burst_part net) (constant_left net E D)
    (record { some = r1; denominator = D_some; slack = gentle; burst = omega (arith, apart, some); parts = parts.0; left = parts.1; constant = constant_gentle net ok three })
    apart some squares left cases)
    (cases_lt D E)

pub one_more : (net : Network) → IsNetwork net → HasBurst net → 3 ≤ length net.movements → (cert : Cert) → Certifies net cert → (E D : ℕ) → IsSlack cert E D → (a : ℕ) → a * a ≤ closer_drift net E D →
    (a + net.shares * net.per) * (a + net.shares * net.per) ≤ greatest_drift net E D
one_more net ok burst three cert c E D slack a near = omega (arith, one_more_threshold net ok burst three cert c E D slack a near)
