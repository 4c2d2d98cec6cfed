-- The vector against shows the slack.
use Rattle.std.proofs.Common.{◌≡◌, ℕ, zero, suc, ◌+◌, ◌-◌, ◌*◌, ◌≤◌, ◌<◌, sum_by, ℤ, pos, negsuc, ◌-ℤ◌, ◌*ℤ◌, arith, sym, ◌∙◌, ap, ap₂, mul-le-mul, mul-le-mul_left, ⊎_elim}
use Rattle.std.proofs.lemmas.Bool.{cases_lt}
use Rattle.std.proofs.lemmas.Int.{ints}
use borrow.Author.Differences.{up, down}
use Rattle.mp_num.proofs.Ring.{diff, diff_of, diff-mul, diff-eq, pos_diff}
use Rattle.mp_model.specs.Network.{Network, movement_numbers, from_of, share_of}
use Rattle.mp_model.specs.NetworkRules.{IsNetwork}
use Rattle.mp_model.specs.Load.{load, capacity}
use Rattle.mp_laws.proofs.Sums.{sum_by-same, sum_by-add, sum_by-mul}
use Rattle.mp_verdict.specs.Worst.{IsFlow, IsWorth, against, rate_weight, unit_weight, IsWorst, ShowsSigned}
use Rattle.mp_verdict.proofs.Facts.{mul_cancel, fact3, fact4}
use Rattle.mp_verdict.proofs.Capacity.{fact5}

apart : (a b c d : ℕ) → diff a b ≡ diff c d → a + d ≡ c + b
unfolding diff
apart a b c d e = omega (arith, ints, e)

left_is : (q m k : ℕ) → pos q *ℤ (pos m -ℤ pos k) ≡ diff (q * m) (q * k)
unfolding diff
left_is q m k = ap (λ s. s *ℤ diff m k) (pos_diff q) ∙ diff-mul q 0 m k ∙ diff-eq (q * m + 0 * k) (q * k + 0 * m) (q * m) (q * k) (omega arith)

pub right_is : (e : ℤ) (t : ℕ) → e *ℤ pos t ≡ diff (up e * t) (down e * t)
right_is e t = ap₂ (λ a b. a *ℤ b) (diff_of e) (pos_diff t) ∙ diff-mul (up e) (down e) t 0 ∙ diff-eq (up e * t + down e * 0) (up e * 0 + down e * t) (up e * t) (down e * t) (omega arith)

-- the signed equation and the one of natural numbers
pub slack_numbers : (e : ℤ) (q m k t : ℕ) → pos q *ℤ (pos m -ℤ pos k) ≡ e *ℤ pos t → q * m + down e * t ≡ up e * t + q * k
slack_numbers e q m k t h = apart (q * m) (q * k) (up e * t) (down e * t) (sym (left_is q m k) ∙ h ∙ right_is e t)

pub numbers_slack : (e : ℤ) (q m k t : ℕ) → q * m + down e * t ≡ up e * t + q * k → pos q *ℤ (pos m -ℤ pos k) ≡ e *ℤ pos t
numbers_slack e q m k t h = left_is q m k ∙ diff-eq (q * m) (q * k) (up e * t) (down e * t) h ∙ sym (right_is e t)

vector_numbers : (W H c d q z R U load cap s a b : ℕ) → 1 ≤ c → q * (W * H * c * z) + b * (H * U) ≡ a * (H * U) + q * R → c * load ≡ d * R → W * c * s ≡ d * U → cap ≡ W * d * z →
    q * (H * cap) + b * (W * H * s) ≡ a * (W * H * s) + q * load
vector_numbers W H c d q z R U load cap s a b some e l u k =
    mul_cancel c (q * (H * cap) + b * (W * H * s)) (a * (W * H * s) + q * load) some
    (omega (arith, ap (λ n. d * n) e, ap (λ n. q * n) l, ap (λ n. a * H * n) u, ap (λ n. b * H * n) u, ap (λ n. c * q * H * n) k))

some_unit : (W c d s U some : ℕ) → 1 ≤ W → 1 ≤ c → 1 ≤ d → W * c * s ≡ d * U → 1 ≤ U → 1 ≤ s
some_unit W c d zero U some hw hc hd e h = absurd (omega (arith, mul-le-mul hd h))
some_unit W c d (suc s) U some hw hc hd e h = omega arith

pub unit_some : (net : Network) (c : ℕ) (g Z : ℕ → ℕ) → 1 ≤ net.shares → 1 ≤ c → 1 ≤ sum_by Z (movement_numbers net) → 1 ≤ unit_weight net c g Z
unit_some net c g Z hw hc h =
    let ks = movement_numbers net in
    let u : ℕ → ℕ = λ k. share_of net k * g (from_of net k) in
    omega (
      arith,
      sum_by-same (λ k. (u k + net.shares * c) * Z k) (λ k. u k * Z k + net.shares * c * Z k) (λ k. omega arith) ks,
      sum_by-add (λ k. u k * Z k) (λ k. net.shares * c * Z k) ks,
      sum_by-mul (net.shares * c) Z ks,
      mul-le-mul (mul-le-mul hw hc) h,
    )

-- the law of the vector: all signs of the slack
pub vector_shows : (net : Network) → IsNetwork net → (c d : ℕ) (f g Z x : ℕ → ℕ) (place z : ℕ) (e : ℤ) (q : ℕ) → IsFlow net c f g → IsWorth net d Z x → IsWorst net c f g place Z z e q →
    ShowsSigned net (against net d Z x) e q
vector_shows net ok c d f g Z x place z e q flow worth worst =
    let p = against net d Z x in
    let U = unit_weight net c g Z in
    let three = fact3 net ok d Z x worth c f g flow in
    let four = fact4 net ok d Z x worth c f g flow in
    let five = fact5 net ok d Z x worth (place - 1) (omega (arith, worst.is_junction)) worst.outside ∙ ap (λ n. net.shares * d * n) worst.top in
    let numbers = slack_numbers e q (net.shares * net.per * c * z) (rate_weight net f Z) (net.per * U) worst.slack.equal in
    record {
      some = some_unit net.shares c d (sum_by p (movement_numbers net)) U 0 ok.shares flow.some worth.some four (unit_some net c g Z ok.shares flow.some worst.some);
      equal = numbers_slack e q (net.per * capacity net p) (load net p) (net.shares * net.per * sum_by p (movement_numbers net))
          (vector_numbers net.shares net.per c d q z (rate_weight net f Z) U (load net p) (capacity net p) (sum_by p (movement_numbers net)) (up e) (down e) flow.some numbers three four five);
    }

critical_numbers : (q m k : ℕ) → 1 ≤ q → q * m ≡ q * k → m ≡ k
critical_numbers q m k h e = mul_cancel q m k h e

-- a slack of 0: the load is the capacity
pub shows_critical : (net : Network) (p : ℕ → ℕ) (q : ℕ) → 1 ≤ q → ShowsSigned net p (pos 0) q → load net p ≡ net.per * capacity net p
shows_critical net p q h s =
    let n = slack_numbers (pos 0) q (net.per * capacity net p) (load net p) (net.shares * net.per * sum_by p (movement_numbers net)) s.equal in
    sym (mul_cancel q (net.per * capacity net p) (load net p) h (omega (arith, ints, n)))

more_numbers : (q m k t b : ℕ) → 1 ≤ t → q * m + suc b * t ≡ q * k → m < k
more_numbers q m k t b ht e = ⊎_elim (λ (h : m < k). h) (λ (h : k ≤ m). absurd (omega (arith, mul-le-mul_left q h))) (cases_lt m k)

-- a slack below 0: the load is greater
pub shows_overloaded : (net : Network) (p : ℕ → ℕ) (b q : ℕ) → 1 ≤ net.shares → 1 ≤ net.per → ShowsSigned net p (negsuc b) q → net.per * capacity net p < load net p
shows_overloaded net p b q hw hh s =
    let t = net.shares * net.per * sum_by p (movement_numbers net) in
    let n = slack_numbers (negsuc b) q (net.per * capacity net p) (load net p) t s.equal in
    more_numbers q (net.per * capacity net p) (load net p) t b (mul-le-mul (mul-le-mul hw hh) s.some) (omega (arith, ints, n))
