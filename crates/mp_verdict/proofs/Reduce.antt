-- A vector that is a multiple of another shows the same.
use Rattle.std.proofs.Common.{◌≡◌, ◌==◌, ℕ, zero, suc, ◌+◌, ◌-◌, ◌*◌, ◌≤◌, ◌<◌, Bool, true, List, [], ◌∷◌, filter, sum_by, Option, Some, None, ℤ, arith, sym, ◌∙◌, ap, mul-zero, mul-le-mul_left, ⊎_elim}
use Rattle.std.specs.List.{AllByRecursion}
use Rattle.std.proofs.lemmas.Bool.{cases_lt, false≢true}
use Rattle.std.proofs.lemmas.List.Sums.{sum_by-cons}
use borrow.Author.Differences.{up, down}
use Rattle.mp_model.specs.Network.{Network, Junction, movement_numbers, from_of, to_of, share_of, flow_of, rate_before, downstream, out_of_target, has}
use Rattle.mp_model.specs.NetworkRules.{IsNetwork}
use Rattle.mp_model.specs.Pressure.{positive_weight, queued_downstream, pressure}
use Rattle.mp_model.specs.Load.{junction_capacity, load, capacity}
use Rattle.mp_laws.proofs.Sums.{sum_by-mul}
use Rattle.mp_laws.proofs.Lists.{at_in, filter_sub}
use Rattle.mp_verdict.specs.Worst.{ShowsSigned}
use Rattle.mp_verdict.proofs.Facts.{mul_cancel, sum_by-same_in}
use Rattle.mp_verdict.proofs.Capacity.{scaled_top, GoodStages}
use Rattle.mp_verdict.proofs.Vector.{slack_numbers, numbers_slack}

pub of_filter : (p : ℕ → Bool) (x : ℕ) (xs : List ℕ) → has (filter p xs) x ≡ true → has xs x ≡ true
of_filter p x xs h = filter_sub p xs x h

of_target : (net : Network) (to : Option ℕ) (j : ℕ) → has (out_of_target net to) j ≡ true → has (movement_numbers net) j ≡ true
of_target net None j h = absurd (false≢true h)
of_target net (Some l) j h = of_filter (λ k. from_of net k == l) j (movement_numbers net) h

scaled_push : (W m a b q r : ℕ) → q ≡ m * r → a ≡ m * b → W * q - a ≡ m * (W * r - b)
scaled_push W m a b q r e h = ⊎_elim
    (λ (l : W * r < b). let z : W * r - b ≡ 0 = omega arith in omega (arith, ap (λ n. W * n) e, mul-le-mul_left m (let k : W * r ≤ b = omega arith in k), ap (λ n. m * n) z))
    (λ (l : b ≤ W * r). let s : (W * r - b) + b ≡ W * r = omega arith in omega (arith, ap (λ n. W * n) e, ap (λ n. m * n) s)) (cases_lt (W * r) b)

module _ (net : Network) (ok : IsNetwork net) (m : ℕ) (some : 1 ≤ m) (p r : ℕ → ℕ) (multiple : (k : ℕ) → has (movement_numbers net) k ≡ true → p k ≡ m * r k) where
  scaled_load : load net p ≡ m * load net r
  scaled_load =
      sum_by-same_in (λ k. p k * share_of net k * rate_before net k) (λ k. m * (r k * share_of net k * rate_before net k)) (movement_numbers net)
      (λ k h. omega (arith, ap (λ n. n * share_of net k * rate_before net k) (multiple k h)))
      ∙ sum_by-mul m (λ k. r k * share_of net k * rate_before net k) (movement_numbers net)

  scaled_sum : sum_by p (movement_numbers net) ≡ m * sum_by r (movement_numbers net)
  scaled_sum = sum_by-same_in p (λ k. m * r k) (movement_numbers net) multiple ∙ sum_by-mul m r (movement_numbers net)

  scaled_queued : (k : ℕ) → queued_downstream net p k ≡ m * queued_downstream net r k
  scaled_queued k =
      sum_by-same_in (λ j. share_of net j * p j) (λ j. m * (share_of net j * r j)) (downstream net k)
      (λ j h. omega (arith, ap (λ n. share_of net j * n) (multiple j (of_target net (to_of net k) j h))))
      ∙ sum_by-mul m (λ j. share_of net j * r j) (downstream net k)

  scaled_pressure : (stage : List ℕ) → AllByRecursion (λ k. has (movement_numbers net) k ≡ true) stage → pressure net p stage ≡ m * pressure net r stage
  scaled_pressure stage all =
      sum_by-same_in (λ k. flow_of net k * positive_weight net p k) (λ k. m * (flow_of net k * positive_weight net r k)) stage
      (λ k i. let e = scaled_push net.shares m (queued_downstream net p k) (queued_downstream net r k) (p k) (r k) (multiple k (at_in (λ k. has (movement_numbers net) k ≡ true) k stage i all)) (scaled_queued k) in omega (arith, ap (λ n. flow_of net k * n) e))
      ∙ sum_by-mul m (λ k. flow_of net k * positive_weight net r k) stage

  scaled_caps : (js : List Junction) → AllByRecursion (λ j. GoodStages net j.stages) js → sum_by (junction_capacity net p) js ≡ m * sum_by (junction_capacity net r) js
  scaled_caps [] good = sym (mul-zero m)
  scaled_caps (j ∷ js) good =
      let here : junction_capacity net p j ≡ m * junction_capacity net r j = scaled_top net m (pressure net p) (pressure net r) j.stages good.0 scaled_pressure in
      let a : sum_by (junction_capacity net r) (j ∷ js) ≡ junction_capacity net r j + sum_by (junction_capacity net r) js = sum_by-cons (junction_capacity net r) j js in
      omega (arith, here, scaled_caps js good.1, sum_by-cons (junction_capacity net p) j js, ap (λ n. m * n) a)

  some_sum : (s s' : ℕ) → s ≡ m * s' → 1 ≤ s → 1 ≤ s'
  some_sum s zero e h = absurd (omega (arith, mul-zero m))
  some_sum s (suc s') e h = omega arith

  shown_numbers : (H A q c l s c' l' s' a b : ℕ) → c ≡ m * c' → l ≡ m * l' → s ≡ m * s' → q * (H * c) + b * (A * s) ≡ a * (A * s) + q * l → q * (H * c') + b * (A * s') ≡ a * (A * s') + q * l'
  shown_numbers H A q c l s c' l' s' a b e1 e2 e3 h = mul_cancel m (q * (H * c') + b * (A * s')) (a * (A * s') + q * l') some
      (omega (arith, h, ap (λ n. q * H * n) e1, ap (λ n. q * n) e2, ap (λ n. b * A * n) e3, ap (λ n. a * A * n) e3))

  -- what the multiple shows, the vector shows
  pub reduced_shows : (e : ℤ) (q : ℕ) → ShowsSigned net p e q → ShowsSigned net r e q
  reduced_shows e q s =
      let A = net.shares * net.per in
      let n = slack_numbers e q (net.per * capacity net p) (load net p) (A * sum_by p (movement_numbers net)) s.equal in
      record {
        some = some_sum (sum_by p (movement_numbers net)) (sum_by r (movement_numbers net)) scaled_sum s.some;
        equal = numbers_slack e q (net.per * capacity net r) (load net r) (A * sum_by r (movement_numbers net))
            (shown_numbers net.per A q (capacity net p) (load net p) (sum_by p (movement_numbers net)) (capacity net r) (load net r) (sum_by r (movement_numbers net)) (up e) (down e) (scaled_caps net.junctions ok.stages) scaled_load scaled_sum n);
      }
