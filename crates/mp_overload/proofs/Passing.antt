-- What passes in a period, weighted by the weights of a vector, is at most the capacity.
use Rattle.std.proofs.Common.{◌≡◌, ℕ, zero, suc, ◌-◌, ◌*◌, ◌≤◌, min, Bool, true, false, cond, ◌&&◌, nat_lt, List, [], ◌∷◌, get_or, map, sum_by, zip, pos, ◌-ℤ◌, ◌*ℤ◌, ◌≤ℤ◌, arith, refl, mul-le-mul_left, zero-le}
use Rattle.std.proofs.lemmas.Int.{ints}
use Rattle.std.specs.List.{list_any}
use Rattle.std.proofs.lemmas.List.Sums.{sum_by-cons}
use Rattle.mp_laws.proofs.Distinct.{shared_le, range_distinct}
use Rattle.mp_laws.proofs.Sums.{sum_by-le, sum_by-swap, one_of}
use Rattle.mp_laws.proofs.Signed.{mul_le}
use Rattle.mp_model.specs.Load.{greatest, junction_capacity, capacity}
use Rattle.mp_model.specs.Network.{Network, Junction, movement_numbers, flow_of, has, stage_at}
use Rattle.mp_model.specs.Pressure.{queued_downstream, positive_weight, pressure}
use Rattle.mp_model.specs.Step.{has_green, passed}
use Rattle.mp_model.specs.Sums.{int_sum_by}
use Rattle.mp_overload.specs.Laws.{PassesWithin}

-- what passes is at most the flow, and only with green
passes_green : (green weighty : Bool) (c q x : ℕ) → cond (green && weighty) (min c q) 0 * x ≤ cond green (c * x) 0
passes_green false weighty c q x = omega arith
passes_green true false c q x = omega arith
passes_green true true c q x = let least : min c q ≤ c = omega arith in omega (arith, mul-le-mul_left x least)

-- green comes from a shown stage
green_from : {X : Type 0} (shows : X → Bool) (v : ℕ) (xs : List X) → cond (list_any shows xs) v 0 ≤ sum_by (λ x. cond (shows x) v 0) xs
green_from shows v xs = go (list_any shows xs) refl
  where
    go : (b : Bool) → list_any shows xs ≡ b → cond b v 0 ≤ sum_by (λ x. cond (shows x) v 0) xs
    go true e = one_of shows v xs e
    go false e = zero-le

-- a stage, or none, presses at most with the greatest
pressed_most : (f : List ℕ → ℕ) → f [] ≡ 0 → (stages : List (List ℕ)) (n : ℕ) → f (get_or stages n []) ≤ greatest (map f stages)
pressed_most f none [] n = omega (arith, none)
pressed_most f none (stage ∷ stages) zero = omega arith
pressed_most f none (stage ∷ stages) (suc n) = omega (arith, pressed_most f none stages n)

-- the stages that are shown press at most with the capacity
shown_press : (net : Network) (p : ℕ → ℕ) (js : List Junction) (ss : List ℕ) →
    sum_by (λ x. sum_by (λ k. cond (has (stage_at x.0 x.1) k) (flow_of net k * positive_weight net p k) 0) (movement_numbers net)) (zip js ss) ≤ sum_by (junction_capacity net p) js
shown_press net p [] ss = zero-le
shown_press net p (j ∷ js) [] = zero-le
shown_press net p (j ∷ js) (s ∷ ss) =
    let f : ℕ → ℕ = λ k. flow_of net k * positive_weight net p k in
    omega (
      arith,
      sum_by-cons (λ x. sum_by (λ k. cond (has (stage_at x.0 x.1) k) (f k) 0) (movement_numbers net)) (j, s) (zip js ss),
      sum_by-cons (junction_capacity net p) j js,
      shared_le f (stage_at j s) (movement_numbers net) (range_distinct 1 _),
      pressed_most (pressure net p) refl j.stages (s - 1),
      shown_press net p js ss,
    )

pub passes_positive : (net : Network) (stages : List ℕ) (q p : ℕ → ℕ) → sum_by (λ k. passed net stages q k * positive_weight net p k) (movement_numbers net) ≤ capacity net p
passes_positive net stages q p =
    let ks = movement_numbers net in
    let f : ℕ → ℕ = λ k. flow_of net k * positive_weight net p k in
    let green = sum_by-le (λ k. passed net stages q k * positive_weight net p k) (λ k. cond (has_green net stages k) (f k) 0)
    (λ k. passes_green (has_green net stages k) (nat_lt 0 (positive_weight net q k)) (flow_of net k) (q k) (positive_weight net p k)) ks in
    let shown = sum_by-le (λ k. cond (has_green net stages k) (f k) 0) (λ k. sum_by (λ (x : Junction × ℕ). cond (has (stage_at x.0 x.1) k) (f k) 0) (zip net.junctions stages))
    (λ k. green_from (λ (x : Junction × ℕ). has (stage_at x.0 x.1) k) (f k) (zip net.junctions stages)) ks in
    let turn = sum_by-swap (λ k (x : Junction × ℕ). cond (has (stage_at x.0 x.1) k) (f k) 0) ks (zip net.junctions stages) in
    omega (arith, green, shown, turn, shown_press net p net.junctions stages)

-- a weight is at most its positive part
below_positive : (y a b : ℕ) → (pos y *ℤ (pos a -ℤ pos b)) ≤ℤ pos (y * (a - b))
below_positive y a b =
    let most : (pos a -ℤ pos b) ≤ℤ pos (a - b) = omega (arith, ints) in
    omega (arith, ints, mul_le (pos y) (pos a -ℤ pos b) (pos (a - b)) (omega (arith, ints)) most)

weights_below : (y a b : ℕ → ℕ) (ks : List ℕ) → int_sum_by (λ k. pos (y k) *ℤ (pos (a k) -ℤ pos (b k))) ks ≤ℤ pos (sum_by (λ k. y k * (a k - b k)) ks)
weights_below y a b [] = omega (arith, ints)
weights_below y a b (k ∷ ks) = omega (arith, ints, sum_by-cons (λ k. y k * (a k - b k)) k ks, below_positive (y k) (a k) (b k), weights_below y a b ks)

pub passes_within : (net : Network) (stages : List ℕ) (q p : ℕ → ℕ) → PassesWithin net stages q p
passes_within net stages q p = record {
  positive = passes_positive net stages q p;
  weights = let below = weights_below (passed net stages q) (λ k. net.shares * p k) (queued_downstream net p) (movement_numbers net) in omega (arith, ints, below, passes_positive net stages q p);
}
