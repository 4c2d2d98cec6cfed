-- The junction of a movement is one in whose stages it stands.
use Rattle.std.proofs.Common.{◌≡◌, ℕ, suc, ◌+◌, ◌-◌, ◌≤◌, ◌<◌, Bool, true, false, cond, List, [], ◌∷◌, length, get_or, sum_by, arith, refl, ap, subst}
use Rattle.std.proofs.lemmas.List.Sums.{sum_by-cons}
use Rattle.mp_model.specs.Network.{Network, Junction, movement_numbers, junction_at, junction_of_movement, first_holder, own, stands_in, has, no_junction}
use Rattle.mp_model.specs.NetworkRules.{IsNetwork}
use Rattle.mp_laws.proofs.Lists.{at_in, has_filter}

pub record IsHolder (i k : ℕ) (js : List Junction) (found : ℕ) : Type 0 where
  pub above : i ≤ found
  pub below : found < i + length js
  pub stands : stands_in (get_or js (found - i) no_junction) k ≡ true

holder_found : (k i : ℕ) (js : List Junction) → 1 ≤ sum_by (λ j. cond (stands_in j k) 1 0) js → IsHolder i k js (first_holder i js k)
holder_found k i [] h = absurd (omega arith)
holder_found k i (j ∷ js) h = go (stands_in j k) refl (holder_found k (suc i) js)
  where
    there : (found : ℕ) → IsHolder (suc i) k js found → IsHolder i k (j ∷ js) found
    there found r =
        let a = r.above in
        let e : suc (found - suc i) ≡ found - i = omega (arith, a) in
        record { above = omega (arith, a); below = omega (arith, r.below); stands = subst (λ (n : ℕ). stands_in (get_or (j ∷ js) n no_junction) k ≡ true) e r.stands }

    go : (b : Bool) → stands_in j k ≡ b → (1 ≤ sum_by (λ j. cond (stands_in j k) 1 0) js → IsHolder (suc i) k js (first_holder (suc i) js k)) → IsHolder i k (j ∷ js) (cond b i (first_holder (suc i) js k))
    go true e more = (let z : 0 ≡ i - i = omega arith in record { above = omega arith; below = omega arith; stands = subst (λ (n : ℕ). stands_in (get_or (j ∷ js) n no_junction) k ≡ true) z e })
    go false e more =
        let none : cond {A = ℕ} (stands_in j k) 1 0 ≡ 0 = ap {B = ℕ} (λ b. cond b 1 0) e in
        there (first_holder (suc i) js k) (more (omega (arith, h, none, sum_by-cons (λ j. cond (stands_in j k) 1 0) j js)))

pub record HasJunction (net : Network) (k : ℕ) : Type 0 where
  pub inside : (1 ≤ junction_of_movement net k) × (junction_of_movement net k ≤ length net.junctions)
  pub mine : has (own net (junction_at net (junction_of_movement net k))) k ≡ true

pub has_junction : (net : Network) → IsNetwork net → (k : ℕ) → has (movement_numbers net) k ≡ true → HasJunction net k
has_junction net ok k h =
    let one = at_in (λ k. sum_by (λ j. cond (stands_in j k) 1 0) net.junctions ≡ 1) k (movement_numbers net) h ok.placed in
    let r = holder_found k 1 net.junctions (omega (arith, one)) in
    record { inside = (r.above, omega (arith, r.below)); mine = has_filter (stands_in (junction_at net (junction_of_movement net k))) k (movement_numbers net) h r.stands }
