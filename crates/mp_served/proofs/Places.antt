-- Where a movement's junction is.
use Rattle.std.proofs.Common.{◌≡◌, ◌==◌, ℕ, zero, suc, ◌+◌, ◌-◌, ◌≤◌, ◌<◌, Bool, true, false, cond, List, [], ◌∷◌, length, get_or, sum_by, arith, ⊎_elim, eq-eqb, ap, refl, ◌∙◌}
use Rattle.std.specs.List.{AllByRecursion, range_with_len}
use Rattle.std.proofs.lemmas.Bool.{cases_lt, or_left, or_right}
use Rattle.std.proofs.lemmas.List.Sums.{sum_by-cons}
use Rattle.mp_laws.proofs.Lists.{at_in}
use Rattle.mp_model.specs.Network.{Network, Junction, movement_numbers, junction_numbers, junction_of_movement, first_holder, junction_at, no_junction, stands_in, has}
use Rattle.mp_model.specs.NetworkRules.{IsNetwork}

holder_in : (k i : ℕ) (js : List Junction) → 1 ≤ sum_by (λ j. cond (stands_in j k) 1 0) js → (i ≤ first_holder i js k) × (first_holder i js k < i + length js)
holder_in k i [] some = absurd (omega arith)
holder_in k i (j ∷ js) some = go (stands_in j k) (holder_in k (suc i) js) (omega (arith, sum_by-cons (λ j. cond (stands_in j k) 1 0) j js))
  where
    go : (b : Bool) → (1 ≤ sum_by (λ j. cond (stands_in j k) 1 0) js → (suc i ≤ first_holder (suc i) js k) × (first_holder (suc i) js k < suc i + length js)) → 1 ≤ cond b 1 0 + sum_by (λ j. cond (stands_in j k) 1 0) js →
        (i ≤ cond b i (first_holder (suc i) js k)) × (cond b i (first_holder (suc i) js k) < i + length (j ∷ js))
    go true more s = (omega arith, omega arith)
    go false more s = let m = more (omega arith) in (omega (arith, m.0), omega (arith, m.1))

pub range_has : (a n x : ℕ) → a ≤ x → x < a + n → has (range_with_len a n) x ≡ true
range_has a zero x low high = absurd (omega arith)
range_has a (suc n) x low high = ⊎_elim
    (λ (lt : a < x). or_right (a == x) (has (range_with_len (a + 1) n) x) (range_has (a + 1) n x (omega arith) (omega arith)))
    (λ (le : x ≤ a). or_left (a == x) (has (range_with_len (a + 1) n) x) (eq-eqb a x (omega arith)))
    (cases_lt a x)

pub junction_in : (net : Network) → IsNetwork net → (k : ℕ) → has (movement_numbers net) k ≡ true → has (junction_numbers net) (junction_of_movement net k) ≡ true
junction_in net ok k in' =
    let placed : sum_by (λ j. cond (stands_in j k) 1 0) net.junctions ≡ 1 = at_in (λ k. sum_by (λ j. cond (stands_in j k) 1 0) net.junctions ≡ 1) k (movement_numbers net) in' ok.placed in
    let h = holder_in k 1 net.junctions (omega arith) in
    range_has 1 (length net.junctions) (junction_of_movement net k) h.0 h.1

holder_stands_in : (k i : ℕ) (js : List Junction) (none : Junction) → 1 ≤ sum_by (λ j. cond (stands_in j k) 1 0) js → stands_in (get_or js (first_holder i js k - i) none) k ≡ true
holder_stands_in k i [] none some = absurd (omega arith)
holder_stands_in k i (j ∷ js) none some = go (stands_in j k) refl (holder_in k (suc i) js) (holder_stands_in k (suc i) js none) (omega (arith, sum_by-cons (λ j. cond (stands_in j k) 1 0) j js))
  where
    go : (b : Bool) → stands_in j k ≡ b → (1 ≤ sum_by (λ j. cond (stands_in j k) 1 0) js → (suc i ≤ first_holder (suc i) js k) × (first_holder (suc i) js k < suc i + length js)) →
        (1 ≤ sum_by (λ j. cond (stands_in j k) 1 0) js → stands_in (get_or js (first_holder (suc i) js k - suc i) none) k ≡ true) → 1 ≤ cond b 1 0 + sum_by (λ j. cond (stands_in j k) 1 0) js → stands_in (get_or (j ∷ js) (cond b i (first_holder (suc i) js k) - i) none) k ≡ true
    go true is low more s = (let e : i - i ≡ 0 = omega arith in ap (λ n. stands_in (get_or (j ∷ js) n none) k) e) ∙ is
    go false is low more s =
        let l = low (omega arith) in
        let e : first_holder (suc i) js k - i ≡ suc (first_holder (suc i) js k - suc i) = (let a = l.0 in omega arith) in
        ap (λ n. stands_in (get_or (j ∷ js) n none) k) e ∙ more (omega arith)

pub holder_stands : (net : Network) → IsNetwork net → (k : ℕ) → has (movement_numbers net) k ≡ true → stands_in (junction_at net (junction_of_movement net k)) k ≡ true
holder_stands net ok k in' =
    let placed : sum_by (λ j. cond (stands_in j k) 1 0) net.junctions ≡ 1 = at_in (λ k. sum_by (λ j. cond (stands_in j k) 1 0) net.junctions ≡ 1) k (movement_numbers net) in' ok.placed in
    holder_stands_in k 1 net.junctions no_junction (omega arith)

-- what holds of each entry holds at a place
pub at_place : {X : Type 0} (P : X → Type 0) (d : X) (xs : List X) (i : ℕ) → i < length xs → AllByRecursion P xs → P (get_or xs i d)
at_place P d [] i lt h = absurd (omega arith)
at_place P d (x ∷ xs) zero lt h = h.0
at_place P d (x ∷ xs) (suc i) lt h = at_place P d xs i (omega arith) h.1
