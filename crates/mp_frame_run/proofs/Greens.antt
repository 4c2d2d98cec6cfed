-- Which movements have green, read at their junctions.
use Rattle.std.proofs.Common.{◌≡◌, ℕ, suc, ◌-◌, ◌≤◌, Bool, true, false, cond, ◌||◌, List, [], ◌∷◌, length, get_or, zip, sum_by, refl, sym, ap, ◌∙◌, arith}
use Rattle.std.specs.List.{list_any}
use Rattle.std.proofs.lemmas.Bool.{true≢false}
use Rattle.std.proofs.lemmas.List.Sums.{sum_by-cons}
use Rattle.mp_laws.proofs.Lists.{at_in}
use Rattle.mp_laws.proofs.Serve.{stage_in}
use Rattle.mp_model.specs.Network.{Network, Junction, entry, first_holder, has, junction_at, junction_of_movement, movement_numbers, no_junction, stage_at, stands_in}
use Rattle.mp_model.specs.NetworkRules.{IsNetwork}
use Rattle.mp_model.specs.Step.{AreStages, has_green}
use Rattle.mp_cert.proofs.PlaceLemmas.{junction_known}
use Rattle.mp_served.proofs.Places.{range_has}
use Rattle.mp_step.proofs.Stages.{stages_at, stages_count}

-- a movement that stands in no stage of a junction has no green there
not_in : (j : Junction) (k s : ℕ) → stands_in j k ≡ false → has (stage_at j s) k ≡ false
not_in j k s none = at (has (stage_at j s) k) refl
  where
    at : (b : Bool) → has (stage_at j s) k ≡ b → has (stage_at j s) k ≡ false
    at true e = absurd (true≢false (sym (stage_in k j.stages (s - 1) e) ∙ none))
    at false e = e

-- nor one that stands in none of the junctions
none_green : (k : ℕ) (js : List Junction) (ss : List ℕ) → sum_by (λ j. cond (stands_in j k) 1 0) js ≡ 0 → list_any (λ p. has (stage_at p.0 p.1) k) (zip js ss) ≡ false
none_green k [] ss none = refl
none_green k (j ∷ js) [] none = refl
none_green k (j ∷ js) (s ∷ ss) none = at (stands_in j k) refl (none_green k js ss)
  where
    at : (b : Bool) → stands_in j k ≡ b → (sum_by (λ j. cond (stands_in j k) 1 0) js ≡ 0 → list_any (λ p. has (stage_at p.0 p.1) k) (zip js ss) ≡ false) → list_any (λ p. has (stage_at p.0 p.1) k) (zip (j ∷ js) (s ∷ ss)) ≡ false
    at true e rest = let one : cond {A = ℕ} (stands_in j k) 1 0 ≡ 1 = ap {B = ℕ} (λ b. cond b 1 0) e in absurd (omega (arith, none, sum_by-cons (λ j. cond {A = ℕ} (stands_in j k) 1 0) j js))
    at false e rest =
        let zero' : cond {A = ℕ} (stands_in j k) 1 0 ≡ 0 = ap {B = ℕ} (λ b. cond b 1 0) e in
        ap (λ b. b || list_any (λ p. has (stage_at p.0 p.1) k) (zip js ss)) (not_in j k s e) ∙ rest (omega (arith, none, sum_by-cons (λ j. cond {A = ℕ} (stands_in j k) 1 0) j js))

or_none : (a b : Bool) → b ≡ false → (a || b) ≡ a
or_none true b e = refl
or_none false b e = e

holder_above : (k i : ℕ) (js : List Junction) → 1 ≤ sum_by (λ j. cond (stands_in j k) 1 0) js → i ≤ first_holder i js k
holder_above k i [] some = absurd (omega arith)
holder_above k i (j ∷ js) some = go (stands_in j k) refl (holder_above k (suc i) js)
  where
    go : (b : Bool) → stands_in j k ≡ b → (1 ≤ sum_by (λ j. cond (stands_in j k) 1 0) js → suc i ≤ first_holder (suc i) js k) → i ≤ first_holder i (j ∷ js) k
    go true e above = let holds : first_holder i (j ∷ js) k ≡ i = ap (λ b. cond b i (first_holder (suc i) js k)) e in omega (arith, holds)
    go false e above =
        let none : cond {A = ℕ} (stands_in j k) 1 0 ≡ 0 = ap {B = ℕ} (λ b. cond b 1 0) e in
        let holds : first_holder i (j ∷ js) k ≡ first_holder (suc i) js k = ap (λ b. cond b i (first_holder (suc i) js k)) e in
        let rest = above (omega (arith, some, none, sum_by-cons (λ j. cond {A = ℕ} (stands_in j k) 1 0) j js)) in
        omega (arith, holds, rest)

-- the one junction in whose stages a movement stands says whether it has green
green_in : (k i : ℕ) (js : List Junction) (ss : List ℕ) → length ss ≡ length js → sum_by (λ j. cond (stands_in j k) 1 0) js ≡ 1 →
    list_any (λ p. has (stage_at p.0 p.1) k) (zip js ss) ≡ has (stage_at (get_or js (first_holder i js k - i) no_junction) (get_or ss (first_holder i js k - i) 0)) k
green_in k i [] ss size one = absurd (omega (arith, one))
green_in k i (j ∷ js) [] size one = absurd (omega (arith, size))
green_in k i (j ∷ js) (s ∷ ss) size one = go (stands_in j k) refl (holder_above k (suc i) js) (green_in k (suc i) js ss (omega (arith, size)))
  where
    go : (b : Bool) → stands_in j k ≡ b → (1 ≤ sum_by (λ j. cond (stands_in j k) 1 0) js → suc i ≤ first_holder (suc i) js k) →
        (sum_by (λ j. cond (stands_in j k) 1 0) js ≡ 1 → list_any (λ p. has (stage_at p.0 p.1) k) (zip js ss) ≡ has (stage_at (get_or js (first_holder (suc i) js k - suc i) no_junction) (get_or ss (first_holder (suc i) js k - suc i) 0)) k) →
        list_any (λ p. has (stage_at p.0 p.1) k) (zip (j ∷ js) (s ∷ ss)) ≡ has (stage_at (get_or (j ∷ js) (first_holder i (j ∷ js) k - i) no_junction) (get_or (s ∷ ss) (first_holder i (j ∷ js) k - i) 0)) k
    go true e above more =
        let here : cond {A = ℕ} (stands_in j k) 1 0 ≡ 1 = ap {B = ℕ} (λ b. cond b 1 0) e in
        let holds : first_holder i (j ∷ js) k ≡ i = ap (λ b. cond b i (first_holder (suc i) js k)) e in
        let place : 0 ≡ first_holder i (j ∷ js) k - i = omega (arith, holds) in
        or_none (has (stage_at j s) k) (list_any (λ p. has (stage_at p.0 p.1) k) (zip js ss)) (none_green k js ss (omega (arith, one, here, sum_by-cons (λ j. cond {A = ℕ} (stands_in j k) 1 0) j js)))
        ∙ ap (λ m. has (stage_at (get_or (j ∷ js) m no_junction) (get_or (s ∷ ss) m 0)) k) place
    go false e above more =
        let none : cond {A = ℕ} (stands_in j k) 1 0 ≡ 0 = ap {B = ℕ} (λ b. cond b 1 0) e in
        let holds : first_holder i (j ∷ js) k ≡ first_holder (suc i) js k = ap (λ b. cond b i (first_holder (suc i) js k)) e in
        let rest : sum_by (λ j. cond (stands_in j k) 1 0) js ≡ 1 = omega (arith, one, none, sum_by-cons (λ j. cond {A = ℕ} (stands_in j k) 1 0) j js) in
        let low : suc i ≤ first_holder (suc i) js k = above (omega (arith, rest)) in
        let place : suc (first_holder (suc i) js k - suc i) ≡ first_holder i (j ∷ js) k - i = omega (arith, holds, low) in
        ap (λ b. b || list_any (λ p. has (stage_at p.0 p.1) k) (zip js ss)) (not_in j k s e) ∙ more rest
        ∙ ap (λ m. has (stage_at (get_or (j ∷ js) m no_junction) (get_or (s ∷ ss) m 0)) k) place

module _ (net : Network) (ok : IsNetwork net) (stages : List ℕ) (are : AreStages net.junctions stages) (k : ℕ) (low : 1 ≤ k) (high : k ≤ length net.movements) where
  -- a movement has green where the stage of its junction has it
  pub green_is : has (stage_at (junction_at net (junction_of_movement net k)) (entry stages (junction_of_movement net k))) k ≡ has_green net stages k
  green_is =
      let one : sum_by (λ j. cond (stands_in j k) 1 0) net.junctions ≡ 1 = at_in (λ k. sum_by (λ j. cond (stands_in j k) 1 0) net.junctions ≡ 1) k (movement_numbers net) (range_has 1 (length net.movements) k low (omega arith)) ok.placed in
      sym (green_in k 1 net.junctions stages (stages_count net.junctions stages are) one)

  -- and that stage is one of its junction
  pub stage_there : (1 ≤ entry stages (junction_of_movement net k)) × (entry stages (junction_of_movement net k) ≤ length (junction_at net (junction_of_movement net k)).stages)
  stage_there = let known = junction_known net ok k low high in stages_at net.junctions stages are (junction_of_movement net k - 1) (omega (arith, known.0, known.1))
