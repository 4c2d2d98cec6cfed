-- Steps of the search for the greatest stage.
use Rattle.std.proofs.Common.{◌≡◌, ◌≤◌, ◌<◌, ℕ, zero, suc, ◌+◌, List, [], ◌∷◌, ◌++◌, length, get_or, take, map, sum_by, ℤ, pos, int_lt, cond, true, false, ◌≤ℤ◌, arith, refl, sym, ◌∙◌, ap, add-one}
use Rattle.std.specs.List.{range_with_len, best_of, AllByRecursion}
use Rattle.std.proofs.lemmas.Int.{ints}
use Rattle.std.proofs.lemmas.List.FromFn.{length-range_with_len}
use Rattle.std.proofs.lemmas.List.Sums.{fold_push}
use borrow.Author.Differences.{true_is_lt, false_is_lt}
use Rattle.mp_model.specs.Network.{Network, Junction, numbers_to, no_junction, stage_at, stage_numbers, entry}
use Rattle.mp_model.specs.Split.{first_greatest}
use Rattle.mp_model.specs.Pressure.{pressure_by, greatest_stage_by, IsGreatestStageBy, AllGreatest}
use Rattle.mp_model.specs.Step.{AreStages}
use Rattle.mp_laws.proofs.FirstGreatest.{first_most, first_in, first_agree}
use Rattle.mp_laws.proofs.Lists.{all_of}
use Rattle.mp_laws.proofs.Greatest.{Leads, leads_all}
use Rattle.mp_laws.proofs.Lists.{in_range, at_range}
use Rattle.mp_laws.proofs.Sums.{sum_by-same_at}
use Rattle.mp_press.specs.Presses.{press_by, greatest_in}
use Rattle.mp_press.proofs.Sums.{range_more}

greatest_more : (key : ℕ → ℤ) (i best : ℕ) → 0 < i → best ≡ first_greatest key (numbers_to i) → first_greatest key (numbers_to (i + 1)) ≡ cond (int_lt (key best) (key (i + 1))) (i + 1) best
greatest_more key zero best h e = absurd (omega arith)
greatest_more key (suc n) best h e =
    rw (add-one (suc n)) (ap (λ xs. best_of (λ x b. int_lt (key b) (key x)) 1 xs) (range_more 2 n (suc (suc n)) (omega arith))
    ∙ fold_push (λ b x. cond (int_lt (key b) (key x)) x b) 1 (range_with_len 2 n) (suc (suc n))
    ∙ ap (λ b. cond (int_lt (key b) (key (suc (suc n)))) (suc (suc n)) b) (sym e))

pub takes : (f : ℕ → ℕ) (i best : ℕ) → 0 < i → best ≡ first_greatest (λ s. pos (f s)) (numbers_to i) → f best < f (i + 1) → i + 1 ≡ first_greatest (λ s. pos (f s)) (numbers_to (i + 1))
takes f i best h e lt = let t : int_lt (pos (f best)) (pos (f (i + 1))) ≡ true = sym (true_is_lt (pos (f best)) (pos (f (i + 1))) (omega (arith, ints))) in sym (greatest_more (λ s. pos (f s)) i best h e ∙ ap (λ b. cond b (i + 1) best) t)

pub keeps : (f : ℕ → ℕ) (i best : ℕ) → 0 < i → best ≡ first_greatest (λ s. pos (f s)) (numbers_to i) → f (i + 1) ≤ f best → best ≡ first_greatest (λ s. pos (f s)) (numbers_to (i + 1))
keeps f i best h e le = let t : int_lt (pos (f best)) (pos (f (i + 1))) ≡ false = sym (false_is_lt (pos (f best)) (pos (f (i + 1))) (omega (arith, ints))) in sym (greatest_more (λ s. pos (f s)) i best h e ∙ ap (λ b. cond b (i + 1) best) t)

-- the greatest in a table of presses is the greatest stage
pub greatest_agrees : (net : Network) (q r : ℕ → ℕ) (j : Junction) (presses : List ℕ) → ((s : ℕ) → AllByRecursion (λ k. entry presses k ≡ press_by net q r k) (stage_at j s)) → greatest_in j presses ≡ greatest_stage_by net q r j
greatest_agrees net q r j presses h =
    first_agree (λ s. pos (sum_by (entry presses) (stage_at j s))) (λ s. pos (pressure_by net q r (stage_at j s))) (stage_numbers j)
    (all_of (λ s. pos (sum_by (entry presses) (stage_at j s)) ≡ pos (pressure_by net q r (stage_at j s))) (λ s. ap pos (sum_by-same_at (entry presses) (press_by net q r) (stage_at j s) (h s))) (stage_numbers j))

-- the greatest stage is greatest
pub greatest_by_is : (net : Network) (q r : ℕ → ℕ) (j : Junction) → 1 ≤ length j.stages → IsGreatestStageBy net q r j (greatest_stage_by net q r j)
greatest_by_is net q r j some =
    let key : ℕ → ℤ = λ s. pos (pressure_by net q r (stage_at j s)) in
    let n = length j.stages in
    let best = greatest_stage_by net q r j in
    let i = in_range 1 n best (first_in key (numbers_to n) (omega (arith, length-range_with_len 1 n))) in
    record {
      is_stage = omega (arith, i);
      most = λ t a b. let h = at_range (λ k. key k ≤ℤ key best) 1 n t a (omega arith) (first_most key (numbers_to n)) in omega (arith, ints);
      first = λ t a b. let h = at_range (Leads key best) 1 n t a (omega (arith, i)) (leads_all key n) b in omega (arith, ints);
    }

-- greatest stages are stages
pub greatest_are_stages : (net : Network) (q : ℕ → ℕ) (js : List Junction) (ss : List ℕ) → AllGreatest net q js ss → AreStages js ss
greatest_are_stages net q [] [] h = tt
greatest_are_stages net q [] (s ∷ ss) h = h
greatest_are_stages net q (j ∷ js) [] h = h
greatest_are_stages net q (j ∷ js) (s ∷ ss) h = (h.0.is_stage, greatest_are_stages net q js ss h.1)

-- one more junction of a list
pub junctions_more : (f : Junction → ℕ) (js : List Junction) (i : ℕ) → i < length js → map f (take (i + 1) js) ≡ map f (take i js) ++ f (get_or js i no_junction) ∷ []
junctions_more f [] i h = absurd (omega arith)
junctions_more f (j ∷ js) zero h = refl
junctions_more f (j ∷ js) (suc i) h = ap (λ n. map f (take n (j ∷ js))) (add-one (suc i)) ∙ ap (λ n. f j ∷ map f (take n js)) (sym (add-one i)) ∙ ap (λ xs. f j ∷ xs) (junctions_more f js i (omega arith))
