-- The best of some stages, one more at a time, and what a junction takes from it.
use Rattle.std.proofs.Common.{◌≡◌, ◌≢◌, ℕ, zero, suc, ◌+◌, ◌-◌, ◌*◌, ◌<◌, ◌≤◌, Bool, true, false, cond, ◌&&◌, nat_le, nat_lt, List, [], ◌∷◌, ◌++◌, length, filter, find, Option, Some, None, ℤ, pos, int_lt, arith, refl, sym, ◌∙◌, ap, ap₂, subst}
use Rattle.std.proofs.lemmas.Bool.{ltb-true, ltb-false}
use Rattle.std.proofs.lemmas.Int.{ints}
use Rattle.std.proofs.lemmas.List.{length_push}
use Rattle.std.proofs.lemmas.List.Elements.{filter-append}
use Rattle.std.proofs.lemmas.List.Sums.{fold_push}
use borrow.Author.Differences.{true_is_lt, false_is_lt}
use Rattle.mp_laws.proofs.FirstGreatest.{first_agree}
use Rattle.mp_laws.proofs.Lists.{all_of, AllOf-map}
use Rattle.mp_laws.proofs.Sums.{sum_by-same_at}
use Rattle.mp_model.specs.Guard.{Guard}
use Rattle.mp_model.specs.GuardedChoice.{candidates_in, guarded_stage, is_candidate, kept_or}
use Rattle.mp_model.specs.GuardedRun.{Account, is_idle}
use Rattle.mp_model.specs.Network.{Network, Junction, junction_at, numbers_to, stage_at, stage_numbers, entry}
use Rattle.mp_model.specs.NetworkRules.{IsNetwork}
use Rattle.mp_model.specs.Pressure.{pressure}
use Rattle.mp_model.specs.Split.{first_greatest}
use Rattle.mp_press.specs.Presses.{press_by}
use Rattle.mp_press.specs.Written.{IsAmong}
use Rattle.mp_press.proofs.Known.{stage_known}
use Rattle.mp_press.proofs.Sums.{range_more}
use Rattle.mp_guard_run.specs.Choosing.{ArePresses, IsBest, best_at, fits_or, is_better, kept_by, pressed}

-- ---- the first of greatest key, one more at a time
greatest_push : (key : ℕ → ℤ) (xs : List ℕ) (s : ℕ) → 1 ≤ length xs → first_greatest key (xs ++ s ∷ []) ≡ cond (int_lt (key (first_greatest key xs)) (key s)) s (first_greatest key xs)
greatest_push key [] s some = absurd (omega arith)
greatest_push key (x ∷ xs) s some = fold_push (λ b y. cond (int_lt (key b) (key y)) y b) x xs s

pub first_one : (f : ℕ → ℕ) (xs : List ℕ) (s : ℕ) → xs ≡ [] → s ≡ first_greatest (λ n. pos (f n)) (xs ++ s ∷ [])
first_one f xs s none = sym (ap (λ ys. first_greatest (λ n. pos (f n)) (ys ++ s ∷ [])) none)

pub first_takes : (f : ℕ → ℕ) (xs : List ℕ) (b s : ℕ) → 1 ≤ length xs → b ≡ first_greatest (λ n. pos (f n)) xs → f b < f s → s ≡ first_greatest (λ n. pos (f n)) (xs ++ s ∷ [])
first_takes f xs b s some is lt =
    let t : int_lt (pos (f b)) (pos (f s)) ≡ true = sym (true_is_lt (pos (f b)) (pos (f s)) (omega (arith, ints))) in
    sym (greatest_push (λ n. pos (f n)) xs s some ∙ ap (λ x. cond (int_lt (pos (f x)) (pos (f s))) s x) (sym is) ∙ ap (λ c. cond c s b) t)

pub first_keeps : (f : ℕ → ℕ) (xs : List ℕ) (b s : ℕ) → 1 ≤ length xs → b ≡ first_greatest (λ n. pos (f n)) xs → f s ≤ f b → b ≡ first_greatest (λ n. pos (f n)) (xs ++ s ∷ [])
first_keeps f xs b s some is le =
    let t : int_lt (pos (f b)) (pos (f s)) ≡ false = sym (false_is_lt (pos (f b)) (pos (f s)) (omega (arith, ints))) in
    sym (greatest_push (λ n. pos (f n)) xs s some ∙ ap (λ x. cond (int_lt (pos (f x)) (pos (f s))) s x) (sym is) ∙ ap (λ c. cond c s b) t)

pub push_some : (xs : List ℕ) (s : ℕ) → 1 ≤ length (xs ++ s ∷ [])
push_some xs s = let e = length_push xs s in omega arith

-- ---- the best so far, whose number is 0 where it is none
pub better_none : (b most v : ℕ) → b ≡ 0 → true ≡ is_better b most v
better_none zero most v e = refl
better_none (suc b) most v e = absurd (omega arith)

pub better_some : (b most v : ℕ) → b ≢ 0 → nat_lt most v ≡ is_better b most v
better_some zero most v ne = absurd (ne refl)
better_some (suc b) most v ne = refl

pub ruleset betters = (better_none, better_some)

pub stood_none : (b v : ℕ) → b ≡ 0 → None ≡ best_at b v
stood_none zero v e = refl
stood_none (suc b) v e = absurd (omega arith)

pub stood_some : (b v : ℕ) → b ≢ 0 → Some (record { stage = b; pressure = v }) ≡ best_at b v
stood_some zero v ne = absurd (ne refl)
stood_some (suc b) v ne = refl

pub ruleset stood = (stood_none, stood_some)

pub more_takes : (f : ℕ → ℕ) (xs : List ℕ) (b most s v : ℕ) → 1 ≤ s → IsBest f xs (best_at b most) → is_better b most v ≡ true → v ≡ f s → IsBest f (xs ++ s ∷ []) (best_at s v)
more_takes f xs b most zero v low best takes is = absurd (omega arith)
more_takes f xs zero most (suc s) v low best takes is = (push_some xs (suc s), first_one f xs (suc s) best, is)
more_takes f xs (suc b) most (suc s) v low best takes is =
    let e : most ≡ f (suc b) = best.2 in
    let lt : f (suc b) < f (suc s) = omega (arith, e, is, ltb-true most v takes) in
    (push_some xs (suc s), first_takes f xs (suc b) (suc s) best.0 best.1 lt, is)

pub more_keeps : (f : ℕ → ℕ) (xs : List ℕ) (b most s v : ℕ) → IsBest f xs (best_at b most) → is_better b most v ≡ false → v ≡ f s → IsBest f (xs ++ s ∷ []) (best_at b most)
more_keeps f xs zero most s v best keeps is = absurd (cc)
more_keeps f xs (suc b) most s v best keeps is =
    let e : most ≡ f (suc b) = best.2 in
    let le : f s ≤ f (suc b) = omega (arith, e, is, ltb-false most v keeps) in
    (push_some xs s, first_keeps f xs (suc b) s best.0 best.1 le, e)

-- ---- the stages that pass, one more at a time
numbers_more : (p : ℕ → Bool) (i : ℕ) → filter p (numbers_to (i + 1)) ≡ filter p (numbers_to i) ++ cond (p (i + 1)) ((i + 1) ∷ []) []
numbers_more p i =
    let next : i + 1 ≡ suc i = omega arith in
    ap (λ n. filter p (numbers_to n)) next ∙ ap (filter p) (range_more 1 i (i + 1) (omega arith)) ∙ filter-append p (numbers_to i) ((i + 1) ∷ [])

push_none : (xs : List ℕ) → xs ++ [] ≡ xs
push_none [] = refl
push_none (x ∷ xs) = ap (λ ys. x ∷ ys) (push_none xs)

pub passes_more : (p : ℕ → Bool) (i : ℕ) → p (i + 1) ≡ true → filter p (numbers_to (i + 1)) ≡ filter p (numbers_to i) ++ (i + 1) ∷ []
passes_more p i here = numbers_more p i ∙ ap (λ b. filter p (numbers_to i) ++ cond b ((i + 1) ∷ []) []) here

pub fails_more : (p : ℕ → Bool) (i : ℕ) → p (i + 1) ≡ false → filter p (numbers_to (i + 1)) ≡ filter p (numbers_to i)
fails_more p i here = numbers_more p i ∙ ap (λ b. filter p (numbers_to i) ++ cond b ((i + 1) ∷ []) []) here ∙ push_none (filter p (numbers_to i))

-- ---- the best of the stages that pass, one more at a time
module _ (f : ℕ → ℕ) (p : ℕ → Bool) (i b most v : ℕ) (best : IsBest f (filter p (numbers_to i)) (best_at b most)) where
  pub takes_next : p (i + 1) ≡ true → is_better b most v ≡ true → v ≡ f (i + 1) → IsBest f (filter p (numbers_to (i + 1))) (best_at (i + 1) v)
  takes_next here takes is = subst (λ (xs : List ℕ). IsBest f xs (best_at (i + 1) v)) (sym (passes_more p i here)) (more_takes f (filter p (numbers_to i)) b most (i + 1) v (omega arith) best takes is)

  pub keeps_next : p (i + 1) ≡ true → is_better b most v ≡ false → v ≡ f (i + 1) → IsBest f (filter p (numbers_to (i + 1))) (best_at b most)
  keeps_next here keeps is = subst (λ (xs : List ℕ). IsBest f xs (best_at b most)) (sym (passes_more p i here)) (more_keeps f (filter p (numbers_to i)) b most (i + 1) v best keeps is)

  pub skips_next : p (i + 1) ≡ false → IsBest f (filter p (numbers_to (i + 1))) (best_at b most)
  skips_next here = subst (λ (xs : List ℕ). IsBest f xs (best_at b most)) (sym (fails_more p i here)) best

-- ---- what is taken
pub pressed_is : (net : Network) → IsNetwork net → (j : ℕ) (q : ℕ → ℕ) (presses : List ℕ) → ArePresses net q presses → (s : ℕ) → pressed (junction_at net j) presses s ≡ pressure net q (stage_at (junction_at net j) s)
pressed_is net ok j q presses are s =
    sum_by-same_at (entry presses) (press_by net q q) (stage_at (junction_at net j) s) (AllOf-map (IsAmong (length net.movements)) (λ k. entry presses k ≡ press_by net q q k) (λ k h. are.each k h.0 h.1) _ (stage_known net ok (j - 1) s))

module _ (net : Network) (guard : Guard) (j : Junction) (q : ℕ → ℕ) (t : ℕ) (account : Account) (f : ℕ → ℕ) (agree : (s : ℕ) → f s ≡ pressure net q (stage_at j s)) where
  kept_same : (before : Option ℕ) (best : ℕ) → kept_by guard.lost (is_candidate guard j q t account) f before best ≡ kept_or net guard j q t account before best
  kept_same None best = refl
  kept_same (Some r) best = ap₂ (λ x y. cond (nat_lt 0 guard.lost && is_candidate guard j q t account r && nat_le x (2 * y)) r best) (agree best) (agree r)

  taken_same : (best : ℕ) → best ≡ first_greatest (λ s. pos (f s)) (candidates_in guard j q t account) → kept_by guard.lost (is_candidate guard j q t account) f account.before best ≡ guarded_stage net guard j q t account
  taken_same best is =
      let those : List ℕ = candidates_in guard j q t account in
      kept_same account.before best
      ∙ ap (λ b. kept_or net guard j q t account account.before b) (is ∙ first_agree (λ s. pos (f s)) (λ s. pos (pressure net q (stage_at j s))) those (all_of (λ s. pos (f s) ≡ pos (pressure net q (stage_at j s))) (λ s. ap pos (agree s)) those))

  pub chosen_is : (idle : Option ℕ) (best : ℕ) → idle ≡ find (is_idle j q account.owed) (stage_numbers j) → best ≡ first_greatest (λ s. pos (f s)) (filter (fits_or guard t account idle) (stage_numbers j)) →
      kept_by guard.lost (fits_or guard t account idle) f account.before best ≡ guarded_stage net guard j q t account
  chosen_is idle best e is =
      subst (λ (i : Option ℕ). best ≡ first_greatest (λ s. pos (f s)) (filter (fits_or guard t account i) (stage_numbers j)) → kept_by guard.lost (fits_or guard t account i) f account.before best ≡ guarded_stage net guard j q t account) (sym e) (taken_same best) is
