-- What the greens of a junction come to: each movement is given what it wants, and no green is longer than the cycle.
use Rattle.std.proofs.Common.{◌≡◌, ◌==◌, ◌≢◌, ◌≤◌, ◌<◌, ℕ, suc, ◌+◌, ◌-◌, ◌&&◌, max, Bool, true, false, cond, nat_lt, List, [], ◌∷◌, length, get_or, set, map, Option, Some, None, arith, refl, sym, ◌∙◌, ap, subst, ⊎_elim, zero-le, eqb-true, get_or-set_other, get_or-set_same}
use Rattle.std.specs.List.{AllByRecursion, fold, list_any}
use Rattle.std.proofs.lemmas.Bool.{cases_lt, cases_eq, eqb-false, false≢true, ltb-false, or_cases}
use Rattle.std.proofs.lemmas.List.{length-set}
use Rattle.mp_guarded.proofs.Owed.{sum_with_set, found_passes}
use Rattle.mp_laws.proofs.Lists.{AllOf-map, at_in, at_number, back_one, each_in, find_none, in_numbers}
use Rattle.mp_model.specs.Guard.{sum_with}
use Rattle.mp_model.specs.Load.{greatest}
use Rattle.mp_model.specs.Network.{Junction, stage_at, stage_numbers, stands_in, has, entry}
use Rattle.mp_finder.specs.Greens.{lack, lowered_at, lowest_stage, raised_for, with_one}

-- ---- one green is written
few_set : (C : ℕ) (greens : List ℕ) (at v : ℕ) → ((i : ℕ) → get_or greens i 0 ≤ C) → v ≤ C → at < length greens → (i : ℕ) → get_or (set greens at v) i 0 ≤ C
few_set C greens at v few low lt i = ⊎_elim
    (λ (e : i ≡ at). omega (arith, ap (λ t. get_or (set greens at v) t 0) e ∙ get_or-set_same greens at v 0 lt, low))
    (λ (ne : i ≢ at). omega (arith, get_or-set_other greens at i v 0 ne, few i))
    (cases_eq i at)

-- a stage has a green of its own part of what its movements are given
part_le : (stages : List (List ℕ)) (greens : List ℕ) (k i : ℕ) → i < length greens → length greens ≡ length stages → has (get_or stages i []) k ≡ true → get_or greens i 0 ≤ sum_with stages greens k
part_le stages greens k i lt size here =
    let s = sum_with_set stages greens k i 0 lt size in
    let one : cond {A = ℕ} (has (get_or stages i []) k) (get_or greens i 0) 0 ≡ get_or greens i 0 = ap {B = ℕ} (λ b. cond b (get_or greens i 0) 0) here in
    let none : cond {A = ℕ} (has (get_or stages i []) k) 0 0 ≡ 0 = ap {B = ℕ} (λ b. cond b 0 0) here in
    omega (arith, s, one, none)

-- ---- raised
-- the greens are one for each stage, and none is longer than the cycle
pub record InCycle (C : ℕ) (j : Junction) (greens : List ℕ) : Type 0 where
  pub size : length greens ≡ length j.stages
  pub few : (i : ℕ) → get_or greens i 0 ≤ C

record Raises (C : ℕ) (j : Junction) (wants before after : List ℕ) (k : ℕ) : Type 0 where
  fits : InCycle C j after
  more : (m : ℕ) → sum_with j.stages before m ≤ sum_with j.stages after m
  given : entry wants k ≤ sum_with j.stages after k

one_of : (stages : List (List ℕ)) (k : ℕ) → list_any (λ stage. has stage k) stages ≡ true → (i : ℕ) × (i < length stages) × (has (get_or stages i []) k ≡ true)
one_of [] k e = absurd (false≢true e)
one_of (stage ∷ stages) k e = ⊎_elim
    (λ (h : has stage k ≡ true). (0, omega arith, h))
    (λ (h : list_any (λ stage. has stage k) stages ≡ true). let r = one_of stages k h in (suc r.0, omega (arith, r.1), r.2))
    (or_cases (has stage k) (list_any (λ stage. has stage k) stages) e)

module _ (C : ℕ) (some : 1 ≤ C) (j : Junction) (wants : List ℕ) where
  one_set : (greens : List ℕ) (k s : ℕ) → InCycle C j greens → sum_with j.stages greens k ≡ 0 → entry wants k ≤ 1 → lowest_stage j k ≡ Some s → Raises C j wants greens (set greens (s - 1) 1) k
  one_set greens k s f none want is =
      let p = found_passes (λ s. has (stage_at j s) k) (stage_numbers j) s is in
      let b = in_numbers (length j.stages) s p.1 in
      let size = f.size in
      let lt : s - 1 < length greens = omega (arith, b) in
      let zero_there = part_le j.stages greens k (s - 1) lt size p.0 in
      let moved : (m : ℕ) → sum_with j.stages (set greens (s - 1) 1) m + cond (has (get_or j.stages (s - 1) []) m) (get_or greens (s - 1) 0) 0 ≡ sum_with j.stages greens m + cond (has (get_or j.stages (s - 1) []) m) 1 0 =
      λ m. sum_with_set j.stages greens m (s - 1) 1 lt size in
      record {
        fits = record { size = length-set greens (s - 1) 1 ∙ size; few = few_set C greens (s - 1) 1 f.few some lt };
        more = λ m. grows (has (get_or j.stages (s - 1) []) m) (sum_with j.stages greens m) (sum_with j.stages (set greens (s - 1) 1) m) (get_or greens (s - 1) 0) (omega (arith, zero_there, none)) (moved m);
        given = let one : cond {A = ℕ} (has (get_or j.stages (s - 1) []) k) 1 0 ≡ 1 = ap {B = ℕ} (λ b. cond b 1 0) p.0 in
            let gone : cond {A = ℕ} (has (get_or j.stages (s - 1) []) k) (get_or greens (s - 1) 0) 0 ≡ get_or greens (s - 1) 0 = ap {B = ℕ} (λ b. cond b (get_or greens (s - 1) 0) 0) p.0 in
            omega (arith, moved k, one, gone, zero_there, none, want);
      }
    where
      grows : (b : Bool) (x y g : ℕ) → g ≡ 0 → y + cond b g 0 ≡ x + cond b 1 0 → x ≤ y
      grows true x y g e h = omega (arith, e, h)
      grows false x y g e h = omega (arith, h)

  raises : (greens : List ℕ) (k : ℕ) → InCycle C j greens → stands_in j k ≡ true → entry wants k ≤ max 1 (sum_with j.stages greens k) → Raises C j wants greens (raised_for j wants greens k) k
  unfolding raised_for
  raises greens k f stands near = go (nat_lt 0 (entry wants k)) refl (sum_with j.stages greens k == 0) refl
    where
      stays : entry wants k ≤ sum_with j.stages greens k → Raises C j wants greens greens k
      stays le = record { fits = f; more = λ m. omega arith; given = le }

      there : (o : Option ℕ) → lowest_stage j k ≡ o → sum_with j.stages greens k ≡ 0 → entry wants k ≤ 1 → Raises C j wants greens (with_one greens o) k
      there None e none want =
          let all = find_none (λ s. has (stage_at j s) k) (stage_numbers j) e in
          let r = one_of j.stages k stands in
          let fails = at_number (λ s. has (stage_at j s) k ≡ false) (length j.stages) r.0 r.1 all in
          absurd (false≢true (sym fails ∙ ap (λ t. has (get_or j.stages t []) k) (back_one r.0) ∙ r.2))
      there (Some s) e none want = one_set greens k s f none want e

      go : (b : Bool) → nat_lt 0 (entry wants k) ≡ b → (c : Bool) → (sum_with j.stages greens k == 0) ≡ c → Raises C j wants greens (cond (b && c) (with_one greens (lowest_stage j k)) greens) k
      go false e c d = let none = ltb-false 0 (entry wants k) e in stays (omega (arith, none))
      go true e false d = stays (⊎_elim (λ (lt : 0 < sum_with j.stages greens k). omega (arith, near, lt)) (λ (le : sum_with j.stages greens k ≤ 0). absurd (eqb-false (sum_with j.stages greens k) 0 d (omega (arith, le)))) (cases_lt 0 (sum_with j.stages greens k)))
      go true e true d = let none = eqb-true (sum_with j.stages greens k) 0 d in there (lowest_stage j k) refl none (omega (arith, near, none))

  -- all movements of a list
  pub record AllRaised (before after ks : List ℕ) : Type 0 where
    pub fits : InCycle C j after
    pub more : (m : ℕ) → sum_with j.stages before m ≤ sum_with j.stages after m
    pub given : AllByRecursion (λ k. entry wants k ≤ sum_with j.stages after k) ks

  pub all_raised : (ks greens : List ℕ) → InCycle C j greens → AllByRecursion (λ k. (stands_in j k ≡ true) × (entry wants k ≤ max 1 (sum_with j.stages greens k))) ks → AllRaised greens (fold (raised_for j wants) greens ks) ks
  all_raised [] greens f near = record { fits = f; more = λ m. omega arith; given = tt }
  all_raised (k ∷ ks) greens f near =
      let r = raises greens k f near.0.0 near.0.1 in
      let next = raised_for j wants greens k in
      let rest = all_raised ks next r.fits (AllOf-map (λ k. (stands_in j k ≡ true) × (entry wants k ≤ max 1 (sum_with j.stages greens k))) (λ k. (stands_in j k ≡ true) × (entry wants k ≤ max 1 (sum_with j.stages next k))) (λ k n. (n.0, let m = r.more k in omega (arith, n.1, m))) ks near.1) in
      record {
        fits = rest.fits;
        more = λ m. let a = r.more m in let b = rest.more m in omega (arith, a, b);
        given = (let a = r.given in let b = rest.more k in omega (arith, a, b), rest.given);
      }

-- ---- lowered
greatest_le : (f : ℕ → ℕ) (B : ℕ) (xs : List ℕ) → AllByRecursion (λ x. f x ≤ B) xs → greatest (map f xs) ≤ B
greatest_le f B [] h = zero-le
greatest_le f B (x ∷ xs) h = let more = greatest_le f B xs h.1 in omega (arith, more, h.0)

greatest_each : (f : ℕ → ℕ) (xs : List ℕ) → AllByRecursion (λ x. f x ≤ greatest (map f xs)) xs
greatest_each f [] = tt
greatest_each f (x ∷ xs) = (omega arith, AllOf-map (λ y. f y ≤ greatest (map f xs)) (λ y. f y ≤ greatest (map f (x ∷ xs))) (λ y h. omega (arith, h)) xs (greatest_each f xs))

lowered_numbers : (b : Bool) (want others new old v g : ℕ) → new + cond b 0 0 ≡ others + cond b v 0 → others + cond b g 0 ≡ old + cond b 0 0 → want ≤ old → (b ≡ true → want - others ≤ v) → want ≤ new
lowered_numbers true want others new old v g e f le h = let m = h refl in omega (arith, e, f, le, m)
lowered_numbers false want others new old v g e f le h = omega (arith, e, f, le)

module _ (C : ℕ) (j : Junction) (wants ks : List ℕ) (mine : (s k : ℕ) → has (stage_at j s) k ≡ true → has ks k ≡ true) where
  -- the greens fit, and each movement of the list is given what it wants
  pub record Serving (greens : List ℕ) : Type 0 where
    pub fits : InCycle C j greens
    pub given : AllByRecursion (λ k. entry wants k ≤ sum_with j.stages greens k) ks

  lowers : (greens : List ℕ) (s : ℕ) → Serving greens → 1 ≤ s → s ≤ length j.stages → Serving (lowered_at j wants greens s)
  unfolding lowered_at
  lowers greens s serving low high =
      let f = serving.fits in
      let size = f.size in
      let others : List ℕ = set greens (s - 1) 0 in
      let lt : s - 1 < length greens = omega (arith, low, high, size) in
      let size2 : length others ≡ length j.stages = length-set greens (s - 1) 0 ∙ size in
      let lt2 : s - 1 < length others = omega (arith, low, high, size2) in
      let least : ℕ = greatest (map (lack j wants others) (stage_at j s)) in
      let blank : get_or others (s - 1) 0 ≡ 0 = get_or-set_same greens (s - 1) 0 0 lt in
      let first = λ (k : ℕ). sum_with_set j.stages greens k (s - 1) 0 lt size in
      let second = λ (k : ℕ). sum_with_set j.stages others k (s - 1) least lt2 size2 in
      let each = greatest_each (lack j wants others) (stage_at j s) in
      let most : least ≤ C =
      greatest_le (lack j wants others) C (stage_at j s)
      (each_in (λ k. lack j wants others k ≤ C) (stage_at j s)
      (λ k here.
      (let one : cond {A = ℕ} (has (stage_at j s) k) (get_or greens (s - 1) 0) 0 ≡ get_or greens (s - 1) 0 = ap {B = ℕ} (λ b. cond b (get_or greens (s - 1) 0) 0) here in
      let none : cond {A = ℕ} (has (stage_at j s) k) 0 0 ≡ 0 = ap {B = ℕ} (λ b. cond b 0 0) here in
      let want = at_in (λ k. entry wants k ≤ sum_with j.stages greens k) k ks (mine s k here) serving.given in
      let row = first k in
      let few = f.few (s - 1) in
      omega (arith, row, one, none, want, few)))) in
      record {
        fits = record { size = length-set others (s - 1) least ∙ size2; few = few_set C others (s - 1) least (few_set C greens (s - 1) 0 f.few zero-le lt) most lt2 };
        given = each_in (λ k. entry wants k ≤ sum_with j.stages (set others (s - 1) least) k) ks
            (λ k in'.
            lowered_numbers (has (stage_at j s) k) (entry wants k) (sum_with j.stages others k) (sum_with j.stages (set others (s - 1) least) k) (sum_with j.stages greens k) least (get_or greens (s - 1) 0)
            (subst (λ (g : ℕ). sum_with j.stages (set others (s - 1) least) k + cond (has (stage_at j s) k) g 0 ≡ sum_with j.stages others k + cond (has (stage_at j s) k) least 0) blank (second k)) (first k)
            (at_in (λ k. entry wants k ≤ sum_with j.stages greens k) k ks in' serving.given)
            (λ here. at_in (λ k. lack j wants others k ≤ least) k (stage_at j s) here each));
      }

  pub all_lowered : (ss greens : List ℕ) → Serving greens → AllByRecursion (λ s. (1 ≤ s) × (s ≤ length j.stages)) ss → Serving (fold (lowered_at j wants) greens ss)
  all_lowered [] greens serving known = serving
  all_lowered (s ∷ ss) greens serving known = all_lowered ss (lowered_at j wants greens s) (lowers greens s serving known.0.0 known.0.1) known.1
