-- A candidate is always there: the stage of the period before where it owes, else any that owes, else every one.
use Rattle.std.proofs.Common.{◌≡◌, ℕ, zero, suc, ◌+◌, ◌-◌, ◌*◌, ◌%◌, ◌≤◌, ◌<◌, Bool, true, false, cond, not, ◌&&◌, ◌⊎◌, inl, inr, nat_lt, List, [], ◌∷◌, length, sum, get_or, set, find, Option, Some, None, arith, refl, sym, ◌∙◌, ap, subst, ⊎_elim, eq-eqb, mul-le-mul_left, zero-le, le_refl}
use Rattle.std.proofs.Math.Nat.{mod-lt, zero-mod}
use Rattle.std.proofs.lemmas.Bool.{cases_lt, lt-ltb, ltb-true}
use Rattle.std.proofs.lemmas.List.Sums.{sum_by-cons, sum_by-set}
use Rattle.mp_model.specs.Guard.{Guard, owing}
use Rattle.mp_model.specs.GuardedRun.{Account, IsCandidate, account_at, is_change, is_idle, less_by, needed_in, paid, paying}
use Rattle.mp_model.specs.Network.{Junction, stage_numbers, entry}
use Rattle.mp_guarded.specs.Greens.{KeepsGreens}
use Rattle.mp_guarded.specs.Candidates.{needed_before, HasCandidate}
use Rattle.mp_guarded.proofs.Greens.{next_place, left_over, made_new, one_each}

-- which stage, if any, owes some
first_owing : (owed : List ℕ) → (sum owed ≡ 0) ⊎ ((i : ℕ) × (i < length owed) × (1 ≤ get_or owed i 0))
first_owing [] = inl refl
first_owing (o ∷ owed) = go (first_owing owed) (cases_lt 0 o)
  where
    go : (sum owed ≡ 0) ⊎ ((i : ℕ) × (i < length owed) × (1 ≤ get_or owed i 0)) → (0 < o) ⊎ (o ≤ 0) → (sum (o ∷ owed) ≡ 0) ⊎ ((i : ℕ) × (i < length (o ∷ owed)) × (1 ≤ get_or (o ∷ owed) i 0))
    go rest (inl some) = inr (0, omega arith, some)
    go (inl none) (inr zero_here) = inl (let e : sum (o ∷ owed) ≡ o + sum owed = sum_by-cons (λ n. n) o owed in omega arith)
    go (inr r) (inr zero_here) = inr (suc r.0, omega (arith, r.1), r.2)

none_owing : (owed : List ℕ) → sum owed ≡ 0 → owing owed ≡ 0
none_owing [] e = refl
none_owing (o ∷ owed) e =
    let s : sum (o ∷ owed) ≡ o + sum owed = sum_by-cons (λ n. n) o owed in
    let more = none_owing owed (omega arith) in
    let here : o ≡ 0 = omega arith in
    let first : cond {A = ℕ} (nat_lt 0 o) 1 0 ≡ 0 = ap (λ m. cond {A = ℕ} (nat_lt 0 m) 1 0) here in
    let parts = sum_by-cons (λ n. cond (nat_lt 0 n) 1 0) o owed in
    omega arith

-- leaving a stage out
owing_without : (owed : List ℕ) (i : ℕ) → i < length owed → owing (set owed i 0) + cond (nat_lt 0 (get_or owed i 0)) 1 0 ≡ owing owed
owing_without owed i lt = let e = sum_by-set (λ n. cond (nat_lt 0 n) 1 0) owed i 0 0 lt in omega arith

-- stage s owes some and paying it leaves one less
owing_less : (owed : List ℕ) (s : ℕ) → 1 ≤ s → s ≤ length owed → 1 ≤ entry owed s → (sum (less_by owed (Some s)) + 1 ≡ sum owed) × (owing (set owed (s - 1) 0) + 1 ≡ owing owed)
owing_less owed s low high some =
    let e : sum (set owed (s - 1) (entry owed s - 1)) + get_or owed (s - 1) 0 ≡ sum owed + (entry owed s - 1) = sum_by-set (λ n. n) owed (s - 1) (entry owed s - 1) 0 (omega arith) in
    let w = owing_without owed (s - 1) (omega arith) in
    let b : cond {A = ℕ} (nat_lt 0 (get_or owed (s - 1) 0)) 1 0 ≡ 1 = ap (λ t. cond {A = ℕ} t 1 0) (lt-ltb 0 (entry owed s) some) in
    (omega arith, omega arith)

-- writing a stage twice is writing it once
set_twice : (owed : List ℕ) (i x y : ℕ) → set (set owed i x) i y ≡ set owed i y
set_twice [] i x y = refl
set_twice (o ∷ owed) zero x y = refl
set_twice (o ∷ owed) (suc i) x y = ap (λ os. o ∷ os) (set_twice owed i x y)

-- no stage owes more than before
AtMost : List ℕ → List ℕ → Type 0
AtMost [] [] = Unit {0}
AtMost (x ∷ xs) (y ∷ ys) = (x ≤ y) × AtMost xs ys
AtMost [] (y ∷ ys) = ⊥
AtMost (x ∷ xs) [] = ⊥

as_before : (xs : List ℕ) → AtMost xs xs
unfolding AtMost
as_before [] = tt
as_before (x ∷ xs) = (omega arith, as_before xs)

lowered : (xs : List ℕ) (i y : ℕ) → y ≤ get_or xs i 0 → AtMost (set xs i y) xs
unfolding AtMost
lowered [] i y le = tt
lowered (x ∷ xs) zero y le = (le, as_before xs)
lowered (x ∷ xs) (suc i) y le = (omega arith, lowered xs i y le)

both_set : (xs ys : List ℕ) (i z : ℕ) → AtMost xs ys → AtMost (set xs i z) (set ys i z)
unfolding AtMost
both_set [] [] i z h = tt
both_set [] (y ∷ ys) i z h = absurd h
both_set (x ∷ xs) [] i z h = absurd h
both_set (x ∷ xs) (y ∷ ys) zero z h = (omega arith, h.1)
both_set (x ∷ xs) (y ∷ ys) (suc i) z h = (h.0, both_set xs ys i z h.1)

one_owing : (x y : ℕ) → x ≤ y → cond {A = ℕ} (nat_lt 0 x) 1 0 ≤ cond {A = ℕ} (nat_lt 0 y) 1 0
one_owing x y le = go (nat_lt 0 x) refl
  where
    go : (b : Bool) → nat_lt 0 x ≡ b → cond {A = ℕ} b 1 0 ≤ cond {A = ℕ} (nat_lt 0 y) 1 0
    go false e = zero-le
    go true e = let some = ltb-true 0 x e in let one : cond {A = ℕ} (nat_lt 0 y) 1 0 ≡ 1 = ap (λ b. cond {A = ℕ} b 1 0) (lt-ltb 0 y (omega arith)) in omega arith

-- so the sum is at most the sum, and no more owe some
sums_at_most : (xs ys : List ℕ) → AtMost xs ys → (sum xs ≤ sum ys) × (owing xs ≤ owing ys)
unfolding AtMost
sums_at_most [] [] h = (zero-le, zero-le)
sums_at_most [] (y ∷ ys) h = absurd h
sums_at_most (x ∷ xs) [] h = absurd h
sums_at_most (x ∷ xs) (y ∷ ys) h =
    let more = sums_at_most xs ys h.1 in
    let a : sum (x ∷ xs) ≡ x + sum xs = sum_by-cons (λ n. n) x xs in
    let b : sum (y ∷ ys) ≡ y + sum ys = sum_by-cons (λ n. n) y ys in
    let c = sum_by-cons (λ n. cond (nat_lt 0 n) 1 0) x xs in
    let d = sum_by-cons (λ n. cond (nat_lt 0 n) 1 0) y ys in
    let one = one_owing x y h.0 in
    (omega (arith, h.0, more.0), omega (arith, more.1))

less_at_most : (owed : List ℕ) (pays : Option ℕ) → AtMost (less_by owed pays) owed
less_at_most owed None = as_before owed
less_at_most owed (Some s) = lowered owed (s - 1) (entry owed s - 1) (omega arith)

module _ (guard : Guard) (j : Junction) (counts : ℕ → ℕ) (t : ℕ) (account : Account) (len : length account.owed ≡ length j.stages) (place : t % guard.cycle + 1 ≤ guard.cycle) where
  abbrev needs : ℕ → Option ℕ → ℕ
  needs s pays = needed_in guard.lost (less_by account.owed pays) s

  -- what the junction needs in stage s, where s pays
  needs_paying : (s : ℕ) → 1 ≤ s → s ≤ length j.stages → 1 ≤ entry account.owed s → needs s (Some s) + 1 ≡ needed_in guard.lost account.owed s
  needs_paying s low high some =
      let less = owing_less account.owed s low (omega arith) some in
      let without = ap (λ owed. guard.lost * owing owed) (set_twice account.owed (s - 1) (entry account.owed s - 1) 0) in
      omega (arith, less.0, without)

  -- stage s pays where it owes some and taking it is no change
  taken_pays : (s : ℕ) → is_change guard.lost account.before s ≡ false → 1 ≤ entry account.owed s → paying guard.lost j counts account s ≡ Some s
  taken_pays s kept some =
      ap (λ b. cond (not b && nat_lt 0 (entry account.owed s)) (Some s) (find (is_idle j counts account.owed) (stage_numbers j))) kept
      ∙ ap (λ b. cond b (Some s) (find (is_idle j counts account.owed) (stage_numbers j))) (lt-ltb 0 (entry account.owed s) some)

  takes_paying : (s : ℕ) → 1 ≤ s → s ≤ length j.stages → 1 ≤ entry account.owed s → is_change guard.lost account.before s ≡ false → needed_in guard.lost account.owed s + t % guard.cycle ≤ guard.cycle → IsCandidate guard j counts t account s
  takes_paying s low high some kept fits =
      let less = needs_paying s low high some in
      let pays = ap (λ p. needs s p) (taken_pays s kept some) in
      record { is_stage = (low, high); fits = omega (arith, less, pays) }

  -- nobody owes anything
  takes_any : 1 ≤ length j.stages → sum account.owed ≡ 0 → IsCandidate guard j counts t account 1
  takes_any stages none =
      let owed' = paid guard.lost j counts account 1 in
      let less = (sums_at_most owed' account.owed (less_at_most account.owed (paying guard.lost j counts account 1))).0 in
      let zero_owing = none_owing owed' (omega arith) in
      let fewer = (sums_at_most (set owed' 0 0) owed' (lowered owed' 0 0 zero-le)).1 in
      let nothing : owing (set owed' 0 0) ≡ 0 = omega arith in
      record { is_stage = (omega arith, stages); fits = omega (arith, less, ap (λ n. guard.lost * n) nothing) }

  -- a change to a stage that owes some, from one that owes none
  takes_change : (s : ℕ) → 1 ≤ s → s ≤ length j.stages → 1 ≤ entry account.owed s → 1 ≤ guard.lost → sum account.owed + guard.lost * owing account.owed + t % guard.cycle ≤ guard.cycle → IsCandidate guard j counts t account s
  takes_change s low high some changes fits =
      let owed' = paid guard.lost j counts account s in
      let at_most = less_at_most account.owed (paying guard.lost j counts account s) in
      let less = (sums_at_most owed' account.owed at_most).0 in
      let fewer = (sums_at_most (set owed' (s - 1) 0) (set account.owed (s - 1) 0) (both_set owed' account.owed (s - 1) 0 at_most)).1 in
      let without = (owing_less account.owed s low (omega arith) some).1 in
      let costs : guard.lost * (owing (set owed' (s - 1) 0) + 1) ≤ guard.lost * owing account.owed = mul-le-mul_left guard.lost (omega arith) in
      record { is_stage = (low, high); fits = omega arith }

same_stage : (lost r : ℕ) → is_change lost (Some r) r ≡ false
same_stage lost r = ap (λ b. nat_lt 0 lost && not b) (eq-eqb r r refl) ∙ never (nat_lt 0 lost)
  where
    never : (b : Bool) → (b && false) ≡ false
    never true = refl
    never false = refl

no_lost : (before : Option ℕ) (s : ℕ) → is_change 0 before s ≡ false
no_lost None s = refl
no_lost (Some r) s = refl

kept_at_no_loss : (lost : ℕ) (before : Option ℕ) (s : ℕ) → lost ≡ 0 → is_change lost before s ≡ false
kept_at_no_loss lost before s e = ap (λ n. is_change n before s) e ∙ no_lost before s

pub candidate_of : (guard : Guard) (j : Junction) (counts : ℕ → ℕ) (t : ℕ) (account : Account) → length account.owed ≡ length j.stages → t % guard.cycle + 1 ≤ guard.cycle → 1 ≤ length j.stages →
    (before : Option ℕ) → account.before ≡ before → ((r : ℕ) → before ≡ Some r → (1 ≤ r) × (r ≤ length j.stages)) → needed_before guard.lost account.owed before + t % guard.cycle ≤ guard.cycle → (s : ℕ) × IsCandidate guard j counts t account s
candidate_of guard j counts t account len place stages before e range fits = ⊎_elim
    (λ none. (1, takes_any guard j counts t account len place stages none))
    (λ some. owes (some.0 + 1) (omega arith) (omega (arith, some.1)) (let back : some.0 + 1 - 1 ≡ some.0 = omega arith in subst (λ n. 1 ≤ get_or account.owed n 0) (sym back) some.2) before e range fits)
    (first_owing account.owed)
  where
    owes : (s : ℕ) → 1 ≤ s → s ≤ length j.stages → 1 ≤ entry account.owed s → (before : Option ℕ) → account.before ≡ before → ((r : ℕ) → before ≡ Some r → (1 ≤ r) × (r ≤ length j.stages)) →
        needed_before guard.lost account.owed before + t % guard.cycle ≤ guard.cycle → (s : ℕ) × IsCandidate guard j counts t account s
    owes s low high some None e range fits =
        let fewer : owing (set account.owed (s - 1) 0) ≤ owing account.owed = (sums_at_most (set account.owed (s - 1) 0) account.owed (lowered account.owed (s - 1) 0 zero-le)).1 in
        let m = mul-le-mul_left guard.lost fewer in
        (s, takes_paying guard j counts t account len place s low high some (ap (λ b. is_change guard.lost b s) e) (omega arith))
    owes s low high some (Some r) e range fits =
        let at = range r refl in
        ⊎_elim
        (λ (owes_too : 0 < entry account.owed r). (r, takes_paying guard j counts t account len place r at.0 at.1 owes_too (ap (λ b. is_change guard.lost b r) e ∙ same_stage guard.lost r) fits))
        (λ (owes_none : entry account.owed r ≤ 0).
        let without = owing_without account.owed (r - 1) (omega (arith, at.0, at.1)) in
        let nothing : cond {A = ℕ} (nat_lt 0 (entry account.owed r)) 1 0 ≡ 0 = let is : entry account.owed r ≡ 0 = omega arith in ap (λ n. cond {A = ℕ} (nat_lt 0 n) 1 0) is in
        let whole : owing (set account.owed (r - 1) 0) ≡ owing account.owed = omega arith in
        let m = ap (λ n. guard.lost * n) whole in
        ⊎_elim
        (λ (changes : 0 < guard.lost). (s, takes_change guard j counts t account len place s low high some changes (omega arith)))
        (λ (free : guard.lost ≤ 0).
        let none : guard.lost ≡ 0 = omega arith in
        let a = ap (λ n. n * owing (set account.owed (s - 1) 0)) none in
        (s, takes_paying guard j counts t account len place s low high some (kept_at_no_loss guard.lost account.before s none) (omega arith)))
        (cases_lt 0 guard.lost))
        (cases_lt 0 (entry account.owed r))

module _ (guard : Guard) (greens : List ℕ) (j : Junction) (counts : ℕ → ℕ → ℕ) (stages : ℕ → ℕ) where
  abbrev account : ℕ → Account
  account t = account_at guard greens j counts stages t

  needed_fits : (t : ℕ) → KeepsGreens guard greens j counts stages t → needed_before guard.lost (account t).owed (account t).before + t % guard.cycle ≤ guard.cycle
  needed_fits zero keeps = let fit = keeps.fit in let e = zero-mod guard.cycle in omega arith
  needed_fits (suc t) keeps =
      let candidate = keeps.candidates t (omega arith) in
      let fits = candidate.fits in
      let owed' = paid guard.lost j (counts t) (account t) (stages t) in
      ⊎_elim
      (λ e. subst (λ owed. needed_in guard.lost owed (stages t) + suc t % guard.cycle ≤ guard.cycle) (sym (left_over guard.cycle t keeps.some greens owed' e.0)) (omega (arith, e.0)))
      (λ e. subst (λ owed. needed_in guard.lost owed (stages t) + suc t % guard.cycle ≤ guard.cycle) (sym (made_new guard.cycle t keeps.some greens owed' e.0))
      (let fit = keeps.fit in
      let fewer = (sums_at_most (set greens (stages t - 1) 0) greens (lowered greens (stages t - 1) 0 zero-le)).1 in
      let m = mul-le-mul_left guard.lost fewer in
      omega (arith, e.0)))
      (next_place guard.cycle t keeps.some)

  pub before_in : (t : ℕ) → KeepsGreens guard greens j counts stages t → (r : ℕ) → (account t).before ≡ Some r → (1 ≤ r) × (r ≤ length j.stages)
  before_in zero keeps r e = cc
  before_in (suc t) keeps r e = let is : stages t ≡ r = cc in let range = (keeps.candidates t (omega arith)).is_stage in (omega (arith, range.0), omega (arith, range.1))

pub candidate_there : (guard : Guard) (greens : List ℕ) (j : Junction) (counts : ℕ → ℕ → ℕ) (stages : ℕ → ℕ) (T : ℕ) → KeepsGreens guard greens j counts stages T → 1 ≤ length j.stages → HasCandidate guard greens j counts stages T
candidate_there guard greens j counts stages T keeps some =
    let fits = needed_fits guard greens j counts stages T keeps in
    let lt = mod-lt T {m = guard.cycle} keeps.some in
    record {
      needed = fits;
      some = candidate_of guard j (counts T) T (account_at guard greens j counts stages T) (one_each guard greens j counts stages T keeps 1 T (le_refl T)) (omega arith) some
          (account_at guard greens j counts stages T).before refl (before_in guard greens j counts stages T keeps) fits;
    }
