-- How often a movement is green in a row of periods, whatever part of its cycles the row has.
use Rattle.std.proofs.Common.{◌≡◌, ◌==◌, ℕ, zero, suc, ◌+◌, ◌-◌, ◌*◌, ◌%◌, ◌≤◌, ◌<◌, Bool, true, false, cond, not, ◌&&◌, ◌||◌, ◌⊎◌, inl, inr, List, [], ◌∷◌, length, Some, arith, refl, sym, ◌∙◌, ap, subst, ⊎_elim, eq-eqb, ne_eqb, get_or, mul-le-mul_left, mul-le-mul_right, zero-le}
use Rattle.std.proofs.Math.Nat.{mod-lt, mod-eq_of_lt, suc-mod, mod_self, zero-mod}
use Rattle.std.proofs.lemmas.Bool.{cases_lt}
use Rattle.std.specs.List.{list_all}
use Rattle.mp_model.specs.Guard.{Guard, is_always_green, sum_with, given_of}
use Rattle.mp_model.specs.GuardedRun.{Account, account_at, owed_in, paid, is_change}
use Rattle.mp_model.specs.Network.{Junction, stage_at, has}
use Rattle.mp_model.specs.Lights.{greens_in}
use Rattle.mp_guarded.specs.Greens.{KeepsGreens, is_green_at, IsCounted}
use Rattle.mp_guarded.proofs.Owed.{pays_when_counted, pays_at_most_one, sum_with_le, both}

-- the place in the cycle goes up by 1, or a new cycle begins
pub next_place : (C t : ℕ) → 1 ≤ C → ((suc t % C ≡ t % C + 1) × (t % C + 1 < C)) ⊎ ((suc t % C ≡ 0) × (t % C + 1 ≡ C))
next_place C t some = ⊎_elim
    (λ (lt : t % C + 1 < C). inl (suc-mod t C ∙ mod-eq_of_lt (omega arith) ∙ omega arith, lt))
    (λ (le : C ≤ t % C + 1). let m = mod-lt t {m = C} some in let e : suc (t % C) ≡ C = omega arith in inr (suc-mod t C ∙ ap (λ n. n % C) e ∙ mod_self C, omega arith))
    (cases_lt (t % C + 1) C)

-- What the stages of a movement owe at place i of a cycle, of G in all: one was paid in a period at most, and no more is owed than periods are left.
record IsOwed (C G o i : ℕ) : Type 0 where
  some : G ≤ o + i
  most : o ≤ G
  fits : o + i ≤ C

-- A row of n periods with g greens, at place i where o is owed: it began in this cycle, or what its greens serve lacks the rate for the periods that are not given, once.
data Row (rate flow C G : ℕ) : ℕ → ℕ → ℕ → ℕ → Type 0 where
  within : {n g o i : ℕ} → n ≤ i → G + n ≤ g + o + i → Row rate flow C G n g o i
  across : {n g o i : ℕ} → n * rate + flow * G ≤ flow * (g + o) + rate * (C - G) + i * rate → Row rate flow C G n g o i

-- a period more in the same cycle
row_more : (rate flow C G n g o o' i green : ℕ) → o ≤ o' + green → Row rate flow C G n g o i → Row rate flow C G (suc n) (g + green) o' (i + 1)
row_more rate flow C G n g o o' i green earned (within less enough) = within (omega arith) (omega arith)
row_more rate flow C G n g o o' i green earned (across enough) = let m : flow * (g + o) ≤ flow * (g + green + o') = mul-le-mul_left flow (omega arith) in across (omega arith)

-- the last period of a cycle, behind which nothing is owed
row_cycle : (rate flow C G n g o o' i green : ℕ) → rate ≤ flow → C * rate ≤ flow * G → G ≤ C → o ≤ o' + green → o' ≡ 0 → i + 1 ≡ C → Row rate flow C G n g o i → Row rate flow C G (suc n) (g + green) G 0
row_cycle rate flow C G n g o o' i green low serves some earned nothing last (within less enough) =
    let a : suc n ≤ g + green + (C - G) = omega arith in
    let b : suc n * rate ≤ (g + green + (C - G)) * rate = mul-le-mul_right rate a in
    let c : (g + green) * rate ≤ (g + green) * flow = mul-le-mul_left (g + green) low in
    across (omega arith)
row_cycle rate flow C G n g o o' i green low serves some earned nothing last (across enough) =
    let m : flow * (g + o) ≤ flow * (g + green) = mul-le-mul_left flow (omega arith) in
    let e : (i + 1) * rate ≡ C * rate = ap (λ n. n * rate) last in
    across (omega arith)

-- what the row serves
row_serves : (rate flow C G n g o i : ℕ) → rate ≤ flow → IsOwed C G o i → Row rate flow C G n g o i → n * rate ≤ flow * g + 2 * (rate * (C - G))
row_serves rate flow C G n g o i low owed (within less enough) =
    let f = owed.fits in
    let a : n ≤ g + (C - G) = omega arith in
    let b : n * rate ≤ (g + (C - G)) * rate = mul-le-mul_right rate a in
    let c : g * rate ≤ g * flow = mul-le-mul_left g low in
    omega arith
row_serves rate flow C G n g o i low owed (across enough) =
    let f = owed.fits in
    let m = owed.most in
    let s = owed.some in
    let e : G ≡ o + (G - o) = omega arith in
    let a : (G - o) * rate ≤ (G - o) * flow = mul-le-mul_left (G - o) low in
    let b : i * rate ≤ ((C - G) + (G - o)) * rate = mul-le-mul_right rate (omega arith) in
    let c : flow * G ≡ flow * o + flow * (G - o) = ap (λ n. flow * n) e ∙ omega arith in
    omega arith

-- what is owed at the next beginning: the greens at a new cycle, and else what is left
module _ (C t : ℕ) (some : 1 ≤ C) (greens paid : List ℕ) where
  pub left_over : suc t % C ≡ t % C + 1 → owed_in C greens (suc t) paid ≡ paid
  left_over e = ap (λ b. cond b greens paid) (ap (λ n. n == 0) e ∙ ne_eqb (t % C + 1) 0 (λ (h : t % C + 1 ≡ 0). absurd (omega arith)))

  pub made_new : suc t % C ≡ 0 → owed_in C greens (suc t) paid ≡ greens
  made_new e = ap (λ b. cond b greens paid) (eq-eqb (suc t % C) 0 e)

module _ (guard : Guard) (greens : List ℕ) (j : Junction) (counts : ℕ → ℕ → ℕ) (stages : ℕ → ℕ) (T : ℕ) (keeps : KeepsGreens guard greens j counts stages T) (k : ℕ) where
  abbrev account : ℕ → Account
  account t = account_at guard greens j counts stages t

  abbrev paid_in : ℕ → List ℕ
  paid_in t = paid guard.lost j (counts t) (account t) (stages t)

  abbrev owed_of : List ℕ → ℕ
  owed_of owed = sum_with j.stages owed k

  -- one number per stage is owed
  pub one_each : (t : ℕ) → t ≤ T → length (account t).owed ≡ length j.stages
  one_each zero le = keeps.one_each
  one_each (suc t) le =
      let candidate = keeps.candidates t (omega arith) in
      let more = one_each t (omega arith) in
      let pays = pays_at_most_one guard.lost j (counts t) (account t) (stages t) k more candidate.is_stage.0 candidate.is_stage.1 in
      ⊎_elim
      (λ e. ap length (left_over guard.cycle t keeps.some greens (paid_in t) e.0) ∙ pays.length ∙ more)
      (λ e. ap length (made_new guard.cycle t keeps.some greens (paid_in t) e.0) ∙ keeps.one_each)
      (next_place guard.cycle t keeps.some)

  new_cycle : IsOwed guard.cycle (owed_of greens) (owed_of greens) 0
  new_cycle = let fit = keeps.fit in let less = sum_with_le j.stages greens k in record { some = omega arith; most = omega arith; fits = omega arith }

  paid_fits : (t : ℕ) → t < T → owed_of (paid_in t) + (t % guard.cycle + 1) ≤ guard.cycle
  paid_fits t lt = let candidate = keeps.candidates t lt in let fits = candidate.fits in let less = sum_with_le j.stages (paid_in t) k in omega arith

  -- what the stages of k owe at each beginning
  is_owed : (t : ℕ) → t ≤ T → IsOwed guard.cycle (owed_of greens) (owed_of (account t).owed) (t % guard.cycle)
  is_owed zero le = subst (λ i. IsOwed guard.cycle (owed_of greens) (owed_of greens) i) (sym (zero-mod guard.cycle)) new_cycle
  is_owed (suc t) le =
      let candidate = keeps.candidates t (omega arith) in
      let before = is_owed t (omega arith) in
      let some = before.some in
      let most = before.most in
      let pays = pays_at_most_one guard.lost j (counts t) (account t) (stages t) k (one_each t (omega arith)) candidate.is_stage.0 candidate.is_stage.1 in
      let one = pays.one in
      let falls = pays.falls in
      let fits = paid_fits t (omega arith) in
      ⊎_elim
      (λ e. subst (λ owed. IsOwed guard.cycle (owed_of greens) (owed_of owed) (suc t % guard.cycle)) (sym (left_over guard.cycle t keeps.some greens (paid_in t) e.0))
      (subst (λ i. IsOwed guard.cycle (owed_of greens) (owed_of (paid_in t)) i) (sym e.0) (record { some = omega arith; most = omega arith; fits = omega arith })))
      (λ e. subst (λ owed. IsOwed guard.cycle (owed_of greens) (owed_of owed) (suc t % guard.cycle)) (sym (made_new guard.cycle t keeps.some greens (paid_in t) e.0))
      (subst (λ i. IsOwed guard.cycle (owed_of greens) (owed_of greens) i) (sym e.0) new_cycle))
      (next_place guard.cycle t keeps.some)

  abbrev green : ℕ → Bool
  green t = is_green_at guard greens j counts stages k t

  module _ (not_always : is_always_green j k ≡ false) (rate flow : ℕ) (low : rate ≤ flow) (serves : guard.cycle * rate ≤ flow * owed_of greens) where
    abbrev RowAt : ℕ → ℕ → ℕ → Type 0
    RowAt n g t = Row rate flow guard.cycle (owed_of greens) n g (owed_of (account t).owed) (t % guard.cycle)

    row_step : (n g t : ℕ) → t < T → 1 ≤ counts t k → RowAt n g t → RowAt (suc n) (g + cond (green t) 1 0) (suc t)
    row_step n g t lt counted row =
        let candidate = keeps.candidates t lt in
        let pays = pays_when_counted guard.lost j (counts t) (account t) (stages t) k (one_each t (omega arith)) candidate.is_stage.0 candidate.is_stage.1 not_always counted in
        let fits = paid_fits t lt in
        let all = (new_cycle).fits in
        ⊎_elim
        (λ e. subst (λ owed. Row rate flow guard.cycle (owed_of greens) (suc n) (g + cond (green t) 1 0) (owed_of owed) (suc t % guard.cycle)) (sym (left_over guard.cycle t keeps.some greens (paid_in t) e.0))
        (subst (λ i. Row rate flow guard.cycle (owed_of greens) (suc n) (g + cond (green t) 1 0) (owed_of (paid_in t)) i) (sym e.0)
        (row_more rate flow guard.cycle (owed_of greens) n g (owed_of (account t).owed) (owed_of (paid_in t)) (t % guard.cycle) (cond (green t) 1 0) pays.earned row)))
        (λ e. subst (λ owed. Row rate flow guard.cycle (owed_of greens) (suc n) (g + cond (green t) 1 0) (owed_of owed) (suc t % guard.cycle)) (sym (made_new guard.cycle t keeps.some greens (paid_in t) e.0))
        (subst (λ i. Row rate flow guard.cycle (owed_of greens) (suc n) (g + cond (green t) 1 0) (owed_of greens) i) (sym e.0)
        (let last = e.1 in row_cycle rate flow guard.cycle (owed_of greens) n g (owed_of (account t).owed) (owed_of (paid_in t)) (t % guard.cycle) (cond (green t) 1 0) low serves (omega arith) pays.earned (omega arith) last row)))
        (next_place guard.cycle t keeps.some)

    rows : (a n : ℕ) → a + n ≤ T → IsCounted counts k a n → RowAt n (greens_in green a n) (a + n)
    rows a zero le counted = let owed = (is_owed a (omega arith)).some in subst (λ t. RowAt 0 0 t) (sym (a_zero a)) (within zero-le (omega arith))
      where
        a_zero : (a : ℕ) → a + 0 ≡ a
        a_zero a = omega arith
    rows a (suc n) le counted =
        subst (λ t. RowAt (suc n) (greens_in green a (suc n)) t) (a_suc a n)
        (row_step n (greens_in green a n) (a + n) (omega arith) (counted (a + n) (omega arith) (omega arith)) (rows a n (omega arith) (λ u low high. counted u low (omega arith))))
      where
        a_suc : (a n : ℕ) → suc (a + n) ≡ a + suc n
        a_suc a n = omega arith

    greens_serve : (a n : ℕ) → a + n ≤ T → IsCounted counts k a n → n * rate ≤ flow * greens_in green a n + 2 * (rate * (guard.cycle - owed_of greens))
    greens_serve a n le counted = row_serves rate flow guard.cycle (owed_of greens) n (greens_in green a n) (owed_of (account (a + n)).owed) ((a + n) % guard.cycle) low (is_owed (a + n) le) (rows a n le counted)

  -- a movement that stands in every stage
  module _ (always : is_always_green j k ≡ true) where
    stands : (xs : List (List ℕ)) (i : ℕ) → list_all (λ stage. has stage k) xs ≡ true → i < length xs → has (get_or xs i []) k ≡ true
    stands [] i all lt = absurd (omega arith)
    stands (x ∷ xs) zero all lt = (both (has x k) (list_all (λ stage. has stage k) xs) all).0
    stands (x ∷ xs) (suc i) all lt = stands xs i (both (has x k) (list_all (λ stage. has stage k) xs) all).1 (omega arith)

    stands_in_stage : (t : ℕ) → t < T → has (stage_at j (stages t)) k ≡ true
    stands_in_stage t lt = let range = (keeps.candidates t lt).is_stage in stands j.stages (stages t - 1) always (omega (arith, range.0, range.1))

    or_true : (b c : Bool) → c ≡ true → (b || c) ≡ true
    or_true true c e = refl
    or_true false c e = e

    always_green : (t : ℕ) → t < T → green t ≡ true
    always_green zero lt = stands_in_stage zero lt
    always_green (suc t) lt =
        ap (λ b. b && (not (is_change guard.lost (Some (stages t)) (stages (suc t))) || has (stage_at j (stages t)) k)) (stands_in_stage (suc t) lt)
        ∙ or_true (not (is_change guard.lost (Some (stages t)) (stages (suc t)))) (has (stage_at j (stages t)) k) (stands_in_stage t (omega arith))

    all_green : (a n : ℕ) → a + n ≤ T → greens_in green a n ≡ n
    all_green a zero le = refl
    all_green a (suc n) le = let more = all_green a n (omega arith) in let one : cond {A = ℕ} (green (a + n)) 1 0 ≡ 1 = ap (λ b. cond {A = ℕ} b 1 0) (always_green (a + n) (omega arith)) in omega arith

  greens_by : (b : Bool) → is_always_green j k ≡ b → (a n : ℕ) → a + n ≤ T → IsCounted counts k a n → (rate flow : ℕ) → rate ≤ flow → guard.cycle * rate ≤ flow * cond b guard.cycle (owed_of greens) →
      n * rate ≤ flow * greens_in green a n + 2 * (rate * (guard.cycle - cond b guard.cycle (owed_of greens)))
  greens_by true e a n le counted rate flow low serves = let m = mul-le-mul_left n low in let g : flow * greens_in green a n ≡ flow * n = ap (λ m. flow * m) (all_green e a n le) in omega arith
  greens_by false e a n le counted rate flow low serves = greens_serve e rate flow low serves a n le counted

pub greens_hold : (guard : Guard) (greens : List ℕ) (j : Junction) (counts : ℕ → ℕ → ℕ) (stages : ℕ → ℕ) (T : ℕ) → KeepsGreens guard greens j counts stages T → (k a n : ℕ) → a + n ≤ T → IsCounted counts k a n →
    (rate flow : ℕ) → rate ≤ flow → guard.cycle * rate ≤ flow * given_of guard.cycle j greens k →
    n * rate ≤ flow * greens_in (is_green_at guard greens j counts stages k) a n + 2 * (rate * (guard.cycle - given_of guard.cycle j greens k))
greens_hold guard greens j counts stages T keeps k a n le counted rate flow low serves = greens_by guard greens j counts stages T keeps k (is_always_green j k) refl a n le counted rate flow low serves

some_green : (C g w : ℕ) → (w + 1) * 1 ≤ C * g + w → 1 ≤ g
some_green C zero w h = absurd (omega arith)
some_green C (suc g) w h = omega arith

pub wait_holds : (guard : Guard) (greens : List ℕ) (j : Junction) (counts : ℕ → ℕ → ℕ) (stages : ℕ → ℕ) (T : ℕ) → KeepsGreens guard greens j counts stages T → (k a : ℕ) → 1 ≤ given_of guard.cycle j greens k →
    a + (2 * (guard.cycle - given_of guard.cycle j greens k) + 1) ≤ T → IsCounted counts k a (2 * (guard.cycle - given_of guard.cycle j greens k) + 1) → 1 ≤ greens_in (is_green_at guard greens j counts stages k) a (2 * (guard.cycle - given_of guard.cycle j greens k) + 1)
wait_holds guard greens j counts stages T keeps k a some le counted =
    let G = given_of guard.cycle j greens k in
    let w = 2 * (guard.cycle - G) in
    let serves : guard.cycle * 1 ≤ guard.cycle * G = mul-le-mul_left guard.cycle some in
    some_green guard.cycle (greens_in (is_green_at guard greens j counts stages k) a (w + 1)) w
    (let h = greens_hold guard greens j counts stages T keeps k a (w + 1) le counted 1 guard.cycle keeps.some serves in omega arith)
