-- Lists of numbers: what is asked of them, searched in them and filtered out of them.
use Rattle.std.proofs.Common.{◌≡◌, ◌==◌, ◌||◌, ℕ, zero, suc, ◌+◌, ◌≤◌, ◌<◌, Bool, true, false, List, [], ◌∷◌, Some, None, filter, refl, sym, ◌∙◌, ap, inl, inr, arith}
use Rattle.std.specs.List.{AllByRecursion, list_any, list_all, find, range_with_len}
use Rattle.std.proofs.lemmas.Bool.{and_parts, false≢true, cases_Bool}
use Rattle.std.proofs.lemmas.Bool.Decides.{nat_tests}
use Rattle.mp_model.specs.Network.{has}

-- ---- questions

-- a number that passes, out of those that are asked
pub passing : (test : ℕ → Bool) (ks : List ℕ) → list_any test ks ≡ true → (k : ℕ) × (has ks k ≡ true) × (test k ≡ true)
passing test [] h = absurd (false≢true h)
passing test (k ∷ ks) h =
    elim (cases_Bool (test k)) [
      | inl here ↦ (k, grind (arith, nat_tests), here)
      | inr other ↦ let p = passing test ks (rw other at h) in (p.0, grind (arith, nat_tests), p.2)
    ]

-- one that passes makes the answer true
pub passes : (test : ℕ → Bool) (ks : List ℕ) (k : ℕ) → has ks k ≡ true → test k ≡ true → list_any test ks ≡ true
passes test [] k h e = absurd (false≢true h)
passes test (j ∷ ks) k h e =
    elim (cases_Bool (j == k)) [
      | inl here ↦ let same : j ≡ k = grind (arith, nat_tests) in rw (same, e)
      | inr other ↦ let later : list_any test ks ≡ true = passes test ks k (rw other at h) e in grind (arith, nat_tests)
    ]

some≢none : (x : ℕ) → Some x ≡ None → ⊥
some≢none x e = cc

-- where a search finds nothing, no number passes
pub none_passes : (test : ℕ → Bool) (xs : List ℕ) (k : ℕ) → find test xs ≡ None → has xs k ≡ true → test k ≡ false
none_passes test [] k none h = absurd (false≢true h)
none_passes test (x ∷ xs) k none h =
    elim (cases_Bool (test x)) [
      | inl one ↦ absurd (some≢none x (rw one at none))
      | inr other ↦ elim (cases_Bool (x == k)) [
        | inl here ↦ let same : x ≡ k = grind (arith, nat_tests) in rw (← same) other
        | inr apart ↦ none_passes test xs k (rw other at none) (rw apart at h)
      ]
    ]

-- where the answer is no, no number passes
pub none_asked : (test : ℕ → Bool) (xs : List ℕ) (k : ℕ) → list_any test xs ≡ false → has xs k ≡ true → test k ≡ false
none_asked test [] k none h = absurd (false≢true h)
none_asked test (x ∷ xs) k none h =
    elim (cases_Bool (test x)) [
      | inl one ↦ absurd (false≢true (sym (rw one at none)))
      | inr other ↦ elim (cases_Bool (x == k)) [
        | inl here ↦ let same : x ≡ k = grind (arith, nat_tests) in rw (← same) other
        | inr apart ↦ none_asked test xs k (rw other at none) (rw apart at h)
      ]
    ]

-- where no number passes, a search finds nothing
pub nothing_found : (test : ℕ → Bool) (xs : List ℕ) → ((k : ℕ) → has xs k ≡ true → test k ≡ false) → find test xs ≡ None
nothing_found test [] none = refl
nothing_found test (x ∷ xs) none = let here : test x ≡ false = none x (grind (arith, nat_tests)) in rw here (nothing_found test xs (λ k h. none k (grind (arith, nat_tests))))

-- where no number passes, the answer is no
pub nothing_asked : (test : ℕ → Bool) (xs : List ℕ) → ((k : ℕ) → has xs k ≡ true → test k ≡ false) → list_any test xs ≡ false
nothing_asked test [] none = refl
nothing_asked test (x ∷ xs) none = let here : test x ≡ false = none x (grind (arith, nat_tests)) in rw here (nothing_asked test xs (λ k h. none k (grind (arith, nat_tests))))

-- ---- each number

pub all_each : (P : ℕ → Type 0) (xs : List ℕ) (k : ℕ) → AllByRecursion P xs → has xs k ≡ true → P k
all_each P [] k all h = absurd (false≢true h)
all_each P (x ∷ xs) k all h =
    elim (cases_Bool (x == k)) [
      | inl here ↦ let same : x ≡ k = grind (arith, nat_tests) in rw (← same) all.0
      | inr other ↦ all_each P xs k all.1 (rw other at h)
    ]

pub each_all : (P : ℕ → Type 0) (xs : List ℕ) → ((k : ℕ) → has xs k ≡ true → P k) → AllByRecursion P xs
each_all P [] each = tt
each_all P (x ∷ xs) each = (each x (grind (arith, nat_tests)), each_all P xs (λ k h. each k (grind (arith, nat_tests))))

-- ---- ranges and filters

pub in_range : (a n k : ℕ) → has (range_with_len a n) k ≡ true → (a ≤ k) × (k < a + n)
in_range a zero k h = absurd (false≢true h)
in_range a (suc n) k h =
    elim (cases_Bool (a == k)) [
      | inl here ↦ let e : a ≡ k = grind (arith, nat_tests) in (omega arith, omega arith)
      | inr other ↦ let r = in_range (a + 1) n k (rw other at h) in (omega (arith, r.0), omega (arith, r.1))
    ]

pub of_range : (a n k : ℕ) → a ≤ k → k < a + n → has (range_with_len a n) k ≡ true
of_range a zero k low high = absurd (omega arith)
of_range a (suc n) k low high =
    elim (cases_Bool (a == k)) [
      | inl here ↦ rw here
      | inr other ↦ rw other (of_range (a + 1) n k (grind (arith, nat_tests)) (omega arith))
    ]

-- what is left of a list has what it had and passes
pub of_filter : (test : ℕ → Bool) (xs : List ℕ) (k : ℕ) → has xs k ≡ true → test k ≡ true → has (filter test xs) k ≡ true
of_filter test [] k h e = absurd (false≢true h)
of_filter test (x ∷ xs) k h e =
    elim (cases_Bool (x == k)) [
      | inl here ↦ let same : x ≡ k = grind (arith, nat_tests) in let t : test x ≡ true = rw same e in rw (t, here)
      | inr other ↦ elim (cases_Bool (test x)) [
        | inl one ↦ rw (one, other) (of_filter test xs k (rw other at h) e)
        | inr none ↦ rw none (of_filter test xs k (rw other at h) e)
      ]
    ]

pub in_filter : (test : ℕ → Bool) (xs : List ℕ) (k : ℕ) → has (filter test xs) k ≡ true → (has xs k ≡ true) × (test k ≡ true)
in_filter test [] k h = absurd (false≢true h)
in_filter test (x ∷ xs) k h =
    elim (cases_Bool (test x)) [
      | inl one ↦ elim (cases_Bool (x == k)) [
        | inl here ↦ let same : x ≡ k = grind (arith, nat_tests) in (rw here, rw (← same) one)
        | inr other ↦ let r = in_filter test xs k (rw (one, other) at h) in (rw other r.0, r.1)
      ]
      | inr none ↦ let r = in_filter test xs k (rw none at h) in (grind (arith, nat_tests, r.0), r.1)
    ]

-- a question about a range with one more number
pub list_any-range_more : (test : ℕ → Bool) (a n : ℕ) → list_any test (range_with_len a (n + 1)) ≡ (list_any test (range_with_len a n) || test (a + n))
list_any-range_more test a zero = let e : a + 0 ≡ a = omega arith in rw e (one (test a))
  where
    one : (b : Bool) → (b || false) ≡ (false || b)
    one true = refl
    one false = refl
list_any-range_more test a (suc n) =
    let e : a + suc n ≡ a + 1 + n = omega arith in
    let same : suc n + 1 ≡ suc (n + 1) = omega arith in
    rw (same, e) (ap (λ b. test a || b) (list_any-range_more test (a + 1) n) ∙ one (test a))
  where
    one : (b : Bool) → (b || (list_any test (range_with_len (a + 1) n) || test (a + 1 + n))) ≡ ((b || list_any test (range_with_len (a + 1) n)) || test (a + 1 + n))
    one true = refl
    one false = refl

-- ---- lists of any entries

pub or_none : (a b : Bool) → (a || b) ≡ false → (a ≡ false) × (b ≡ false)
or_none true b h = absurd (false≢true (sym h))
or_none false b h = (refl, h)

pub none_in : {X : Type 0} (test : X → Bool) (xs : List X) → list_any test xs ≡ false → AllByRecursion (λ x. test x ≡ false) xs
none_in test [] h = tt
none_in test (x ∷ xs) h = let p = or_none (test x) (list_any test xs) h in (p.0, none_in test xs p.1)

pub in_none : {X : Type 0} (test : X → Bool) (xs : List X) → AllByRecursion (λ x. test x ≡ false) xs → list_any test xs ≡ false
in_none test [] h = refl
in_none test (x ∷ xs) h = rw h.0 (in_none test xs h.1)

pub all_more : {X : Type 0} (P Q : X → Type 0) (xs : List X) → ((x : X) → P x → Q x) → AllByRecursion P xs → AllByRecursion Q xs
all_more P Q [] f h = tt
all_more P Q (x ∷ xs) f h = (f x h.0, all_more P Q xs f h.1)

pub all_both : {X : Type 0} (P Q : X → Type 0) (xs : List X) → AllByRecursion P xs → AllByRecursion Q xs → AllByRecursion (λ x. P x × Q x) xs
all_both P Q [] h k = tt
all_both P Q (x ∷ xs) h k = ((h.0, k.0), all_both P Q xs h.1 k.1)

pub any_more : {X : Type 0} (p q : X → Bool) (xs : List X) → ((x : X) → p x ≡ true → q x ≡ true) → list_any p xs ≡ true → list_any q xs ≡ true
any_more p q [] f h = absurd (false≢true h)
any_more p q (x ∷ xs) f h =
    elim (cases_Bool (p x)) [
      | inl one ↦ rw (f x one)
      | inr none ↦ elim (cases_Bool (q x)) [
        | inl yes_q ↦ rw yes_q
        | inr no_q ↦ rw no_q (any_more p q xs f (rw none at h))
      ]
    ]

-- a number that passes, out of some lists
pub passing_in : (test : ℕ → Bool) (lists : List (List ℕ)) → list_any (list_any test) lists ≡ true → (k : ℕ) × (list_any (λ ks. has ks k) lists ≡ true) × (test k ≡ true)
passing_in test [] h = absurd (false≢true h)
passing_in test (ks ∷ lists) h =
    elim (cases_Bool (list_any test ks)) [
      | inl here ↦ let p = passing test ks here in (p.0, rw p.1, p.2)
      | inr other ↦ let p = passing_in test lists (rw other at h) in (p.0, later (has ks p.0) (list_any (λ ls. has ls p.0) lists) p.1, p.2)
    ]
  where
    later : (a b : Bool) → b ≡ true → (a || b) ≡ true
    later true b e = refl
    later false b e = e

pub all_pass : {X : Type 0} (p : X → Bool) (xs : List X) → list_all p xs ≡ true → AllByRecursion (λ x. p x ≡ true) xs
all_pass p [] h = tt
all_pass p (x ∷ xs) h = let (here, later) = and_parts (p x) (list_all p xs) h in (here, all_pass p xs later)
