-- The first number of a list whose key is greatest.
use Rattle.std.proofs.Common.{◌≡◌, ◌==◌, ℕ, ◌≤◌, Bool, true, false, cond, List, [], ◌∷◌, length, ℤ, ◌≤ℤ◌, int_lt, arith, refl, ◌∙◌, ap, ⊎_elim, ap₂, eq-eqb}
use Rattle.std.specs.List.{AllByRecursion, best_of, list_any}
use Rattle.std.proofs.lemmas.Int.{ints}
use Rattle.std.proofs.lemmas.Bool.{or_left, or_right, or_cases}
use Rattle.mp_model.specs.Split.{first_greatest}

abbrev pub beats : (ℕ → ℤ) → ℕ → ℕ → Bool
beats key x best = int_lt (key best) (key x)

-- the best of a and xs has a key at least that of a, and of each of xs
pub best_step : (key : ℕ → ℤ) (a x : ℕ) (b : Bool) → int_lt (key a) (key x) ≡ b → (key a ≤ℤ key (cond b x a)) × (key x ≤ℤ key (cond b x a))
best_step key a x true e = (omega (arith, ints), omega (arith, ints))
best_step key a x false e = (omega (arith, ints), omega (arith, ints))

pub leℤ_trans : (a b c : ℤ) → a ≤ℤ b → b ≤ℤ c → a ≤ℤ c
leℤ_trans a b c h k = omega (arith, ints)

pub best_start : (key : ℕ → ℤ) (a : ℕ) (xs : List ℕ) → key a ≤ℤ key (best_of (beats key) a xs)
best_start key a [] = omega (arith, ints)
best_start key a (x ∷ xs) = leℤ_trans _ (key (cond (beats key x a) x a)) _ (best_step key a x (beats key x a) refl).0 (best_start key (cond (beats key x a) x a) xs)

pub best_most : (key : ℕ → ℤ) (a : ℕ) (xs : List ℕ) → AllByRecursion (λ k. key k ≤ℤ key (best_of (beats key) a xs)) xs
best_most key a [] = tt
best_most key a (x ∷ xs) = (leℤ_trans _ (key (cond (beats key x a) x a)) _ (best_step key a x (beats key x a) refl).1 (best_start key (cond (beats key x a) x a) xs), best_most key (cond (beats key x a) x a) xs)

pub first_most : (key : ℕ → ℤ) (ks : List ℕ) → AllByRecursion (λ k. key k ≤ℤ key (first_greatest key ks)) ks
first_most key [] = tt
first_most key (k ∷ ks) = (best_start key k ks, best_most key k ks)

-- it is one of them
pub in_step : (r a x : ℕ) (xs : List ℕ) (b : Bool) → list_any (λ k. r == k) (cond b x a ∷ xs) ≡ true → list_any (λ k. r == k) (a ∷ x ∷ xs) ≡ true
in_step r a x xs true h = or_right (r == a) (list_any (λ k. r == k) (x ∷ xs)) h
in_step r a x xs false h = ⊎_elim (λ e. or_left (r == a) (list_any (λ k. r == k) (x ∷ xs)) e) (λ e. or_right (r == a) (list_any (λ k. r == k) (x ∷ xs)) (or_right (r == x) (list_any (λ k. r == k) xs) e)) (or_cases (r == a) (list_any (λ k. r == k) xs) h)

pub best_in : (key : ℕ → ℤ) (a : ℕ) (xs : List ℕ) → list_any (λ k. best_of (beats key) a xs == k) (a ∷ xs) ≡ true
best_in key a [] = or_left (a == a) false (eq-eqb a a refl)
best_in key a (x ∷ xs) = in_step (best_of (beats key) (cond (beats key x a) x a) xs) a x xs (beats key x a) (best_in key (cond (beats key x a) x a) xs)

pub first_in : (key : ℕ → ℤ) (ks : List ℕ) → 1 ≤ length ks → list_any (λ k. first_greatest key ks == k) ks ≡ true
first_in key [] h = absurd (omega arith)
first_in key (k ∷ ks) h = best_in key k ks

-- keys that agree have the same greatest
pub best_agree : (f g : ℕ → ℤ) (a : ℕ) (xs : List ℕ) → f a ≡ g a → AllByRecursion (λ k. f k ≡ g k) xs → best_of (beats f) a xs ≡ best_of (beats g) a xs
best_agree f g a [] e h = refl
best_agree f g a (x ∷ xs) e h =
    let same : beats f x a ≡ beats g x a = ap₂ int_lt e h.0 in
    ap (λ b. best_of (beats f) (cond b x a) xs) same ∙ best_agree f g (cond (beats g x a) x a) xs (pick (beats g x a)) h.1
  where
    pick : (b : Bool) → f (cond b x a) ≡ g (cond b x a)
    pick true = h.0
    pick false = e

pub first_agree : (f g : ℕ → ℤ) (ks : List ℕ) → AllByRecursion (λ k. f k ≡ g k) ks → first_greatest f ks ≡ first_greatest g ks
first_agree f g [] h = refl
first_agree f g (k ∷ ks) h = best_agree f g k ks h.0 h.1
