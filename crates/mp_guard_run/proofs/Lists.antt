-- Tests of all of a list, and the first number that passes one.
use Rattle.std.proofs.Common.{◌≡◌, ◌==◌, ◌≢◌, ℕ, ◌+◌, ◌<◌, ◌≤◌, Bool, true, false, cond, ◌&&◌, ◌||◌, List, length, drop, get_or, find, Some, None, arith, refl, sym, ◌∙◌, ap, eq-eqb, ne_eqb}
use Rattle.std.specs.List.{list_all}
use Rattle.std.proofs.lemmas.List.{drop_more, drop_all}
use Rattle.std.proofs.lemmas.List.FromFn.{length-range_with_len, get_or-range_with_len}
use Rattle.mp_model.specs.Network.{numbers_to}

or_true : (b : Bool) → (b || true) ≡ true
or_true true = refl
or_true false = refl

or_false : (b : Bool) → (b || false) ≡ b
or_false true = refl
or_false false = refl

pub quiet_none : (b : Bool) (n : ℕ) → n ≡ 0 → true ≡ (b || n == 0)
quiet_none b n e = sym (ap (λ c. b || c) (eq-eqb n 0 e) ∙ or_true b)

pub quiet_some : (b : Bool) (n : ℕ) → n ≢ 0 → b ≡ (b || n == 0)
quiet_some b n e = sym (ap (λ c. b || c) (ne_eqb n 0 e) ∙ or_false b)

pub ruleset quiet = (quiet_none, quiet_some)

-- ---- a test of all
pub record Alls (p : ℕ → Bool) (xs : List ℕ) (i : ℕ) : Type 0 where
  pub rest : list_all p xs ≡ list_all p (drop i xs)

pub alls_start : (p : ℕ → Bool) (xs : List ℕ) → Alls p xs 0
alls_start p xs = record { rest = refl }

alls_at : (p : ℕ → Bool) (xs : List ℕ) (i : ℕ) → Alls p xs i → i < length xs → list_all p xs ≡ (p (get_or xs i 0) && list_all p (drop (i + 1) xs))
alls_at p xs i a within = a.rest ∙ ap (list_all p) (drop_more xs i 0 within)

pub alls_more : (p : ℕ → Bool) (xs : List ℕ) (i : ℕ) → Alls p xs i → i < length xs → p (get_or xs i 0) ≡ true → Alls p xs (i + 1)
alls_more p xs i a within here = record { rest = alls_at p xs i a within ∙ ap (λ b. b && list_all p (drop (i + 1) xs)) here }

pub alls_fails : (p : ℕ → Bool) (xs : List ℕ) (i : ℕ) → Alls p xs i → i < length xs → p (get_or xs i 0) ≡ false → false ≡ list_all p xs
alls_fails p xs i a within here = sym (alls_at p xs i a within ∙ ap (λ b. b && list_all p (drop (i + 1) xs)) here)

pub alls_end : (p : ℕ → Bool) (xs : List ℕ) (i : ℕ) → Alls p xs i → length xs ≤ i → true ≡ list_all p xs
alls_end p xs i a past = sym (a.rest ∙ ap (list_all p) (drop_all i xs past))

pub ruleset alls = (alls_start, alls_more, alls_fails, alls_end)

-- ---- the first number that passes
pub record Finding (p : ℕ → Bool) (n i : ℕ) : Type 0 where
  pub rest : find p (numbers_to n) ≡ find p (drop i (numbers_to n))

pub finding_start : (p : ℕ → Bool) (n : ℕ) → Finding p n 0
finding_start p n = record { rest = refl }

finding_at : (p : ℕ → Bool) (n i : ℕ) → Finding p n i → i < n → find p (numbers_to n) ≡ cond (p (i + 1)) (Some (i + 1)) (find p (drop (i + 1) (numbers_to n)))
finding_at p n i f within =
    let place : get_or (numbers_to n) i 0 ≡ i + 1 = get_or-range_with_len 1 n i 0 within ∙ omega arith in
    f.rest ∙ ap (find p) (drop_more (numbers_to n) i 0 (omega (arith, length-range_with_len 1 n))) ∙ ap (λ k. cond (p k) (Some k) (find p (drop (i + 1) (numbers_to n)))) place

pub finding_more : (p : ℕ → Bool) (n i : ℕ) → Finding p n i → i < n → p (i + 1) ≡ false → Finding p n (i + 1)
finding_more p n i f within here = record { rest = finding_at p n i f within ∙ ap (λ b. cond b (Some (i + 1)) (find p (drop (i + 1) (numbers_to n)))) here }

pub finding_hit : (p : ℕ → Bool) (n i : ℕ) → Finding p n i → i < n → p (i + 1) ≡ true → Some (i + 1) ≡ find p (numbers_to n)
finding_hit p n i f within here = sym (finding_at p n i f within ∙ ap (λ b. cond b (Some (i + 1)) (find p (drop (i + 1) (numbers_to n)))) here)

pub finding_end : (p : ℕ → Bool) (n i : ℕ) → Finding p n i → n ≤ i → None ≡ find p (numbers_to n)
finding_end p n i f past = sym (f.rest ∙ ap (find p) (drop_all i (numbers_to n) (omega (arith, length-range_with_len 1 n))))

pub ruleset findings = (finding_start, finding_more, finding_hit, finding_end)
