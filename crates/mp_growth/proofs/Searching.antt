-- Loops that look for the first number of a list that passes a test.
use Rattle.std.proofs.Common.{◌≡◌, ◌≤◌, ◌<◌, ℕ, ◌+◌, Bool, true, false, cond, List, length, get_or, Some, None, refl, ◌∙◌, ap, find}
use Rattle.std.specs.Prelude.{drop}
use Rattle.std.proofs.lemmas.List.{drop_more, drop_all}

-- what is left finds what the whole finds
pub record Searched (test : ℕ → Bool) (xs : List ℕ) (i : ℕ) : Type 0 where
  pub rest : find test xs ≡ find test (drop i xs)

pub searched_start : (test : ℕ → Bool) (xs : List ℕ) → Searched test xs 0
searched_start test xs = record { rest = refl }

searched_at : (test : ℕ → Bool) (xs : List ℕ) (i : ℕ) (b : Bool) → Searched test xs i → i < length xs → test (get_or xs i 0) ≡ b → find test xs ≡ cond b (Some (get_or xs i 0)) (find test (drop (i + 1) xs))
searched_at test xs i b searched low is = searched.rest ∙ ap (find test) (drop_more xs i 0 low) ∙ ap (λ b. cond b (Some (get_or xs i 0)) (find test (drop (i + 1) xs))) is

pub searched_more : (test : ℕ → Bool) (xs : List ℕ) (i : ℕ) → Searched test xs i → i < length xs → test (get_or xs i 0) ≡ false → Searched test xs (i + 1)
searched_more test xs i searched low is = record { rest = searched_at test xs i false searched low is }

pub searched_found : (test : ℕ → Bool) (xs : List ℕ) (i : ℕ) → Searched test xs i → i < length xs → test (get_or xs i 0) ≡ true → find test xs ≡ Some (get_or xs i 0)
searched_found test xs i searched low is = searched_at test xs i true searched low is

pub searched_end : (test : ℕ → Bool) (xs : List ℕ) (i : ℕ) → Searched test xs i → length xs ≤ i → find test xs ≡ None
searched_end test xs i searched past = searched.rest ∙ ap (find test) (drop_all i xs past)
