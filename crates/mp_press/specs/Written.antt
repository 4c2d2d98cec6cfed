-- Lists that are read and written at numbers.
use Rattle.std.specs.Prelude.{◌≡◌, ◌≤◌, ℕ, ◌-◌, List, [], ◌∷◌, slice_set, Option, None, Some}
use Rattle.mp_model.specs.Network.{entry}

-- A number is one of those from 1 to n.
abbrev pub IsAmong : ℕ → ℕ → Type 0
IsAmong n k = (1 ≤ k) × (k ≤ n)

-- A list has f k at each number k from 1 to n.
abbrev pub HasEach : (ℕ → ℕ) → ℕ → List ℕ → Type 0
HasEach f n xs = (k : ℕ) → 1 ≤ k → k ≤ n → entry xs k ≡ f k

-- This is the entry of a list at a number, and 0 at none.
abbrev pub entry_at : List ℕ → Option ℕ → ℕ
entry_at xs None = 0
entry_at xs (Some k) = entry xs k

-- This is a list with f k written at each number k of another.
abbrev pub written : (ℕ → ℕ) → List ℕ → List ℕ → List ℕ
written f [] xs = xs
written f (k ∷ ks) xs = written f ks (slice_set xs (k - 1) (f k))
