-- The greatest of a list of numbers.
use Rattle.std.specs.Prelude.{◌≡◌, ◌≤◌, ℕ, true, List, length}
use Rattle.std.specs.List.{AllByRecursion}
use Rattle.mp_model.specs.Load.{greatest as greatest_of}
use Rattle.mp_model.specs.Network.{has}

-- A number is the greatest of a list where it is in the list and none of the list is above it.
pub record IsGreatest (xs : List ℕ) (n : ℕ) : Type 0 where
  pub among : has xs n ≡ true
  pub most : AllByRecursion (λ x. x ≤ n) xs

-- A list that is not empty has its greatest.
abbrev pub GreatestOfLaw : Type 0
GreatestOfLaw = (xs : List ℕ) → 1 ≤ length xs → IsGreatest xs (greatest_of xs)
