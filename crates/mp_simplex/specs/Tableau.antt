-- A tableau's parts.
use Rattle.std.specs.Prelude.{ℕ, ℤ, List, [], get_or}

-- A row of a tableau is found by its number; row 0 is that of the objective.
abbrev pub row_of : List (List ℤ) → ℕ → List ℤ
row_of rows r = get_or rows r []

-- The basic variable of a row is given by its place.
abbrev pub basic_of : List ℕ → ℕ → ℕ
basic_of basis r = get_or basis r 0
