-- Rows of whole numbers, and how one is combined with another.
use Rattle.std.specs.Prelude.{ℕ, zero, suc, ℤ, pos, ◌-ℤ◌, ◌*ℤ◌, if◌then◌else◌, List, [], ◌∷◌, get_or, take, drop, Option, Some, option_map, option_and_then, unsigned_abs, int_div}
use Rattle.std.specs.Ordering.{int_eq}
use Rattle.mp_num.specs.Checked.{within}
use Rattle.mp_num.specs.Divisor.{gcd_of, reduced}
use Rattle.mp_num.specs.Passing.{each2}
use Rattle.mp_num.specs.Sums.{total}

-- This is the number at column j of a row, counted from 0, and 0 past its end.
abbrev pub entry : List ℤ → ℕ → ℤ
entry row j = get_or row j (pos 0)

-- This is p times x, less a times y.
unfoldable pub combined_entry : ℤ → ℤ → ℤ → ℤ → Option ℤ
combined_entry p a x y = option_and_then (λ u. option_and_then (λ v. within (u -ℤ v)) (within (a *ℤ y))) (within (p *ℤ x))

-- This is the row combined with the pivot at column j: with the two numbers at j divided by their greatest common divisor, the pivot's times the row less the row's times the pivot, reduced. A row with 0 at j stays.
unfoldable pub combined : ℕ → List ℤ → List ℤ → Option (List ℤ)
combined j pivot row =
    if int_eq (entry row j) (pos 0) then Some row else
    (let g = gcd_of (unsigned_abs (entry pivot j)) (unsigned_abs (entry row j)) in
    option_map reduced (each2 (combined_entry (int_div (entry pivot j) (pos g)) (int_div (entry row j) (pos g))) row pivot))

-- These are so many rows of a table that is kept as one list of cells, with so many numbers in each.
abbrev pub rows_of : ℕ → ℕ → List ℤ → List (List ℤ)
rows_of zero width cells = []
rows_of (suc count) width cells = take width cells ∷ rows_of count width (drop width cells)

-- This is the sum of the first numbers of a row, each times its value.
abbrev pub applied : ℕ → List ℤ → (ℕ → ℤ) → ℤ
applied width row y = total width (λ k. entry row k *ℤ y k)
