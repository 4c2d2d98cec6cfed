-- What a tableau keeps, and what its end means.
use Rattle.std.proofs.Common.{◌≡◌, ◌≢◌, ℕ, ◌+◌, ◌*◌, ◌<◌, ◌≤◌, ℤ, pos, ◌-ℤ◌, ◌*ℤ◌, ◌≤ℤ◌, ◌<ℤ◌, List, length}
use Rattle.mp_num.specs.Row.{entry, applied}
use Rattle.mp_simplex.specs.Pivoting.{Ended, BestAt, EndlessAt, PassedAt, Limited}
use Rattle.mp_simplex.specs.Tableau.{row_of, basic_of}

-- A tableau's rows have a positive entry each at their basic place, where every other row has 0; row 0 has place 0.
-- The right sides below row 0 are not negative, and the rows have the solutions of the initial ones.
pub record IsTableau (height right : ℕ) (initial rows : List (List ℤ)) (basis : List ℕ) : Type 0 where
  pub rows_length : length rows ≡ height
  pub widths : (r : ℕ) → r < height → length (row_of rows r) ≡ right + 1
  pub basis_length : length basis ≡ height
  pub first : basic_of basis 0 ≡ 0
  pub inside : (r : ℕ) → 1 ≤ r → r < height → (1 ≤ basic_of basis r) × (basic_of basis r < right)
  pub positive : (r : ℕ) → r < height → pos 1 ≤ℤ entry (row_of rows r) (basic_of basis r)
  pub clear : (r s : ℕ) → r < height → s < height → r ≢ s → entry (row_of rows s) (basic_of basis r) ≡ pos 0
  pub right_sides : (r : ℕ) → 1 ≤ r → r < height → pos 0 ≤ℤ entry (row_of rows r) right
  pub forth : (y : ℕ → ℤ) → ((r : ℕ) → r < height → applied (right + 1) (row_of initial r) y ≡ pos 0) → (r : ℕ) → r < height → applied (right + 1) (row_of rows r) y ≡ pos 0
  pub back : (y : ℕ → ℤ) → ((r : ℕ) → r < height → applied (right + 1) (row_of rows r) y ≡ pos 0) → (r : ℕ) → r < height → applied (right + 1) (row_of initial r) y ≡ pos 0

-- The least row has the least ratio of right side to entry, so that no right side falls below 0 where variable j enters.
pub record IsLeast (height right j : ℕ) (rows : List (List ℤ)) (i : ℕ) : Type 0 where
  pub above : 1 ≤ i
  pub inside : i < height
  pub positive : pos 1 ≤ℤ entry (row_of rows i) j
  pub least : (r : ℕ) → 1 ≤ r → r < height → pos 1 ≤ℤ entry (row_of rows r) j →
      (entry (row_of rows i) right *ℤ entry (row_of rows r) j) ≤ℤ (entry (row_of rows r) right *ℤ entry (row_of rows i) j)

-- A tableau is best where no variable has a negative entry in row 0.
pub record IsBest (right : ℕ) (rows : List (List ℤ)) : Type 0 where
  pub at : (k : ℕ) → 1 ≤ k → k < right → pos 0 ≤ℤ entry (row_of rows 0) k

-- A tableau is endless in variable j where the objective gains by it and no row keeps it from growing.
pub record IsEndless (height right j : ℕ) (rows : List (List ℤ)) : Type 0 where
  pub above : 1 ≤ j
  pub inside : j < right
  pub gains : entry (row_of rows 0) j <ℤ pos 0
  pub free : (r : ℕ) → 1 ≤ r → r < height → entry (row_of rows r) j ≤ℤ pos 0

-- An end of the turns means that its tableau is best or endless; the other ends say nothing.
abbrev pub IsEnded : ℕ → ℕ → List (List ℤ) → Ended → Type 0
IsEnded height right initial (BestAt done rows basis) = IsTableau height right initial rows basis × IsBest right rows
IsEnded height right initial (EndlessAt done j rows basis) = IsTableau height right initial rows basis × IsEndless height right j rows
IsEnded height right initial (PassedAt done) = Unit {0}
IsEnded height right initial Limited = Unit {0}

-- The first tableau has the negated objective in row 0 with the factor 1, and below it each row of the program with its own slack and its right side.
pub record IsInitial (m n : ℕ) (a b c : List ℤ) (rows : List (List ℤ)) : Type 0 where
  pub rows_length : length rows ≡ 1 + m
  pub widths : (r : ℕ) → r < 1 + m → length (row_of rows r) ≡ (1 + n + m) + 1
  pub factor : entry (row_of rows 0) 0 ≡ pos 1
  pub costs : (k : ℕ) → k < n → entry (row_of rows 0) (1 + k) ≡ pos 0 -ℤ entry c k
  pub rest : (k : ℕ) → 1 + n ≤ k → entry (row_of rows 0) k ≡ pos 0
  pub zero : (i : ℕ) → i < m → entry (row_of rows (1 + i)) 0 ≡ pos 0
  pub coefficients : (i k : ℕ) → i < m → k < n → entry (row_of rows (1 + i)) (1 + k) ≡ entry a (i * n + k)
  pub own : (i : ℕ) → i < m → entry (row_of rows (1 + i)) (1 + n + i) ≡ pos 1
  pub others : (i l : ℕ) → i < m → l < m → l ≢ i → entry (row_of rows (1 + i)) (1 + n + l) ≡ pos 0
  pub right_side : (i : ℕ) → i < m → entry (row_of rows (1 + i)) (1 + n + m) ≡ entry b i
