-- The tableau in place.
use Rattle.std.specs.Prelude.{◌≡◌, ℕ, ◌+◌, ◌<◌, ℤ, pos, ◌≤ℤ◌, List, Option, Some, None}
use Rattle.mp_num.specs.Row.{entry, rows_of}
use Rattle.mp_simplex.specs.declared.Lp.{Lp}
use Rattle.mp_simplex.specs.declared.table.Table.{Table}
use Rattle.mp_simplex.specs.declared.turns.Choice.{Choice}
use Rattle.mp_simplex.specs.declared.turns.Ending.{Ending}
use Rattle.mp_simplex.specs.Outcome.{Outcome, first_rows, first_basis, denominator, primal, ray, best_outcome, endless_outcome}
use Rattle.mp_simplex.specs.Pivoting.{Ended, BestAt, EndlessAt, PassedAt, Limited, turns}
use Rattle.mp_simplex.specs.Tableau.{row_of, basic_of}

-- A table's rows are its cells, row by row.
abbrev pub rows_in : Table → List (List ℤ)
rows_in t = rows_of (1 + t.constraints) t.width t.cells.items

-- A table's right sides stand after its slacks.
abbrev pub right_in : Table → ℕ
right_in t = 1 + t.columns + t.constraints

-- A table's denominator is that of its columns' values.
abbrev pub denominator_in : Table → Option ℤ
denominator_in t = denominator t.columns t.constraints (rows_in t) t.basis.items

-- A table's primal is that over a denominator.
abbrev pub primal_in : Table → ℤ → Option (List ℤ)
primal_in t q = primal t.columns (right_in t) q (rows_in t) t.basis.items

-- A table's ray is that of a variable that grows by q.
abbrev pub ray_in : Table → ℕ → ℤ → Option (List ℤ)
ray_in t j q = ray t.columns j q (rows_in t) t.basis.items

-- A best table's outcome is read off after so many pivots.
abbrev pub best_in : Table → ℕ → Outcome
best_in t done = best_outcome t.constraints t.columns done (rows_in t) t.basis.items (denominator_in t)

-- An endless table's outcome is read off after so many pivots.
abbrev pub endless_in : Table → ℕ → ℕ → Outcome
endless_in t done j = endless_outcome t.columns done j (rows_in t) t.basis.items (denominator_in t)

-- A table's turns go on with so many pivots at most.
abbrev pub turns_in : Table → ℕ → Ended
turns_in t limit = turns limit (right_in t) t.constraints 0 (rows_in t) t.basis.items

-- A table keeps its shape.
pub record SameShape (old new : Table) : Type 0 where
  pub constraints : new.constraints ≡ old.constraints
  pub columns : new.columns ≡ old.columns
  pub width : new.width ≡ old.width

-- A first table has the first rows of a program and its first basis; there is none where these exceed 128 bits.
abbrev pub IsFirstTable : Lp → Option Table → Type 0
IsFirstTable lp None = first_rows lp.rows lp.cols lp.a lp.b lp.c ≡ None
IsFirstTable lp (Some t) =
    (t.constraints ≡ lp.rows) × (t.columns ≡ lp.cols) × (first_rows lp.rows lp.cols lp.a lp.b lp.c ≡ Some (rows_in t)) × (t.basis.items ≡ first_basis lp.rows lp.cols)

-- A choice fits a table where it names a variable of it, and for a pivot a row with a positive entry there.
abbrev pub CanFollow : Table → Choice → Type 0
CanFollow t Choice.Best = Unit {0}
CanFollow t (Choice.Endless j) = j < t.width
CanFollow t Choice.Passing = Unit {0}
CanFollow t (Choice.Leaves i j) = (i < 1 + t.constraints) × (j < t.width) × (pos 1 ≤ℤ entry (row_of (rows_in t) i) j)

-- An ending in place is an end of the turns with the table that they leave.
abbrev pub ended_by : Ending → Table → Ended
ended_by (Ending.Best done) t = BestAt done (rows_in t) t.basis.items
ended_by (Ending.Endless done j) t = EndlessAt done j (rows_in t) t.basis.items
ended_by (Ending.Passed done) t = PassedAt done
ended_by Ending.Limited t = Limited

-- A table has a basis where each row has a positive entry at its basic place, which is place 0 for row 0.
pub record HasBasis (t : Table) : Type 0 where
  pub first : basic_of t.basis.items 0 ≡ 0
  pub inside : (r : ℕ) → r < 1 + t.constraints → basic_of t.basis.items r < t.width
  pub positive : (r : ℕ) → r < 1 + t.constraints → pos 1 ≤ℤ entry (row_of (rows_in t) r) (basic_of t.basis.items r)

-- A table can be read off at an ending where it has a basis, and the endless variable is one of its own.
abbrev pub CanRead : Table → Ending → Type 0
CanRead t (Ending.Best done) = HasBasis t
CanRead t (Ending.Endless done j) = HasBasis t × (j < t.width)
CanRead t (Ending.Passed done) = Unit {0}
CanRead t Ending.Limited = Unit {0}
