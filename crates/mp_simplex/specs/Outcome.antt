-- The stated calculation of a linear program, from its numbers to its outcome. There are m rows and n columns.
use Rattle.std.specs.Prelude.{ℕ, zero, suc, ◌+◌, ◌*◌, ◌-◌, ℤ, pos, ◌-ℤ◌, ◌*ℤ◌, nat_eq, nat_lt, if◌then◌else◌, List, [], ◌∷◌, ◌++◌, length, take, drop, position, Option, Some, None, option_and_then, int_div}
use Rattle.mp_num.specs.Checked.{within}
use Rattle.mp_num.specs.Divisor.{reduced}
use Rattle.mp_num.specs.Fraction.{lowest_terms}
use Rattle.mp_num.specs.Passing.{each, stepped, counting}
use Rattle.mp_num.specs.Multiple.{lcm_of}
use Rattle.mp_num.specs.Row.{entry}
use Rattle.mp_simplex.specs.declared.Lp.{Lp}
use Rattle.mp_simplex.specs.declared.Optimum.{Optimum}
use Rattle.mp_simplex.specs.Pivoting.{Ended, BestAt, EndlessAt, PassedAt, Limited, turns}
use Rattle.mp_simplex.specs.Tableau.{row_of, basic_of}

-- ---- the first tableau
-- Row 0 has the factor 1, the negated objective, and 0 at the slacks and on the right.
unfoldable pub cost_cell : ℕ → List ℤ → ℕ → Option ℤ
cost_cell n c k = if nat_eq k 0 then Some (pos 1) else (if nat_lt k (1 + n) then within (pos 0 -ℤ entry c (k - 1)) else Some (pos 0))

-- Row i of the program has 0, its coefficients, 1 at its own slack, and its right side.
unfoldable pub slack_cell : ℕ → ℕ → List ℤ → List ℤ → ℕ → ℕ → ℤ
slack_cell m n a b i k =
    if nat_eq k 0 then pos 0
    else (if nat_lt k (1 + n) then entry a (i * n + (k - 1))
    else (if nat_lt k (1 + n + m) then (if nat_eq k (1 + n + i) then pos 1 else pos 0)
    else entry b i))

-- A cell of the first tableau is one of row 0, or of a row of the program.
abbrev pub cell : ℕ → ℕ → List ℤ → List ℤ → List ℤ → ℕ → ℕ → Option ℤ
cell m n a b c zero k = cost_cell n c k
cell m n a b c (suc i) k = Some (slack_cell m n a b i k)

-- A first row has a cell for each place.
unfoldable pub first_row : ℕ → ℕ → List ℤ → List ℤ → List ℤ → ℕ → Option (List ℤ)
first_row m n a b c r = each (cell m n a b c r) (counting ((1 + n + m) + 1) 0)

-- The first rows are row 0 and those of the program.
unfoldable pub first_rows : ℕ → ℕ → List ℤ → List ℤ → List ℤ → Option (List (List ℤ))
first_rows m n a b c = each (first_row m n a b c) (counting (1 + m) 0)

-- The first basis has place 0 for row 0, and each other row's own slack.
abbrev pub first_basis : ℕ → ℕ → List ℕ
first_basis m n = 0 ∷ counting m (1 + n)

-- ---- what is read off
-- The denominator takes in a row whose basic variable is a column.
abbrev pub scaled : ℕ → List (List ℤ) → List ℕ → ℤ → ℕ → Option ℤ
scaled n rows basis q r = if nat_lt n (basic_of basis r) then Some q else lcm_of q (entry (row_of rows r) (basic_of basis r))

-- The denominator is the least common multiple of the columns' entries in their rows.
unfoldable pub denominator : ℕ → ℕ → List (List ℤ) → List ℕ → Option ℤ
denominator n m rows basis = stepped (scaled n rows basis) (pos 1) (counting m 1)

-- The basic row of a variable is the row in which it is basic.
abbrev pub basic_row : ℕ → List ℕ → Option ℕ
basic_row k basis = position (λ b. nat_eq b k) basis

-- A part is a number times q over an entry.
abbrev pub part_of : ℤ → ℤ → ℤ → Option ℤ
part_of q x e = within (x *ℤ int_div q e)

-- A column's value is its row's right side times q over its entry there; it is 0 where the column is not basic.
abbrev pub value_in : ℕ → ℤ → List (List ℤ) → ℕ → Option ℕ → Option ℤ
value_in right q rows k None = Some (pos 0)
value_in right q rows k (Some r) = part_of q (entry (row_of rows r) right) (entry (row_of rows r) k)

-- The primal is read off at a column's basic row.
unfoldable pub primal_at : ℕ → ℤ → List (List ℤ) → List ℕ → ℕ → Option ℤ
primal_at right q rows basis k = value_in right q rows k (basic_row k basis)

-- The primal has a value for each column.
unfoldable pub primal : ℕ → ℕ → ℤ → List (List ℤ) → List ℕ → Option (List ℤ)
primal n right q rows basis = each (primal_at right q rows basis) (counting n 1)

-- A column's change, where variable j grows by q, is the negation of its row's entry at j times q over its entry there; of the columns that are not basic only j changes.
abbrev pub change_in : ℕ → ℤ → List (List ℤ) → ℕ → Option ℕ → Option ℤ
change_in j q rows k None = if nat_eq k j then Some q else Some (pos 0)
change_in j q rows k (Some r) = option_and_then (λ v. within (pos 0 -ℤ v)) (part_of q (entry (row_of rows r) j) (entry (row_of rows r) k))

-- The ray is read off at a column's basic row.
unfoldable pub ray_at : ℕ → ℤ → List (List ℤ) → List ℕ → ℕ → Option ℤ
ray_at j q rows basis k = change_in j q rows k (basic_row k basis)

-- The ray has a change for each column.
unfoldable pub ray : ℕ → ℕ → ℤ → List (List ℤ) → List ℕ → Option (List ℤ)
ray n j q rows basis = each (ray_at j q rows basis) (counting n 1)

-- The dual has row 0's entries at the slacks; the factor is its denominator.
abbrev pub dual : ℕ → ℕ → List (List ℤ) → List ℤ
dual m n rows = take m (drop (1 + n) (row_of rows 0))

-- A list over a denominator, both reduced together, has these numbers.
unfoldable pub numbers_over : List ℤ → ℤ → List ℤ
numbers_over x q = take (length x) (reduced (x ++ q ∷ []))

-- A list over a denominator, both reduced together, has this denominator.
unfoldable pub denominator_over : List ℤ → ℤ → ℤ
denominator_over x q = entry (reduced (x ++ q ∷ [])) (length x)

-- ---- the outcome
-- An outcome is an optimum, a ray, an overflow after so many pivots, or the limit of pivots.
pub data Outcome : Type 0 where
  Optimal : Optimum → Outcome
  Ray : List ℤ → Outcome
  Passes : ℕ → Outcome
  Limit : Outcome

-- The optimum is read off the best tableau: x over q, the dual y over the factor o, and the right side v of row 0 over o.
abbrev pub optimum_of : ℕ → List ℤ → ℤ → List ℤ → ℤ → ℤ → Optimum
optimum_of done x q y o v = record {
  primal = numbers_over x q;
  primal_den = denominator_over x q;
  dual = numbers_over y o;
  dual_den = denominator_over y o;
  value = lowest_terms v o;
  pivots = done;
}

-- The best tableau gives the optimum where nothing in its primal exceeds 128 bits.
abbrev pub optimal : ℕ → ℕ → ℕ → List (List ℤ) → ℤ → Option (List ℤ) → Outcome
optimal m n done rows q None = Passes done
optimal m n done rows q (Some x) = Optimal (optimum_of done x q (dual m n rows) (entry (row_of rows 0) 0) (entry (row_of rows 0) (1 + n + m)))

-- The best tableau is read off by its denominator.
abbrev pub best_outcome : ℕ → ℕ → ℕ → List (List ℤ) → List ℕ → Option ℤ → Outcome
best_outcome m n done rows basis None = Passes done
best_outcome m n done rows basis (Some q) = optimal m n done rows q (primal n (1 + n + m) q rows basis)

-- The endless tableau gives its ray where nothing in it exceeds 128 bits.
abbrev pub unbounded : ℕ → Option (List ℤ) → Outcome
unbounded done None = Passes done
unbounded done (Some x) = Ray x

-- The endless tableau is read off by its denominator.
abbrev pub endless_outcome : ℕ → ℕ → ℕ → List (List ℤ) → List ℕ → Option ℤ → Outcome
endless_outcome n done j rows basis None = Passes done
endless_outcome n done j rows basis (Some q) = unbounded done (ray n j q rows basis)

-- Each end of the turns has its outcome.
abbrev pub ended : ℕ → ℕ → Ended → Outcome
ended m n (BestAt done rows basis) = best_outcome m n done rows basis (denominator n m rows basis)
ended m n (EndlessAt done j rows basis) = endless_outcome n done j rows basis (denominator n m rows basis)
ended m n (PassedAt done) = Passes done
ended m n Limited = Limit

-- The calculation goes on from the first rows with so many pivots at most.
abbrev pub begun : ℕ → ℕ → ℕ → Option (List (List ℤ)) → Outcome
begun m n limit None = Passes 0
begun m n limit (Some rows) = ended m n (turns limit (1 + n + m) m 0 rows (first_basis m n))

-- The outcome of a program is that of its first rows.
unfoldable pub maximised : Lp → ℕ → Outcome
maximised lp limit = begun lp.rows lp.cols limit (first_rows lp.rows lp.cols lp.a lp.b lp.c)
