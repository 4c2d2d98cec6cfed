-- The answers of a system after its elimination, as a stated calculation, and what they mean.
use Rattle.std.specs.Prelude.{◌≡◌, ◌≢◌, ◌<◌, ℕ, ◌+◌, ◌*◌, ◌/◌, ◌%◌, ℤ, pos, ◌-ℤ◌, ◌*ℤ◌, List, [], length, get_or, map, All, nat_lt, nat_eq, if◌then◌else◌, option_and_then, Option, Some, None, int_div}
use Rattle.mp_num.specs.Checked.{within}
use Rattle.mp_num.specs.Divisor.{reduced}
use Rattle.mp_num.specs.Multiple.{lcm_of}
use Rattle.mp_num.specs.Passing.{each, stepped, counting}
use Rattle.mp_num.specs.Row.{entry}
use Rattle.mp_num.specs.Sums.{total}
use Rattle.mp_flow.specs.Elimination.{Elimination, StuckAt, PassedAt, Through, eliminated}

-- This is the number of row j at its own column.
abbrev pub pivot_of : List (List ℤ) → ℕ → ℤ
pivot_of rows j = entry (get_or rows j []) j

-- This is the denominator of the first columns: 1, and then the least common multiple of what is there and the pivot, column by column.
unfoldable pub denominator : ℕ → List (List ℤ) → Option ℤ
denominator count rows = stepped (λ d j. lcm_of d (pivot_of rows j)) (pos 1) (counting count 0)

-- This is the value at column t mod n for right side t div n: the right side of the row of that column, times the part of the denominator that its pivot leaves.
unfoldable pub answer_at : ℕ → ℤ → List (List ℤ) → ℕ → Option ℤ
answer_at n d rows t = within (entry (get_or rows (t % n) []) (n + t / n) *ℤ int_div d (pivot_of rows (t % n)))

-- These are the values of all columns, right side by right side.
unfoldable pub answers : ℕ → ℕ → ℤ → List (List ℤ) → Option (List ℤ)
answers n rights d rows = each (answer_at n d rows) (counting (rights * n) 0)

-- This is the kernel's value at column i where column j has no row: the denominator at j, 0 later, and earlier the negated product of the row's number at j and the part of the denominator that its pivot leaves.
unfoldable pub kernel_at : ℕ → ℤ → List (List ℤ) → ℕ → Option ℤ
kernel_at j d rows i =
    if nat_lt i j then option_and_then (λ v. within (pos 0 -ℤ v)) (within (entry (get_or rows i []) j *ℤ int_div d (pivot_of rows i)))
    else (if nat_eq i j then Some d else Some (pos 0))

-- These are the values of the kernel at all columns, where column j has no row.
unfoldable pub kernel : ℕ → ℕ → ℤ → List (List ℤ) → Option (List ℤ)
kernel n j d rows = each (kernel_at j d rows) (counting n 0)

-- The outcome of a system is an answer over its denominator, a kernel, or the column at which 128 bits are exceeded: 0 for reducing the rows, where nothing exceeds them, the number of a column from 1, and one more than the last for the answers.
pub data Outcome : Type 0 where
  Answer : List ℤ → ℤ → Outcome
  Kernel : List ℤ → Outcome
  Passes : ℕ → Outcome

-- This is the outcome of the values over a denominator.
abbrev pub answered : ℕ → ℤ → Option (List ℤ) → Outcome
answered column d None = Passes column
answered column d (Some x) = Answer x d

-- This is the outcome where each column has its row.
abbrev pub finished : ℕ → ℕ → List (List ℤ) → Option ℤ → Outcome
finished n rights rows None = Passes (n + 1)
finished n rights rows (Some d) = answered (n + 1) d (answers n rights d rows)

-- This is the outcome of the values of a kernel.
abbrev pub kernel_found : ℕ → Option (List ℤ) → Outcome
kernel_found column None = Passes column
kernel_found column (Some x) = Kernel x

-- This is the outcome where column j has no row.
abbrev pub stuck : ℕ → ℕ → List (List ℤ) → Option ℤ → Outcome
stuck n j rows None = Passes (j + 1)
stuck n j rows (Some d) = kernel_found (j + 1) (kernel n j d rows)

-- This is the outcome of what the elimination came to.
abbrev pub ended : ℕ → ℕ → Elimination → Outcome
ended n rights (StuckAt j rows) = stuck n j rows (denominator j rows)
ended n rights (PassedAt j) = Passes (j + 1)
ended n rights (Through rows) = finished n rights rows (denominator n rows)

-- This is the outcome of a system: its rows are reduced, its columns are cleared, and its answers are read.
unfoldable pub solved : ℕ → ℕ → List (List ℤ) → Outcome
solved n rights rows = ended n rights (eliminated n 0 (map reduced rows))

-- The values x over d answer right side s of a row where the row times x is d times the right side.
abbrev pub RowAnswered : ℕ → ℕ → List ℤ → List ℤ → ℤ → Type 0
RowAnswered n s row x d = total n (λ j. entry row j *ℤ entry x (s * n + j)) ≡ d *ℤ entry row (n + s)

-- The values x over d answer a system where they answer each row for each right side.
abbrev pub Answers : ℕ → ℕ → List (List ℤ) → List ℤ → ℤ → Type 0
Answers n rights rows x d = (s : ℕ) → s < rights → All (λ row. RowAnswered n s row x d) rows

-- A kernel of a system is a list of values, not all 0, whose sum with each row is 0.
pub record IsKernel (n : ℕ) (rows : List (List ℤ)) (x : List ℤ) : Type 0 where
  pub same_length : length x ≡ n
  pub some : (j : ℕ) × (j < n) × (entry x j ≢ pos 0)
  pub solves : All (λ row. total n (λ j. entry row j *ℤ entry x j) ≡ pos 0) rows
