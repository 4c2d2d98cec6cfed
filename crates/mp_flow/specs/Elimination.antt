-- Elimination without fractions as a stated calculation: one definition a step, each giving its rows or exceeding 128 bits.
use Rattle.std.specs.Prelude.{◌≡◌, ◌<◌, ◌*◌, ◌≤ℤ◌, ℕ, zero, suc, ◌+◌, ℤ, pos, ◌-ℤ◌, Bool, not, if◌then◌else◌, List, ◌∷◌, ◌++◌, [], get_or, take, drop, remove, position, All, Option, Some, None, option_map, option_and_then, int_lt}
use Rattle.std.specs.Ordering.{int_eq}
use Rattle.mp_num.specs.Checked.{within}
use Rattle.mp_num.specs.Passing.{each}
use Rattle.mp_num.specs.Row.{applied, combined, entry}

-- This is the row with each entry negated: 0 less the entry.
unfoldable pub negated : List ℤ → Option (List ℤ)
negated row = each (λ x. within (pos 0 -ℤ x)) row

-- This is the row, negated where its entry at column j is negative.
unfoldable pub upright : ℕ → List ℤ → Option (List ℤ)
upright j row = if int_lt (entry row j) (pos 0) then negated row else Some row

-- A row serves column j where its entry there is not 0.
abbrev pub serves : ℕ → List ℤ → Bool
serves j row = not (int_eq (entry row j) (pos 0))

-- These are the rows with every other row combined with the pivot of column j, which stands after the used rows and before the free ones.
unfoldable pub cleared : ℕ → List (List ℤ) → List ℤ → List (List ℤ) → Option (List (List ℤ))
cleared j used pivot free =
    option_and_then (λ above. option_map (λ below. above ++ pivot ∷ below) (each (combined j pivot) free)) (each (combined j pivot) used)

-- These are the rows after column j was cleared with the chosen row.
unfoldable pub turned : ℕ → List (List ℤ) → List ℤ → List (List ℤ) → Option (List (List ℤ))
turned j used chosen free = option_and_then (λ pivot. cleared j used pivot free) (upright j chosen)

-- A column is stuck where no free row serves it; it exceeds 128 bits, or turns into the next rows.
pub data Turn : Type 0 where
  Stuck : Turn
  Passed : Turn
  Turned : List (List ℤ) → Turn

-- This is what a column comes to once a row was chosen.
abbrev pub turn_of : Option (List (List ℤ)) → Turn
turn_of None = Passed
turn_of (Some rows) = Turned rows

-- This is what column j comes to with the place of the chosen row among the free ones, if there is one.
abbrev pub chosen_turn : ℕ → List (List ℤ) → List (List ℤ) → Option ℕ → Turn
chosen_turn j used free None = Stuck
chosen_turn j used free (Some k) = turn_of (turned j used (get_or free k []) (remove free k))

-- This is what column j comes to: the first j rows are used, and of the free ones the first that serves is chosen.
unfoldable pub turn : ℕ → List (List ℤ) → Turn
turn j rows = chosen_turn j (take j rows) (drop j rows) (position (serves j) (drop j rows))

-- An elimination is stuck at a column with the rows of then, exceeds 128 bits at a column, or goes through to its last rows.
pub data Elimination : Type 0 where
  StuckAt : ℕ → List (List ℤ) → Elimination
  PassedAt : ℕ → Elimination
  Through : List (List ℤ) → Elimination

-- This is what an elimination comes to after what column j came to.
abbrev pub after : Turn → ℕ → List (List ℤ) → (List (List ℤ) → Elimination) → Elimination
after Stuck j rows go = StuckAt j rows
after Passed j rows go = PassedAt j
after (Turned next) j rows go = go next

-- This is what so many columns from column j on come to.
unfoldable pub eliminated : ℕ → ℕ → List (List ℤ) → Elimination
eliminated zero j rows = Through rows
eliminated (suc columns) j rows = after (turn j rows) j rows (eliminated columns (j + 1))

-- The first row that serves column j stands alone, and the others keep their order.
pub record IsChosen (j : ℕ) (rows : List (List ℤ)) (first : List ℤ) (rest : List (List ℤ)) : Type 0 where
  pub place : ℕ
  pub found : position (serves j) rows ≡ Some place
  pub is_first : first ≡ get_or rows place []
  pub is_rest : rest ≡ remove rows place

-- The first rows have positive numbers at their own columns.
abbrev pub HasPivots : ℕ → ℕ → List ℤ → Type 0
HasPivots count width cells = (j : ℕ) → j < count → pos 1 ≤ℤ entry cells (j * width + j)

-- Values solve rows of numbers where each row times the values is 0.
unfoldable pub Solves : ℕ → (ℕ → ℤ) → List (List ℤ) → Type 0
Solves width y rows = All (λ row. applied width row y ≡ pos 0) rows
