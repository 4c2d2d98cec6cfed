-- What the code's elimination in place comes to.
use Rattle.std.specs.Prelude.{◌≡◌, ◌<◌, ℕ, ℤ, List}
use Rattle.mp_flow.specs.declared.elimination.Ending.{Ending}
use Rattle.mp_flow.specs.declared.elimination.Column.{Column}
use Rattle.mp_flow.specs.declared.elimination.Column.TheVariants.{Halted, Overflowed, Cleared}
use Rattle.mp_flow.specs.Elimination.{Turn, Stuck, Passed, Turned, Elimination, StuckAt, PassedAt, Through, HasPivots}

-- A column in place comes to what the calculation says, and leaves its rows.
abbrev pub TurnsTo : Column → Turn → List (List ℤ) → Type 0
TurnsTo Halted calculation now = calculation ≡ Stuck
TurnsTo Overflowed calculation now = calculation ≡ Passed
TurnsTo Cleared calculation now = calculation ≡ Turned now

-- An elimination in place comes to what the calculation says, and leaves its rows.
abbrev pub EndsAs : Ending → Elimination → List (List ℤ) → Type 0
EndsAs (Ending.Stuck column) calculation now = calculation ≡ StuckAt column now
EndsAs (Ending.Passed column) calculation now = calculation ≡ PassedAt column
EndsAs Ending.Through calculation now = calculation ≡ Through now

-- The columns that were cleared before the ending have positive pivots.
abbrev pub ClearsTo : Ending → ℕ → ℕ → List ℤ → Type 0
ClearsTo (Ending.Stuck column) rows width cells = (column < rows) × HasPivots column width cells
ClearsTo (Ending.Passed column) rows width cells = column < rows
ClearsTo Ending.Through rows width cells = HasPivots rows width cells
