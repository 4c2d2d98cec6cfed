-- The header of what is written under a guard.
use Rattle.std.specs.Prelude.{ℕ, List, ◌++◌, codes, decimal, map}
use Rattle.mp_model.specs.Guard.{Guard}
use Rattle.mp_model.specs.Log.{bound_line}
use Rattle.mp_model.specs.Network.{Network, movement_numbers, movement_at, entry}
use Rattle.mp_guard.specs.GuardText.{guard_lines}

-- A line of movement k begins with a word and gives its number, its name, and its number from a list.
abbrev pub number_line : List ℕ → Network → List ℕ → ℕ → List ℕ
number_line word net numbers k = word ++ decimal k ++ codes " " ++ (movement_at net k).name ++ codes " " ++ decimal (entry numbers k)

-- The wait line of movement k gives its number, its name and its wait.
abbrev pub wait_line : Network → List ℕ → ℕ → List ℕ
wait_line net waits k = number_line (codes "wait ") net waits k

-- The header is the lines of the guard, a bound line per movement, and a wait line per movement.
abbrev pub guard_header : Network → Guard → List ℕ → List ℕ → List (List ℕ)
guard_header net guard bounds waits = guard_lines guard ++ map (bound_line net bounds) (movement_numbers net) ++ map (wait_line net waits) (movement_numbers net)
