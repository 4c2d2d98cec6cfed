-- Writing at the numbers of lists.
use Rattle.std.specs.Prelude.{ℕ, ◌+◌, ◌-◌, List, [], ◌∷◌, slice_set, slice_index}
use Rattle.mp_model.specs.Network.{Junction, stage_at}
use Rattle.mp_press.specs.Written.{written}

-- This is a list with f k written at each number k of the stage that each junction shows.
abbrev pub written_stages : (ℕ → ℕ) → List Junction → List ℕ → List ℕ → List ℕ
written_stages f [] stages xs = xs
written_stages f (j ∷ js) [] xs = xs
written_stages f (j ∷ js) (s ∷ stages) xs = written_stages f js stages (written f (stage_at j s) xs)

-- This is a list with, at each number of another, its entry in q, less that in y, plus the part at its place.
abbrev pub settled : List ℕ → List ℕ → List ℕ → List ℕ → List ℕ → List ℕ
settled q y [] parts xs = xs
settled q y (k ∷ ks) [] xs = xs
settled q y (k ∷ ks) (part ∷ parts) xs = settled q y ks parts (slice_set xs (k - 1) (slice_index q (k - 1) - slice_index y (k - 1) + part))
