-- The links that are reached from a link, by marks.
use Rattle.std.specs.Prelude.{◌==◌, ◌&&◌, ◌||◌, ◌-◌, not, ℕ, Bool, false, List, Option, Some, None, slice_index_or}
use Rattle.mp_model.specs.Network.{Network, from_of, to_of}

-- Link m has a mark.
abbrev pub is_marked : List Bool → ℕ → Bool
is_marked marks m = slice_index_or marks (m - 1) false

-- A target is a link that has no mark.
abbrev pub is_unmarked : List Bool → Option ℕ → Bool
is_unmarked marks None = false
is_unmarked marks (Some m) = not (is_marked marks m)

-- Movement k leads from link l, or from one with a mark, to a link that has none.
abbrev pub is_open : Network → ℕ → List Bool → ℕ → Bool
is_open net l marks k = (from_of net k == l || is_marked marks (from_of net k)) && is_unmarked marks (to_of net k)
