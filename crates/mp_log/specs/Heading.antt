-- The header line by line.
use Rattle.std.specs.Prelude.{◌-◌, ℕ, List, [], slice_index_or}
use Rattle.mp_model.specs.Network.{Network}
use Rattle.mp_model.specs.Log.{header_lines}

-- This is header line number i, from 1, for the slack E/D and the bounds.
abbrev pub header_line : Network → ℕ → ℕ → List ℕ → ℕ → List ℕ
header_line net E D bounds i = slice_index_or (header_lines net E D bounds) (i - 1) []
