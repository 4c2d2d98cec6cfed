-- Counts of faults over calls in a row.
use Rattle.std.proofs.Common.{◌≤◌, ℕ, arith}
use Rattle.mp_edge.specs.Outside.{Rose}

-- a rise in a part of a run is a rise over the whole run
pub Rose-within : (before start end now : ℕ) → before ≤ start → Rose start end → end ≤ now → Rose before now
Rose-within before start end now early rose late = omega (arith, early, rose, late)
