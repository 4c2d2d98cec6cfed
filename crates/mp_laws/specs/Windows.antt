-- The law that joins windows of arrivals and bucket levels.
use Rattle.std.specs.Prelude.{◌≡◌, ℕ, List, ◌↔◌}
use Rattle.mp_model.specs.Arrivals.{KeepsTo, StaysWithin, level_after, excess}

-- The counts of a link keep to its bucket exactly where the level, begun at 0, stays within the burst, and the level is the greatest excess.
pub record LevelTells (per burst rate : ℕ) (counts : List ℕ) : Type 0 where
  pub keeps : KeepsTo per burst rate counts ↔ StaysWithin per burst rate 0 counts
  pub level : level_after per rate 0 counts ≡ excess per rate counts

-- This holds of every list of counts.
abbrev pub WindowLaw : Type 0
WindowLaw = (per burst rate : ℕ) (counts : List ℕ) → LevelTells per burst rate counts
