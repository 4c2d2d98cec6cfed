-- Buckets of arrivals.
use Rattle.std.specs.Prelude.{◌≤◌, ℕ, ◌*◌}
use Rattle.mp_model.specs.Arrivals.{next_level}

-- A bucket has a rate length in periods, a burst in vehicles, a rate in vehicles per rate length, and a level.
pub record Fill : Type 0 where
  pub per : ℕ
  pub burst : ℕ
  pub rate : ℕ
  pub level : ℕ

-- These numbers can be the rate length of a network, and the burst and the rate of a link.
pub record AreLimits (per burst rate : ℕ) : Type 0 where
  pub per_some : 1 ≤ per
  pub per_most : per ≤ 3600
  pub burst_most : burst ≤ 10000
  pub rate_most : rate ≤ 1000 * per

-- This is the level after a period with so many arrivals.
abbrev pub level_with : Fill → ℕ → ℕ
level_with fill count = next_level fill.per fill.rate fill.level count

-- A bucket takes so many arrivals where the level after them is at most the rate length times the burst.
abbrev pub Takes : Fill → ℕ → Type 0
Takes fill count = level_with fill count ≤ fill.per * fill.burst
