-- What a cache stands for.
use Rattle.std.specs.Prelude.{◌≡◌, ◌^◌, ℕ, List, length, cond, nat_le, sum_by}
use Rattle.mp_model.specs.Network.{Network, entry}
use Rattle.mp_press.specs.LinkSums.{AreSums}

-- A cache stands for a count per movement, and keeps a sum per link.
pub record Weighed : Type 0 where
  pub counts : List ℕ
  pub sums : List ℕ

-- A cache is one of this network where it has a count for each movement, and its sums are what is then queued on the links.
pub record IsCacheOf (net : Network) (cache : Weighed) : Type 0 where
  pub size : length cache.counts ≡ length net.movements
  pub sums : AreSums net (entry cache.counts) cache.sums

-- This is 1 for a count of at least 2^31, and 0 for another.
abbrev pub one_if_large : ℕ → ℕ
one_if_large n = cond (nat_le (2 ^ 31) n) 1 0

-- This is how many counts are at least 2^31.
abbrev pub large_in : List ℕ → ℕ
large_in counts = sum_by one_if_large counts
