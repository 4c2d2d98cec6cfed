-- Queues as the code keeps them.
use Rattle.std.specs.Prelude.{◌≡◌, ℕ, ◌^◌, ◌≤◌, ℤ, pos, List, map, unsigned_abs}
use Rattle.std.specs.List.{All}

-- These are the numbers of signed counts.
abbrev pub naturals : List ℤ → List ℕ
naturals zs = map unsigned_abs zs

-- None of the counts is negative.
abbrev pub NoneNegative : List ℤ → Type 0
NoneNegative zs = map pos (naturals zs) ≡ zs

-- Counts can be weighed where none is negative and each is at most 2^90.
pub record AreCounts (zs : List ℤ) : Type 0 where
  pub none_negative : NoneNegative zs
  pub few : All (λ q. q ≤ 2 ^ 90) (naturals zs)
