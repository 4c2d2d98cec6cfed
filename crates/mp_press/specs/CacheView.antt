-- What a cache shows, and what it keeps.
use Rattle.std.specs.Prelude.{◌≡◌, ◌≤◌, ◌^◌, length}
use Rattle.std.specs.List.{All}
use Rattle.mp_press.specs.Queues.{naturals, AreCounts}
use Rattle.mp_press.specs.Weighed.{Weighed, large_in}
use Rattle.mp_press.specs.declared.cache.Cache.TheInside.{Inside}

-- A cache shows its counts, and what is queued on each link.
abbrev pub weighed_of : Inside → Weighed
weighed_of c = record { counts = naturals c.counts.items; sums = c.queued.items }

-- The counts can be weighed, it is known how many are large, and there is a place for the press of each movement.
pub record IsKept (c : Inside) : Type 0 where
  pub counts : AreCounts c.counts.items
  pub large : c.large ≡ large_in (naturals c.counts.items)
  pub presses : length c.presses.items ≡ length c.counts.items
  pub few : All (λ p. p ≤ 2 ^ 51) c.presses.items
