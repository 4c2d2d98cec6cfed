-- What a splitter shows, and what it keeps.
use Rattle.std.specs.Prelude.{◌<◌}
use Rattle.mp_feed.specs.Counts.{Split, IsTable}
use Rattle.mp_feed.specs.declared.splitter.Splitter.TheInside.{Inside}

-- A splitter shows its shares and its phase.
abbrev pub split_of : Inside → Split
split_of s = record { shares = s.shares.items; phase = s.phase }

-- It keeps the counts of a round, and a phase within it.
pub record HasTable (s : Inside) : Type 0 where
  pub table : IsTable s.shares.items s.total s.joined.items
  pub phase : s.phase < s.total
