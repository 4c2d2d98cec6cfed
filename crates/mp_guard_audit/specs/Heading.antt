-- The header of a session under a guard, line by line.
use Rattle.std.specs.Prelude.{◌≡◌, ℕ, List, [], length, slice_index_or}
use Rattle.mp_guard.specs.GuardHeader.{guard_header}
use Rattle.mp_guard_run.specs.Session.{Guarded}

-- The header of a session is that of its guard, with its bounds and waits.
abbrev pub header_of : Guarded → List (List ℕ)
header_of s = guard_header s.net s.guard s.bounds s.waits

-- This is header line number i, from 0.
abbrev pub header_line_at : Guarded → ℕ → List ℕ
header_line_at s i = slice_index_or (header_of s) i []

-- A session has a bound and a wait per movement.
pub record HasNumbers (s : Guarded) : Type 0 where
  pub bounds : length s.bounds ≡ length s.net.movements
  pub waits : length s.waits ≡ length s.net.movements
