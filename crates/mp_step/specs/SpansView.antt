-- How the six spans lie in their region.
use Rattle.std.specs.Prelude.{◌≡◌, ◌≤◌, ℕ, ◌+◌, ◌*◌, Bool, cond, length}
use Rattle.mp_region.specs.Cells.{Extent, part_of}
use Rattle.mp_step.specs.Halves.{half_of}
use Rattle.mp_step.specs.Held.{Held}
use Rattle.mp_step.specs.declared.spans.Spans.TheInside.{Inside}

-- The cells hold what the spans show.
abbrev pub held_in : Inside → Held
held_in s = record {
  queues = part_of s.region s.queues;
  phases = part_of s.region s.phases;
  levels = part_of s.region s.levels;
  next_queues = part_of s.region s.next_queues;
  next_phases = part_of s.region s.next_phases;
  next_levels = part_of s.region s.next_levels;
}

-- This is a span that begins at a cell and has so many.
abbrev pub span_at : ℕ → ℕ → Extent
span_at at len = record { at = at; len = len }

-- Three spans lie one behind the other from a cell on.
pub record AreAt (at movements links : ℕ) (queues phases levels : Extent) : Type 0 where
  pub first : queues ≡ span_at at movements
  pub second : phases ≡ span_at (at + movements) links
  pub third : levels ≡ span_at (at + (movements + links)) links

-- The spans of now are one half of the region, those of the next period the other.
pub record IsLaid (s : Inside) : Type 0 where
  pub movements : ℕ
  pub links : ℕ
  pub back : Bool
  pub some : 1 ≤ movements
  pub size : length s.region.cells ≡ 2 * half_of movements links
  pub used : s.region.used ≡ 2 * half_of movements links
  pub now : AreAt (cond back (half_of movements links) 0) movements links s.queues s.phases s.levels
  pub next : AreAt (cond back 0 (half_of movements links)) movements links s.next_queues s.next_phases s.next_levels
