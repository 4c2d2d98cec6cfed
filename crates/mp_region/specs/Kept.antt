-- What a region and a span show, and what they keep.
use Rattle.std.specs.Prelude.{◌≤◌, ◌<◌, ◌+◌, ◌^◌, length}
use Rattle.mp_region.specs.Cells.{Cells, Extent}
use Rattle.mp_region.specs.declared.region.Region.TheInside.{Inside}
use Rattle.mp_region.specs.declared.span.Span.TheInside.{Inside as InsideSpan}

-- A region shows its cells and how many are used.
abbrev pub cells_of : Inside → Cells
cells_of region = record { cells = region.cells.items; used = region.used }

-- The used cells are among its cells.
abbrev pub IsUsed : Inside → Type 0
IsUsed region = region.used ≤ length region.cells.items

-- A span shows where it begins and how many cells it has.
abbrev pub extent_of : InsideSpan → Extent
extent_of span = record { at = span.at; len = span.len }

-- Its end is a number of a cell.
abbrev pub IsAddressed : InsideSpan → Type 0
IsAddressed span = span.at + span.len < 2 ^ 64
