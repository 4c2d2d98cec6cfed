-- Regions of cells, and spans of them.
use Rattle.std.specs.Prelude.{◌≤◌, ◌<◌, ◌+◌, ℕ, ℤ, List, slice_range, slice_set}

-- A region has cells, of which the first so many are used.
pub record Cells : Type 0 where
  pub cells : List ℤ
  pub used : ℕ

-- A span begins at a cell, and has so many.
pub record Extent : Type 0 where
  pub at : ℕ
  pub len : ℕ

-- This is where a span ends: the number of the cell behind its last.
abbrev pub end_of : Extent → ℕ
end_of span = span.at + span.len

-- A span is within a region where it ends within the used cells.
abbrev pub IsWithin : Cells → Extent → Type 0
IsWithin region span = end_of span ≤ region.used

-- A cell is one of the span's.
abbrev pub HasCell : Extent → ℕ → Type 0
HasCell span cell = (span.at ≤ cell) × (cell < end_of span)

-- No cell is one of both spans'.
abbrev pub ShareNoCell : Extent → Extent → Type 0
ShareNoCell a b = (cell : ℕ) → HasCell a cell → HasCell b cell → ⊥

-- These are the cells of a span.
abbrev pub part_of : Cells → Extent → List ℤ
part_of region span = slice_range region.cells span.at (end_of span)

-- A write puts a value into the i-th cell of a span, and leaves all others.
abbrev pub put : Cells → Extent → ℕ → ℤ → Cells
put region span i value = record region { cells = slice_set region.cells (span.at + i) value }
