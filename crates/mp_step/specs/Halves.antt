-- Each half of the cells has queues, then phases, then levels.
use Rattle.std.specs.Prelude.{ℕ, ◌+◌, ◌*◌, ℤ, List, take, drop}

-- This is how many cells a half has.
abbrev pub half_of : ℕ → ℕ → ℕ
half_of movements links = movements + 2 * links

-- These are the queues of a half.
abbrev pub queues_in : ℕ → List ℤ → List ℤ
queues_in movements half = take movements half

-- These are its phases.
abbrev pub phases_in : ℕ → ℕ → List ℤ → List ℤ
phases_in movements links half = take links (drop movements half)

-- These are its levels.
abbrev pub levels_in : ℕ → ℕ → List ℤ → List ℤ
levels_in movements links half = drop links (drop movements half)
