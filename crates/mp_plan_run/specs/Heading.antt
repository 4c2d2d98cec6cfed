-- The header of a plan line by line.
use Rattle.std.specs.Prelude.{◌++◌, ◌-◌, ℕ, List, [], codes, decimal, slice_index_or}
use Rattle.mp_model.specs.Network.{Network}
use Rattle.mp_model.specs.Plans.{Plan, plan_header}

-- The line of the cycle gives its length in periods.
abbrev pub cycle_line : Plan → List ℕ
cycle_line plan = codes "cycle " ++ decimal plan.cycle

-- This is header line number i, from 1.
abbrev pub plan_header_line : Network → Plan → ℕ → List ℕ
plan_header_line net plan i = slice_index_or (plan_header net plan) (i - 1) []
