-- Which stages run in a period of a plan, and which movements are green in it.
use Rattle.std.specs.Prelude.{◌≡◌, ◌≤◌, ℕ, Bool, List, length, map}
use Rattle.std.specs.List.{AllByRecursion}
use Rattle.mp_model.specs.Arrivals.{arrivals_of}
use Rattle.mp_model.specs.Network.{Network, movement_numbers, junction_numbers, junction_at, junction_of_movement, entry}
use Rattle.mp_model.specs.Plans.{Plan, is_planned_green, planned_advance, running, stands_in_stage}
use Rattle.mp_model.specs.Step.{State}
use Rattle.mp_step.specs.OpenStep.{open_step}

-- These are the stages that the junctions run in period t, numbered from 0, and 0 where one is idle.
abbrev pub running_stages : Network → Plan → ℕ → List ℕ
running_stages net plan t = map (λ j. running plan j t) (junction_numbers net)

-- There is a number per junction, which is that of one of its stages, or 0.
pub record AreRunning (net : Network) (stages : List ℕ) : Type 0 where
  pub count : length stages ≡ length net.junctions
  pub known : AllByRecursion (λ j. entry stages j ≤ length (junction_at net j).stages) (junction_numbers net)

-- Movement k is green where it stands in the stage that its junction runs.
abbrev pub is_green_in : Network → List ℕ → ℕ → Bool
is_green_in net stages k = let j = junction_of_movement net k in stands_in_stage (junction_at net j) (entry stages j) k

-- These are the flags of the movements that are green in period t, numbered from 0.
abbrev pub plan_flags : Network → Plan → ℕ → List Bool
plan_flags net plan t = map (is_planned_green net plan t) (movement_numbers net)

-- The state after a period of a plan is that after one with these flags.
abbrev pub PlanFlagsLaw : Type 0
PlanFlagsLaw = (net : Network) (plan : Plan) (counts : List ℕ) (state : State) → planned_advance net plan counts state ≡ open_step net (plan_flags net plan state.period) (arrivals_of net counts) state
