-- A sharper form of the bound of a plan, which does not hold.
use Rattle.std.specs.Prelude.{◌≤◌, ◌+◌, ℕ, List, [], ◌∷◌}
use Rattle.std.specs.List.{AllByRecursion}
use Rattle.mp_model.specs.Arrivals.{IsPermitted}
use Rattle.mp_model.specs.Network.{Network, entry, movement_numbers}
use Rattle.mp_model.specs.NetworkRules.{IsAcceptable}
use Rattle.mp_model.specs.Plans.{IsPlan, Plan, planned_run}
use Rattle.mp_model.specs.Step.{queue}

-- In a network that can be accepted each queue of each state of the run by a plan is below its bound by so much or more.
abbrev pub PlannedBoundLower : ℕ → Type 0
PlannedBoundLower less = (net : Network) → IsAcceptable net → (f : List ℕ) (d : ℕ) (plan : Plan) → IsPlan net f d plan → (A : List (List ℕ)) → IsPermitted net A →
    AllByRecursion (λ state. AllByRecursion (λ k. queue state k + less ≤ entry plan.bounds k) (movement_numbers net)) (planned_run net plan A)

-- Two approaches on which nobody waits at the start have this plan of four periods.
abbrev pub short_plan : Plan
short_plan = record { cycle = 4; greens = (1 ∷ 1 ∷ []) ∷ []; bounds = 3 ∷ 3 ∷ [] }

-- No bound of it can be lowered: a vehicle that comes in the first period misses its green, and two more come before the next.
abbrev pub NotPlannedBoundOneLower : Type 0
NotPlannedBoundOneLower = ¬ PlannedBoundLower 1
