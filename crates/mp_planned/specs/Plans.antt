-- The laws on runs by a cyclic plan.
use Rattle.std.specs.Prelude.{◌≤◌, ℕ, ◌-◌, ◌*◌, List, [], ◌∷◌, map}
use Rattle.std.specs.List.{AllByRecursion, range_with_len}
use Rattle.mp_model.specs.Arrivals.{IsPermitted}
use Rattle.mp_model.specs.Lights.{Demand, ServeDemand}
use Rattle.mp_model.specs.Network.{Network, movement_numbers, share_of, entry}
use Rattle.mp_model.specs.NetworkRules.{IsAcceptable, IsNetwork}
use Rattle.mp_model.specs.Plans.{IsPlan, Plan, flow_before, plan_lights, planned_run}
use Rattle.mp_model.specs.Step.{State, queue}
use Rattle.mp_model.specs.Worked.{two_approaches_from}

-- The demand of a plan has, over the share total times the rate length times d, the share of its flow as the rate of each movement, and it may go unserved in all periods of a cycle but one.
abbrev pub plan_demand : Network → List ℕ → ℕ → ℕ → Demand
plan_demand net f d cycle = record { denominator = net.shares * net.per * d; rate = λ k. share_of net k * flow_before net f k; unserved = λ k. cycle - 1 }

-- The lights of a plan serve its demand, whatever arrivals are permitted.
abbrev pub PlanServesLaw : Type 0
PlanServesLaw = (net : Network) → IsNetwork net → (f : List ℕ) (d : ℕ) (plan : Plan) → IsPlan net f d plan → (arrivals : ℕ → List ℕ) (T : ℕ) → IsPermitted net (map arrivals (range_with_len 0 T)) →
    ServeDemand net (plan_lights net plan arrivals) (plan_demand net f d plan.cycle) T

-- In this state each queue is at most its bound.
abbrev pub IsWithinPlan : Network → Plan → State → Type 0
IsWithinPlan net plan state = AllByRecursion (λ k. queue state k ≤ entry plan.bounds k) (movement_numbers net)

-- Over permitted arrivals of any length no queue of the run by a plan is above its bound.
abbrev pub PlannedBoundLaw : Type 0
PlannedBoundLaw = (net : Network) → IsNetwork net → (f : List ℕ) (d : ℕ) (plan : Plan) → IsPlan net f d plan → (A : List (List ℕ)) → IsPermitted net A → AllByRecursion (IsWithinPlan net plan) (planned_run net plan A)

-- Two approaches with start queues have a plan of four periods.
abbrev pub started_plan : Plan
started_plan = record { cycle = 4; greens = (1 ∷ 1 ∷ []) ∷ []; bounds = 53 ∷ 33 ∷ [] }

-- It is a plan, and the premises of the bound law are met.
pub record PlannedCase : Type 0 where
  pub acceptable : IsAcceptable (two_approaches_from 50 30)
  pub plan : IsPlan (two_approaches_from 50 30) (1 ∷ 1 ∷ []) 1 started_plan
  pub permitted : IsPermitted (two_approaches_from 50 30) ((2 ∷ 0 ∷ []) ∷ (0 ∷ 0 ∷ []) ∷ (0 ∷ 0 ∷ []) ∷ (1 ∷ 0 ∷ []) ∷ [])
