-- What `plan` promises.
use Rattle.std.specs.Prelude.{◌≡◌, ℕ, List}
use Rattle.mp_model.specs.Arrivals.{IsPermitted}
use Rattle.mp_model.specs.Log.{text_of}
use Rattle.mp_model.specs.Network.{Network}
use Rattle.mp_model.specs.Plans.{Plan, plan_header, planned_log}
use Rattle.mp_flow.specs.declared.network.Place.TheVariants as at
use Rattle.mp_plan.specs.Made.{IsPlanOn, IsRefused, IsStatedPlan}
use Rattle.mp_plan.specs.declared.fault.PlanFault.TheVariants as fault
use Rattle.mp_plan_run.specs.Running.{plan_course, StaysWithin}
use Rattle.mp_cli.specs.declared.outcome.Outcome.{Outcome}
use Rattle.mp_cli.specs.declared.outcome.Outcome.TheVariants.{CyclicPlan, FullPlan, Overflow, PlanOverflow, NoMemory}
use Rattle.mp_cli.specs.Opening.{OnNetwork}
use Rattle.mp_cli.specs.Ports.{Ports, RefusedOr}
use Rattle.mp_cli.specs.Streaming.{EndsOn, OnRun, PutsLog}

-- No plan of this cycle is made: movements lead from a link back to it, of which the least is told; the flows exceed 128 bits; the greens of a junction sum to more than the cycle; another calculation exceeds its limit; or memory ran out.
abbrev pub IsUnplanned : Outcome → Network → ℕ → Type 0
IsUnplanned (CyclicPlan link) net C = IsRefused net C (fault.Cycle link)
IsUnplanned (Overflow at.Flow) net C = IsRefused net C fault.Flow
IsUnplanned (FullPlan j) net C = IsRefused net C (fault.Full j)
IsUnplanned PlanOverflow net C = IsRefused net C fault.Overflow
IsUnplanned NoMemory net C = Unit {0}
IsUnplanned outcome net C = ⊥

-- The plan of this cycle is made by the stated calculation, and is one of the network; over all permitted arrivals no queue of the run by the plan exceeds its bound; and the fact is true of the plan.
pub record PlanHolds (net : Network) (C : ℕ) (P : Plan → Type 0) : Type 0 where
  pub plan : Plan
  pub stated : IsStatedPlan net C plan
  pub on : IsPlanOn net plan
  pub within : (A : List (List ℕ)) → IsPermitted net A → StaysWithin net plan A
  pub is : P plan

-- The stream was run by the plan to this end behind its header.
abbrev pub StreamsPlan : Outcome → Network → Ports → Plan → Type 0
StreamsPlan outcome net ports plan = OnRun outcome (λ how. EndsOn (plan_course net plan) (text_of (plan_header net plan)) how ports)

-- The log of the run by the plan was put.
abbrev pub WritesPlannedLog : Network → Ports → Plan → Type 0
WritesPlannedLog net ports plan = PutsLog net (planned_log net plan) ports

-- This is what each outcome says of the run of a stream by a plan that was made: memory ran out before, or the stream was run.
abbrev pub StreamsUnderPlan : Outcome → Network → Plan → Ports → Type 0
StreamsUnderPlan outcome net plan ports = RefusedOr (outcome ≡ NoMemory) ports (StreamsPlan outcome net ports plan)

-- This is what each outcome says of `plan`: on the network of the file the stream was run by the plan of this cycle.
abbrev pub RunsPlan : Outcome → List ℕ → ℕ → Ports → Type 0
RunsPlan outcome name C ports = OnNetwork outcome name ports (λ net. RefusedOr (IsUnplanned outcome net C) ports (PlanHolds net C (StreamsPlan outcome net ports)))
