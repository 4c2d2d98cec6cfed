-- What a session by a plan keeps: a network, a plan on it, and a run by it over permitted arrivals.
use Rattle.std.specs.Prelude.{◌≤◌, ℕ, List}
use Rattle.std.specs.List.{AllByRecursion}
use Rattle.mp_model.specs.Network.{Network, movement_numbers, entry}
use Rattle.mp_model.specs.NetworkRules.{IsAcceptable}
use Rattle.mp_model.specs.Plans.{Plan, planned_after}
use Rattle.mp_model.specs.Run.{opening}
use Rattle.mp_plan.specs.Made.{IsPlanOn}
use Rattle.mp_step.specs.Standing.{Standing, IsOn, Stands}
use Rattle.mp_step.specs.Taken.{HasTaken}

-- A session has a network, a plan, where its run stands, and the stages of the last closed period.
pub record Planned : Type 0 where
  pub net : Network
  pub plan : Plan
  pub at : Standing
  pub stages : List ℕ

-- A run by the plan stands here behind the arrivals of these periods, and has taken them.
pub record IsBehind (net : Network) (plan : Plan) (st : Standing) (A : List (List ℕ)) : Type 0 where
  pub stands : Stands net st (planned_after net plan (opening net) A)
  pub taken : HasTaken net st A

-- The run stands behind some arrivals.
pub record HasRun (net : Network) (plan : Plan) (st : Standing) : Type 0 where
  pub arrivals : List (List ℕ)
  pub behind : IsBehind net plan st arrivals

-- The network can be accepted, the plan is one on it, and the run stands on the network behind some arrivals.
pub record IsPlanned (s : Planned) : Type 0 where
  pub acceptable : IsAcceptable s.net
  pub plan : IsPlanOn s.net s.plan
  pub on : IsOn s.net s.at
  pub run : HasRun s.net s.plan s.at

-- Each queue is at most its bound.
abbrev pub IsWithin : Planned → Type 0
IsWithin s = AllByRecursion (λ k. entry s.at.queues k ≤ entry s.plan.bounds k) (movement_numbers s.net)
