-- What a session by a plan shows, and what its type keeps.
use Rattle.mp_plan_run.specs.Planned.{Planned, IsPlanned}
use Rattle.mp_plan_run.specs.declared.session.PlanSession.TheInside.{Inside}

-- A session shows its network and plan, where its run stands, and the last stages.
abbrev pub planned_of : Inside → Planned
planned_of s = record {
  net = s.net.now;
  plan = s.plan;
  at = s.state;
  stages = s.stages.items;
}

-- A session keeps a run by its plan.
abbrev pub IsSession : Inside → Type 0
IsSession s = IsPlanned (planned_of s)
