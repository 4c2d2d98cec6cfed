-- What a session by a plan makes of a stream.
use Rattle.std.specs.Prelude.{ℕ, List, [], Option}
use Rattle.std.specs.List.{AllByRecursion}
use Rattle.mp_model.specs.Log.{end_line}
use Rattle.mp_model.specs.Network.{Network}
use Rattle.mp_model.specs.Plans.{Plan, planned_after, planned_lines_from, planned_run}
use Rattle.mp_model.specs.Run.{opening}
use Rattle.mp_model.specs.Stream.{LineKind, arrivals_of_kinds}
use Rattle.mp_planned.specs.Plans.{IsWithinPlan}
use Rattle.mp_step.specs.Standing.{Standing}
use Rattle.mp_stream.specs.Arrivals.{arrivals_course, stream_end}
use Rattle.mp_stream.specs.Course.{Course}
use Rattle.mp_stream.specs.Ends as stream
use Rattle.mp_stream.specs.declared.arrivals.AboveBucket.{AboveBucket}
use Rattle.mp_stream.specs.declared.arrivals.ArrivalsEnd.{ArrivalsEnd}
use Rattle.mp_plan_run.specs.Planned.{Planned, IsBehind}

-- The course of a run by a plan writes the lines of the run over the arrivals.
abbrev pub plan_course : Network → Plan → Course AboveBucket
plan_course net plan = arrivals_course net (planned_lines_from net plan (opening net)) (λ A. end_line net (planned_after net plan (opening net) A))

-- The arrivals of lines of these kinds lead by the plan from the opening to this standing.
abbrev pub StandsBehind : Network → Plan → Standing → List LineKind → Type 0
StandsBehind net plan st kinds = IsBehind net plan st (arrivals_of_kinds kinds)

-- No run stands here.
abbrev pub nowhere : Standing
nowhere = record { queues = []; phases = []; levels = []; period = 0; total_in = 0; total_out = 0; splits = []; buckets = [] }

-- A session keeps all but where its run stands and the stages of the last closed period.
abbrev pub kept_of : Planned → Planned
kept_of session = record session { at = nowhere; stages = [] }

-- This is what each end of a run by a plan says, where a head stands before its text.
abbrev pub EndsAs : Network → Plan → List ℕ → ArrivalsEnd → Option (List ℕ) → Option (List ℕ) → Option (List ℕ) → Option (List ℕ) → Type 0
EndsAs net plan head how whole left was now = stream.EndsAs (plan_course net plan) head (stream_end how) whole left was now

-- Each queue of each state of the run by the plan over these arrivals is at most its bound.
abbrev pub StaysWithin : Network → Plan → List (List ℕ) → Type 0
StaysWithin net plan A = AllByRecursion (IsWithinPlan net plan) (planned_run net plan A)
