-- How a command ends that runs a stream.
use Rattle.std.specs.Prelude.{◌≡◌, ◌++◌, ℕ, List, []}
use Rattle.mp_edge.specs.Outside.{Tells}
use Rattle.mp_model.specs.Arrivals.{IsPermitted}
use Rattle.mp_model.specs.Network.{Network}
use Rattle.mp_model.specs.Stream.{LineKind, arrivals_of_kinds}
use Rattle.mp_event_run.specs.declared.ends.RunEnd.{RunEnd as EventsEnd}
use Rattle.mp_event_run.specs.declared.ends.RunEnd.TheVariants as events
use Rattle.mp_run.specs.Running.{StartsWith}
use Rattle.mp_run.specs.declared.run.RunEnd.{RunEnd}
use Rattle.mp_run.specs.declared.run.RunEnd.TheVariants as run
use Rattle.mp_stream.specs.Arrivals.{stream_end}
use Rattle.mp_stream.specs.Course.{Course}
use Rattle.mp_stream.specs.Ends.{EndsAs}
use Rattle.mp_stream.specs.declared.arrivals.AboveBucket.{AboveBucket}
use Rattle.mp_stream.specs.declared.arrivals.ArrivalsEnd.{ArrivalsEnd}
use Rattle.mp_stream.specs.declared.arrivals.ArrivalsEnd.TheVariants.{Done, Read, Write, LineLimit, Long, Grammar, Above}
use Rattle.mp_cli.specs.declared.outcome.Outcome.{Outcome}
use Rattle.mp_cli.specs.declared.outcome.Outcome.TheVariants as end
use Rattle.mp_cli.specs.Ports.{Ports}

-- The outcome is the end of a run, and the fact is true of this end.
abbrev pub OnRun : Outcome → (RunEnd → Type 0) → Type 0
OnRun (end.Run how) P = P how
OnRun outcome P = ⊥

-- This is the end of a session's run as that of one over lines of arrivals alone.
abbrev pub end_over : RunEnd → ArrivalsEnd
end_over run.Done = Done
end_over run.Read = Read
end_over run.Write = Write
end_over run.LineLimit = LineLimit
end_over (run.Long n) = Long n
end_over (run.Grammar n) = Grammar n
end_over (run.Above n p l) = Above n p l

-- The stream was run to this end on its course, behind a head.
abbrev pub EndsOn : Course AboveBucket → List ℕ → RunEnd → Ports → Type 0
EndsOn course head how ports = EndsAs course head (stream_end (end_over how)) ports.input_before ports.input_after ports.output_before ports.output_after

-- The stream was read to its end, each of its lines was taken, its arrivals are permitted, and their log was put.
pub record PutsLog (net : Network) (log : List (List ℕ) → List ℕ) (ports : Ports) : Type 0 where
  pub kinds : List LineKind
  pub read : Tells ports.input_before ports.input_after (λ text rest. (rest ≡ []) × StartsWith net text kinds [])
  pub permitted : IsPermitted net (arrivals_of_kinds kinds)
  pub written : Tells ports.output_before ports.output_after (λ before after. after ≡ before ++ log (arrivals_of_kinds kinds))

-- This is the end of a run over lines of arrivals alone as that of a run by events.
abbrev pub event_end : RunEnd → EventsEnd
event_end run.Done = events.Done
event_end run.Read = events.Read
event_end run.Write = events.Write
event_end run.LineLimit = events.LineLimit
event_end (run.Long n) = events.Long n
event_end (run.Grammar n) = events.Grammar n
event_end (run.Above n p l) = events.Above n p l

-- The outcome is the end of a run by events, and the fact is true of this end.
abbrev pub OnEvents : Outcome → (EventsEnd → Type 0) → Type 0
OnEvents (end.Run how) P = P (event_end how)
OnEvents (end.Stale n j l) P = P (events.Stale n j l)
OnEvents (end.NotAdjacent n j l) P = P (events.NotAdjacent n j l)
OnEvents outcome P = ⊥

-- This is the outcome of a run by events that ends so.
abbrev pub outcome_of_run : EventsEnd → Outcome
outcome_of_run events.Done = end.Run run.Done
outcome_of_run events.Read = end.Run run.Read
outcome_of_run events.Write = end.Run run.Write
outcome_of_run events.LineLimit = end.Run run.LineLimit
outcome_of_run (events.Long n) = end.Run (run.Long n)
outcome_of_run (events.Grammar n) = end.Run (run.Grammar n)
outcome_of_run (events.Above n p l) = end.Run (run.Above n p l)
outcome_of_run (events.Stale n j l) = end.Stale n j l
outcome_of_run (events.NotAdjacent n j l) = end.NotAdjacent n j l
