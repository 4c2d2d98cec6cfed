-- What a session that hears, decides and closes by the lines of a stream makes of it.
use Rattle.std.specs.Prelude.{◌≡◌, ◌≤◌, ℕ, ◌+◌, true, List, length, Option, None, Some}
use Rattle.std.specs.List.{AllByRecursion}
use Rattle.mp_model.specs.EventCore.{Event, core_after}
use Rattle.mp_model.specs.EventCore.Event.{hear, decide}
use Rattle.mp_model.specs.Log.{end_line}
use Rattle.mp_model.specs.Network.{Network, movement_numbers, entry}
use Rattle.mp_model.specs.ReportedLog.{reported_lines}
use Rattle.mp_model.specs.Reports.{Period, reported_run}
use Rattle.mp_model.specs.Step.{queue}
use Rattle.mp_model.specs.Stream.{LineKind, line_events}
use Rattle.mp_model.specs.Stream.LineKind.{hear_line, decide_line}
use Rattle.mp_model.specs.StreamEnd.{StreamEnd}
use Rattle.mp_model.specs.StreamEnd.StreamEnd.{above_in, stale_in, not_adjacent_in}
use Rattle.mp_round.specs.RoundView.{RoundView, core_of}
use Rattle.mp_stream.specs.Course.{Course}
use Rattle.mp_stream.specs.Ends as stream
use Rattle.mp_stream.specs.declared.driving.End.{End}
use Rattle.mp_stream.specs.declared.driving.End.TheVariants as end
use Rattle.mp_event_run.specs.Behind.{ArePermitted, core_behind, history_behind, periods_behind, refusal_behind}
use Rattle.mp_event_run.specs.declared.ends.Refusal.{Refusal}
use Rattle.mp_event_run.specs.declared.ends.Refusal.TheVariants as refusal
use Rattle.mp_event_run.specs.declared.ends.RunEnd.{RunEnd}
use Rattle.mp_event_run.specs.declared.ends.RunEnd.TheVariants.{Done, Read, Write, LineLimit, Long, Grammar, Above, Stale, NotAdjacent}

-- This is the end of a stream that a run refuses so at this line.
abbrev pub refused_end : ℕ → Refusal → StreamEnd
refused_end line (refusal.Above p l) = above_in line p l
refused_end line (refusal.Stale j l) = stale_in line j l
refused_end line (refusal.NotAdjacent j l) = not_adjacent_in line j l

-- This is the end of a stream that is refused so at this line, if it is.
abbrev pub end_refused : ℕ → Option Refusal → Option StreamEnd
end_refused line None = None
end_refused line (Some why) = Some (refused_end line why)

-- The first refusal among the events of the line of this kind, behind lines of these kinds, is this one.
abbrev pub IsRefused : Network → List LineKind → LineKind → Refusal → Type 0
IsRefused net kinds kind why = refusal_behind net kinds kind ≡ Some (refused_end (length kinds + 1) why)

-- The course of a session by events: hearings and decisions are taken, lines are permitted where none of their events is refused, and what is written are the lines of the reported run of the periods that they close, and its end line.
abbrev pub course_of : Network → Course Refusal
course_of net = record {
  net = net;
  takes_events = true;
  Permits = ArePermitted net;
  lines = λ kinds. reported_lines net (periods_behind net kinds);
  end_line = λ kinds. end_line net (history_behind net kinds).now;
  Refuses = IsRefused net;
}

-- The round shows the core after the events of lines of these kinds, which are permitted.
pub record StandsBehind (net : Network) (round : RoundView) (kinds : List LineKind) : Type 0 where
  pub core : core_of round ≡ core_behind net kinds
  pub permitted : ArePermitted net kinds

-- A line of this kind leads from what one round shows to what another shows by its events on the core.
abbrev pub Performs : Network → RoundView → LineKind → RoundView → Type 0
Performs net old kind new = core_of new ≡ core_after net (core_of old) (line_events net (core_of old) kind)

-- A line of this kind is this event alone, a hearing or a decision.
abbrev pub IsEventLine : LineKind → Event → Type 0
IsEventLine (hear_line j l) event = event ≡ hear j l
IsEventLine (decide_line j) event = event ≡ decide j
IsEventLine kind event = ⊥

-- The stream was read to its end, and behind the head the text of the run over its lines was written.
abbrev pub Finished : Network → List ℕ → Option (List ℕ) → Option (List ℕ) → Option (List ℕ) → Option (List ℕ) → Type 0
Finished net head whole left was now = stream.Finished (course_of net) head whole left was now

-- The lines before line n were taken, line n is of this kind, and behind the head the lines of the periods before it were written.
abbrev pub RefusedAt : Network → List ℕ → LineKind → ℕ → Option (List ℕ) → Option (List ℕ) → Option (List ℕ) → Option (List ℕ) → Type 0
RefusedAt net head kind n whole left was now = stream.RefusedAt (course_of net) head kind n whole left was now

-- The lines before line n were taken, line n is refused so, and behind the head the lines of the periods before it were written.
abbrev pub RefusedBy : Network → List ℕ → ℕ → Refusal → Option (List ℕ) → Option (List ℕ) → Option (List ℕ) → Option (List ℕ) → Type 0
RefusedBy net head n why whole left was now = stream.RefusedBy (course_of net) head n why whole left was now

-- The first 2^48 lines were taken, another line follows them, and behind the head the lines of their periods were written.
abbrev pub HasTooMany : Network → List ℕ → Option (List ℕ) → Option (List ℕ) → Option (List ℕ) → Option (List ℕ) → Type 0
HasTooMany net head whole left was now = stream.HasTooMany (course_of net) head whole left was now

-- This is the end of a session's run as that of any run over a stream.
abbrev pub run_end_of : RunEnd → End Refusal
run_end_of Done = end.Done
run_end_of Read = end.Read
run_end_of Write = end.Write
run_end_of LineLimit = end.LineLimit
run_end_of (Long n) = end.Long n
run_end_of (Grammar n) = end.Bad n
run_end_of (Above n p l) = end.Refused n (refusal.Above p l)
run_end_of (Stale n j l) = end.Refused n (refusal.Stale j l)
run_end_of (NotAdjacent n j l) = end.Refused n (refusal.NotAdjacent j l)

-- This is what each end of a run says, where a head stands before its text.
abbrev pub EndsAs : Network → List ℕ → RunEnd → Option (List ℕ) → Option (List ℕ) → Option (List ℕ) → Option (List ℕ) → Type 0
EndsAs net head how whole left was now = stream.EndsAs (course_of net) head (run_end_of how) whole left was now

-- Each queue of each state of the run by these periods is at most its bound.
abbrev pub StaysWithin : Network → List ℕ → List Period → Type 0
StaysWithin net bounds periods = AllByRecursion (λ state. AllByRecursion (λ k. queue state k ≤ entry bounds k) (movement_numbers net)) (reported_run net periods)
