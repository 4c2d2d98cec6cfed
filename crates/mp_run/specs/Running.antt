-- What a session makes of a stream.
use Rattle.std.specs.Prelude.{◌≡◌, ◌≤◌, ℕ, ◌+◌, Bool, false, List, [], ◌∷◌, length, Option}
use Rattle.std.specs.List.{AllByRecursion}
use Rattle.mp_model.specs.Network.{Network, movement_numbers, entry}
use Rattle.mp_model.specs.Arrivals.{IsPermitted}
use Rattle.mp_model.specs.Step.{queue}
use Rattle.mp_model.specs.Run.{opening, state_after, run}
use Rattle.mp_model.specs.Log.{end_line, period_lines}
use Rattle.mp_model.specs.Stream.{LineKind, arrivals_of_kinds}
use Rattle.mp_model.specs.Stream.LineKind.{arrivals_line}
use Rattle.mp_laws.specs.Buckets.{IsFirstAbove}
use Rattle.mp_step.specs.Standing.{Standing, Stands}
use Rattle.mp_step.specs.Taken.{HasTaken}
use Rattle.mp_drift.specs.Session.{Bounded}
use Rattle.mp_stream.specs.Course.{Course}
use Rattle.mp_stream.specs.Course as course
use Rattle.mp_stream.specs.Ends as stream
use Rattle.mp_stream.specs.declared.driving.End.{End}
use Rattle.mp_stream.specs.declared.driving.End.TheVariants as end
use Rattle.mp_run.specs.declared.run.AboveBucket.{AboveBucket}
use Rattle.mp_run.specs.declared.run.RunEnd.{RunEnd}
use Rattle.mp_run.specs.declared.run.RunEnd.TheVariants.{Done, Read, Write, LineLimit, Long, Grammar, Above}

-- Behind lines of these kinds the line gives the arrivals of this period, and in it the link is the least that does not keep to its bucket.
pub record IsAbove (net : Network) (kinds : List LineKind) (kind : LineKind) (why : AboveBucket) : Type 0 where
  pub counts : List ℕ
  pub is : kind ≡ arrivals_line counts
  pub period : why.period ≡ length (arrivals_of_kinds kinds) + 1
  pub first : IsFirstAbove net (arrivals_of_kinds kinds) counts why.link

-- The course of a session: it takes no events, lines are permitted where their arrivals are, and it writes the lines of the run over these arrivals.
abbrev pub course_of : Network → Course AboveBucket
course_of net = record {
  net = net;
  takes_events = false;
  Permits = λ kinds. IsPermitted net (arrivals_of_kinds kinds);
  lines = λ kinds. period_lines net (arrivals_of_kinds kinds);
  end_line = λ kinds. end_line net (state_after net (opening net) (arrivals_of_kinds kinds));
  Refuses = IsAbove net;
}

-- The arrivals of lines of these kinds lead from the opening to this standing.
pub record StandsBehind (net : Network) (standing : Standing) (kinds : List LineKind) : Type 0 where
  pub stands : Stands net standing (state_after net (opening net) (arrivals_of_kinds kinds))
  pub taken : HasTaken net standing (arrivals_of_kinds kinds)

-- No run stands here.
abbrev pub nowhere : Standing
nowhere = record { queues = []; phases = []; levels = []; period = 0; total_in = 0; total_out = 0; splits = []; buckets = [] }

-- A session keeps all but where its run stands and the stages of the last closed period.
abbrev pub kept_of : Bounded → Bounded
kept_of session = record session { at = nowhere; stages = [] }

-- A text starts with lines of these kinds, each of them taken, and goes on with lines of the other kinds.
abbrev pub StartsWith : Network → List ℕ → List LineKind → List LineKind → Type 0
StartsWith net text kinds more = course.StartsWith (course_of net) text kinds more

-- The lines of a text before line n are taken and their arrivals are permitted, line n gives the arrivals of period p, and in it l is the least link that does not keep to its bucket.
pub record IsAboveAt (net : Network) (text : List ℕ) (n p l : ℕ) : Type 0 where
  pub kinds : List LineKind
  pub counts : List ℕ
  pub more : List LineKind
  pub number : n ≡ length kinds + 1
  pub period : p ≡ length (arrivals_of_kinds kinds) + 1
  pub lines : StartsWith net text kinds (arrivals_line counts ∷ more)
  pub permitted : IsPermitted net (arrivals_of_kinds kinds)
  pub above : IsFirstAbove net (arrivals_of_kinds kinds) counts l

-- The stream was read to its end, and behind the head the text of the run over its arrivals was written.
abbrev pub Finished : Network → List ℕ → Option (List ℕ) → Option (List ℕ) → Option (List ℕ) → Option (List ℕ) → Type 0
Finished net head whole left was now = stream.Finished (course_of net) head whole left was now

-- The lines before line n were taken, line n is of this kind, and behind the head the lines of the periods before it were written.
abbrev pub RefusedAt : Network → List ℕ → LineKind → ℕ → Option (List ℕ) → Option (List ℕ) → Option (List ℕ) → Option (List ℕ) → Type 0
RefusedAt net head kind n whole left was now = stream.RefusedAt (course_of net) head kind n whole left was now

-- The lines before line n were taken, line n gives the arrivals of period p, in which l is the least link that does not keep to its bucket, and behind the head the lines of the periods before p were written.
abbrev pub RefusedAbove : Network → List ℕ → ℕ → ℕ → ℕ → Option (List ℕ) → Option (List ℕ) → Option (List ℕ) → Option (List ℕ) → Type 0
RefusedAbove net head n p l whole left was now = stream.RefusedBy (course_of net) head n (record { period = p; link = l }) whole left was now

-- The first 2^48 lines were taken, another line follows them, and behind the head the lines of their periods were written.
abbrev pub HasTooMany : Network → List ℕ → Option (List ℕ) → Option (List ℕ) → Option (List ℕ) → Option (List ℕ) → Type 0
HasTooMany net head whole left was now = stream.HasTooMany (course_of net) head whole left was now

-- This is the end of a session's run as that of any run over a stream.
abbrev pub stream_end : RunEnd → End AboveBucket
stream_end Done = end.Done
stream_end Read = end.Read
stream_end Write = end.Write
stream_end LineLimit = end.LineLimit
stream_end (Long n) = end.Long n
stream_end (Grammar n) = end.Bad n
stream_end (Above n p l) = end.Refused n (record { period = p; link = l })

-- This is what each end of a run says, where a head stands before its text.
abbrev pub EndsAs : Network → List ℕ → RunEnd → Option (List ℕ) → Option (List ℕ) → Option (List ℕ) → Option (List ℕ) → Type 0
EndsAs net head how whole left was now = stream.EndsAs (course_of net) head (stream_end how) whole left was now

-- Each queue of each state of the run over these arrivals is at most its bound.
abbrev pub StaysWithin : Network → List ℕ → List (List ℕ) → Type 0
StaysWithin net bounds A = AllByRecursion (λ state. AllByRecursion (λ k. queue state k ≤ entry bounds k) (movement_numbers net)) (run net A)
