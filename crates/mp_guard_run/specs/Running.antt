-- What a session under a guard makes of a stream.
use Rattle.std.specs.Prelude.{◌≡◌, ◌≤◌, ℕ, List, [], ◌∷◌, Option}
use Rattle.std.specs.List.{AllByRecursion}
use Rattle.mp_guard.specs.Bursts.{ComeToRest, bounds_of, waits_of}
use Rattle.mp_guarded.specs.Waits.{KeepsWaits}
use Rattle.mp_model.specs.Guard.{Guard}
use Rattle.mp_model.specs.GuardedChoice.{GuardedState, guarded_advance, guarded_opening, guarded_run, guarded_stages}
use Rattle.mp_model.specs.Log.{end_line, period_line}
use Rattle.mp_model.specs.Network.{Network, entry, movement_numbers}
use Rattle.mp_model.specs.Step.{queue}
use Rattle.mp_model.specs.Stream.{LineKind, arrivals_of_kinds}
use Rattle.mp_run.specs.Running.{nowhere}
use Rattle.mp_step.specs.Taken.{HasTaken}
use Rattle.mp_stream.specs.Arrivals.{arrivals_course, stream_end}
use Rattle.mp_stream.specs.Course.{Course}
use Rattle.mp_stream.specs.Ends as stream
use Rattle.mp_stream.specs.declared.arrivals.AboveBucket.{AboveBucket}
use Rattle.mp_stream.specs.declared.arrivals.ArrivalsEnd.{ArrivalsEnd}
use Rattle.mp_guard_run.specs.Session.{Guarded, StandsAt}

-- This is the guarded state after a list of periods, from one on.
abbrev pub guarded_after : Network → Guard → GuardedState → List (List ℕ) → GuardedState
guarded_after net guard now [] = now
guarded_after net guard now (counts ∷ A) = guarded_after net guard (guarded_advance net guard counts now) A

-- The line of a period gives the stages that the junctions take in it.
abbrev pub guarded_line : Network → Guard → GuardedState → List ℕ → List ℕ
guarded_line net guard now counts =
    let next : GuardedState = guarded_advance net guard counts now in
    period_line next.state.period counts (guarded_stages net guard (queue now.state) now) next.state.queues

-- These are the lines of the periods that follow a guarded state.
abbrev pub guarded_lines_from : Network → Guard → GuardedState → List (List ℕ) → List (List ℕ)
guarded_lines_from net guard now [] = []
guarded_lines_from net guard now (counts ∷ A) = guarded_line net guard now counts ∷ guarded_lines_from net guard (guarded_advance net guard counts now) A

-- The course of a session under a guard: it writes the lines of the guarded run over the arrivals.
abbrev pub guarded_course : Network → Guard → Course AboveBucket
guarded_course net guard = arrivals_course net (guarded_lines_from net guard (guarded_opening net guard)) (λ A. end_line net (guarded_after net guard (guarded_opening net guard) A).state)

-- The arrivals of lines of these kinds lead a run under a guard from the opening to where the session stands, with its accounts.
pub record StandsBehind (s : Guarded) (kinds : List LineKind) : Type 0 where
  pub at : StandsAt s (guarded_after s.net s.guard (guarded_opening s.net s.guard) (arrivals_of_kinds kinds))
  pub taken : HasTaken s.net s.at (arrivals_of_kinds kinds)

-- The bounds of a session are those of its guard, whose bursts come to rest.
pub record HoldsBounds (s : Guarded) : Type 0 where
  pub rests : ComeToRest s.net s.guard
  pub are : s.bounds ≡ bounds_of s.net s.guard rests.surpluses rests.bursts

-- A session under a guard stands at its opening, behind no line, holds its bounds, and has the waits of its guard.
pub record IsAtOpening (s : Guarded) : Type 0 where
  pub behind : StandsBehind s []
  pub bounds : HoldsBounds s
  pub waits : s.waits ≡ waits_of s.net s.guard

-- A session under a guard keeps all but where its run stands, its accounts and the stages of the last closed period.
abbrev pub kept_of : Guarded → Guarded
kept_of session = record session { at = nowhere; accounts = []; stages = [] }

-- This is what each end of a run under a guard says, where a head stands before its text.
abbrev pub EndsAs : Network → Guard → List ℕ → ArrivalsEnd → Option (List ℕ) → Option (List ℕ) → Option (List ℕ) → Option (List ℕ) → Type 0
EndsAs net guard head how whole left was now = stream.EndsAs (guarded_course net guard) head (stream_end how) whole left was now

-- Each queue of each state of the guarded run over these arrivals is at most its bound.
abbrev pub GuardStaysWithin : Network → Guard → List ℕ → List (List ℕ) → Type 0
GuardStaysWithin net guard bounds A = AllByRecursion (λ now. AllByRecursion (λ k. queue now.state k ≤ entry bounds k) (movement_numbers net)) (guarded_run net guard A)

-- In the guarded run over these arrivals no movement with somebody waiting is without green longer than its wait.
abbrev pub GuardKeepsWaits : Network → Guard → List ℕ → List (List ℕ) → Type 0
GuardKeepsWaits net guard waits A = KeepsWaits net guard (entry waits) A
