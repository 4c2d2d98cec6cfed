-- What an audit reads of a log, and how it ends.
use Rattle.std.specs.Prelude.{◌≡◌, ◌≢◌, ◌<◌, ◌⊎◌, ℕ, ◌+◌, List, [], ◌∷◌, ◌++◌, length, Option}
use Rattle.mp_edge.specs.Outside.{Tells}
use Rattle.mp_model.specs.Arrivals.{IsPermitted}
use Rattle.mp_model.specs.EventCore.{arrivals_events, core_after}
use Rattle.mp_model.specs.Network.{Network}
use Rattle.mp_model.specs.Stream.{lines_of}
use Rattle.mp_model.specs.declared.limits.TheConstants.{MOST_LINES}
use Rattle.mp_text.specs.Cut.{Cut}
use Rattle.mp_step.specs.Taken.{HasTaken}
use Rattle.mp_round.specs.RoundView.{RoundView, core_of}
use Rattle.mp_run.specs.Auditing.{HasSeen, LacksLine}
use Rattle.mp_run.specs.declared.auditing.AuditEnd.{AuditEnd}
use Rattle.mp_run.specs.declared.auditing.AuditEnd.TheVariants.{Done, Differs, Read}
use Rattle.mp_event_audit.specs.Behind.{Closes, StandsBehind, end_behind, line_behind, lines_behind, shown_line}
use Rattle.mp_event_audit.specs.RenewedLog.{IsWholeRenewedLog, RenewedDiffersAt}
use Rattle.mp_event_audit.specs.declared.auditing.Compared.{Compared}
use Rattle.mp_event_audit.specs.declared.auditing.Compared.TheVariants as compared
use Rattle.mp_event_audit.specs.declared.auditing.Logged.{Logged}
use Rattle.mp_event_audit.specs.declared.auditing.Logged.TheVariants.{Period, End, Other, Failed}

-- A text is a whole log of this many periods, and it was read to its end.
pub record IsAudited (net : Network) (E D : ℕ) (bounds : List ℕ) (periods : ℕ) (text rest : List ℕ) : Type 0 where
  pub whole : IsWholeRenewedLog net E D bounds text
  pub count : periods ≡ length whole.arrivals
  pub nothing_left : rest ≡ []

-- This is what each end of an audit says of the text that was to come and of what is left of it.
abbrev pub AuditsAs : Network → ℕ → ℕ → List ℕ → AuditEnd → Option (List ℕ) → Option (List ℕ) → Type 0
AuditsAs net E D bounds (Done n) left rest = Tells left rest (λ text now. IsAudited net E D bounds n text now)
AuditsAs net E D bounds (Differs n) left rest = Tells left rest (λ text now. RenewedDiffersAt net E D bounds text n)
AuditsAs net E D bounds Read left rest = Unit {0}

-- The next line is the wanted one and was taken, or another one or none, or the source met a fault.
abbrev pub Compares : List ℕ → Compared → Cut → Cut → List ℕ → List ℕ → Type 0
Compares wanted compared.Same old new was now = lines_of (old.held ++ was) ≡ wanted ∷ lines_of (new.held ++ now)
Compares wanted compared.Other old new was now = LacksLine (lines_of (old.held ++ was)) wanted
Compares wanted compared.Failed old new was now = Unit {0}

-- A line may follow those of the periods with these arrivals where it is the end line, or that of one more period, of at most 2^48, whose counts are permitted after them.
abbrev pub IsNext : Network → List (List ℕ) → List ℕ → Type 0
IsNext net A line = (line ≡ end_behind net A) ⊎ ((counts : List ℕ) × (length A < MOST_LINES) × IsPermitted net (A ++ counts ∷ []) × (line ≡ line_behind net A counts))

-- The period was closed with these counts, which are permitted after the arrivals before them, and the line is that of the period.
pub record ClosesLogged (net : Network) (line counts : List ℕ) (old new : RoundView) : Type 0 where
  pub closes : Closes net (core_of old) counts
  pub core : core_of new ≡ core_after net (core_of old) (arrivals_events net (core_of old) counts)
  pub taken : (A : List (List ℕ)) → HasTaken net old.standing A → HasTaken net new.standing (A ++ counts ∷ [])
  pub period : new.standing.period ≡ old.standing.period + 1
  pub line_is : line ≡ shown_line new counts

-- The counts are not permitted after the arrivals before them, or the line is not that of the next period with them.
abbrev pub RefutesCounts : Network → List ℕ → List ℕ → RoundView → Type 0
RefutesCounts net line counts old = (A : List (List ℕ)) → StandsBehind net old A → IsPermitted net (A ++ counts ∷ []) → line ≢ line_behind net A counts

-- The line is the end line.
abbrev pub EndsLogged : Network → RoundView → List ℕ → Type 0
EndsLogged net round line = (A : List (List ℕ)) → StandsBehind net round A → line ≡ end_behind net A

-- The line is not the end line.
abbrev pub RefutesEnd : Network → RoundView → List ℕ → Type 0
RefutesEnd net round line = (A : List (List ℕ)) → StandsBehind net round A → line ≢ end_behind net A

-- The line is that of the next period, which was closed, or the end line, or it may not follow.
abbrev pub TakesLogged : Network → List ℕ → Logged → RoundView → RoundView → Type 0
TakesLogged net line Period old new = (counts : List ℕ) × (old.standing.period < MOST_LINES) × ClosesLogged net line counts old new
TakesLogged net line End old new = EndsLogged net old line
TakesLogged net line Other old new = (A : List (List ℕ)) → StandsBehind net old A → ¬ IsNext net A line
TakesLogged net line Failed old new = ⊥

-- No line is left, or the next may not follow the lines of the periods with these arrivals.
abbrev pub LacksNext : Network → List (List ℕ) → List (List ℕ) → Type 0
LacksNext net A lines = (lines ≡ []) ⊎ ((line : List ℕ) × (more : List (List ℕ)) × (lines ≡ line ∷ more) × (¬ IsNext net A line))

-- The line that was taken is that of the next period, which was closed, or the end line.
abbrev pub MovesOn : Network → List ℕ → Logged → RoundView → RoundView → Type 0
MovesOn net line Period old new = TakesLogged net line Period old new
MovesOn net line End old new = TakesLogged net line End old new
MovesOn net line Other old new = Unit {0}
MovesOn net line Failed old new = Unit {0}

-- The next line was taken, or there is none or it may not follow, or the source met a fault.
abbrev pub TakesNext : Network → Logged → RoundView → Cut → Cut → List ℕ → List ℕ → Type 0
TakesNext net Period round old new was now = lines_of (old.held ++ was) ≡ new.line ∷ lines_of (new.held ++ now)
TakesNext net End round old new was now = lines_of (old.held ++ was) ≡ new.line ∷ lines_of (new.held ++ now)
TakesNext net Other round old new was now = (A : List (List ℕ)) → StandsBehind net round A → LacksNext net A (lines_of (old.held ++ was))
TakesNext net Failed round old new was now = Unit {0}

-- In the middle of an audit: the arrivals of the lines of the periods so far, where they lead, and what is to come.
pub record Auditing (net : Network) (header : List (List ℕ)) (whole left : Option (List ℕ)) (held : List ℕ) (round : RoundView) : Type 0 where
  pub arrivals : List (List ℕ)
  pub stands : StandsBehind net round arrivals
  pub seen : HasSeen (header ++ lines_behind net arrivals) whole left held
