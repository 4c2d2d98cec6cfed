-- What an audit reads of a log, and how it ends.
use Rattle.std.specs.Prelude.{◌≡◌, ◌≢◌, ◌<◌, ◌⊎◌, ℕ, ◌+◌, List, [], ◌∷◌, ◌++◌, length, Option}
use Rattle.mp_edge.specs.Outside.{Tells}
use Rattle.mp_model.specs.Network.{Network, fed}
use Rattle.mp_model.specs.Arrivals.{IsPermitted}
use Rattle.mp_model.specs.Step.{State}
use Rattle.mp_model.specs.Run.{opening, advance, state_after}
use Rattle.mp_model.specs.Log.{line_after, period_lines, end_line}
use Rattle.mp_model.specs.Stream.{lines_of}
use Rattle.mp_model.specs.WholeLog.{IsWholeLog, DiffersAt}
use Rattle.mp_model.specs.declared.limits.TheConstants.{MOST_LINES}
use Rattle.mp_text.specs.Cut.{Cut}
use Rattle.mp_log.specs.Logged.{BeginsPeriod}
use Rattle.mp_step.specs.Standing.{Standing, Stands}
use Rattle.mp_step.specs.Taken.{HasTaken}
use Rattle.mp_run.specs.declared.auditing.AuditEnd.{AuditEnd}
use Rattle.mp_run.specs.declared.auditing.AuditEnd.TheVariants.{Done, Differs, Read}
use Rattle.mp_run.specs.declared.auditing.Compared.{Compared}
use Rattle.mp_run.specs.declared.auditing.Compared.TheVariants as compared
use Rattle.mp_run.specs.declared.auditing.Logged.{Logged}
use Rattle.mp_run.specs.declared.auditing.Logged.TheVariants.{Period, End, Other, Failed}

-- A text is a whole log of this many periods, and it was read to its end.
pub record IsAudited (net : Network) (E D : ℕ) (bounds : List ℕ) (periods : ℕ) (text rest : List ℕ) : Type 0 where
  pub whole : IsWholeLog net E D bounds text
  pub count : periods ≡ length whole.arrivals
  pub nothing_left : rest ≡ []

-- This is what each end of an audit says of the text that was to come and of what is left of it.
abbrev pub AuditsAs : Network → ℕ → ℕ → List ℕ → AuditEnd → Option (List ℕ) → Option (List ℕ) → Type 0
AuditsAs net E D bounds (Done n) left rest = Tells left rest (λ text now. IsAudited net E D bounds n text now)
AuditsAs net E D bounds (Differs n) left rest = Tells left rest (λ text now. DiffersAt net E D bounds text n)
AuditsAs net E D bounds Read left rest = Unit {0}

-- The text that was to come has these lines in front, and then those of the bytes held and of what is left.
abbrev pub HasSeen : List (List ℕ) → Option (List ℕ) → Option (List ℕ) → List ℕ → Type 0
HasSeen lines whole left held = Tells whole left (λ text rest. lines_of text ≡ lines ++ lines_of (held ++ rest))

-- No line is left, or the next is another than the wanted one.
abbrev pub LacksLine : List (List ℕ) → List ℕ → Type 0
LacksLine lines wanted = (lines ≡ []) ⊎ ((line : List ℕ) × (more : List (List ℕ)) × (lines ≡ line ∷ more) × (line ≢ wanted))

-- The next line is the wanted one and was taken, or another one or none, or the source met a fault.
abbrev pub Compares : List ℕ → Compared → Cut → Cut → List ℕ → List ℕ → Type 0
Compares wanted compared.Same old new was now = lines_of (old.held ++ was) ≡ wanted ∷ lines_of (new.held ++ now)
Compares wanted compared.Other old new was now = LacksLine (lines_of (old.held ++ was)) wanted
Compares wanted compared.Failed old new was now = Unit {0}

-- A line may follow those of the periods with these arrivals where it is the end line, or that of one more period, of at most 2^48, whose counts are permitted after them.
abbrev pub IsNext : Network → List (List ℕ) → List ℕ → Type 0
IsNext net A line =
    let state : State = state_after net (opening net) A in
    (line ≡ end_line net state) ⊎ ((counts : List ℕ) × (length A < MOST_LINES) × IsPermitted net (A ++ counts ∷ []) × (line ≡ line_after net state counts))

-- The line is that of the next period with these counts, which are permitted after the arrivals before them, and the period was closed.
pub record ClosesLogged (net : Network) (line counts : List ℕ) (old new : Standing) : Type 0 where
  pub moved : (state : State) → Stands net old state → Stands net new (advance net counts state)
  pub taken : (A : List (List ℕ)) → HasTaken net old A → HasTaken net new (A ++ counts ∷ [])
  pub line_is : (state : State) → Stands net old state → line ≡ line_after net state counts

-- The counts are not permitted after the arrivals before them, or the line is not that of the next period with them.
abbrev pub RefutesCounts : Network → List ℕ → List ℕ → Standing → Type 0
RefutesCounts net line counts old = (A : List (List ℕ)) (state : State) → HasTaken net old A → Stands net old state → IsPermitted net (A ++ counts ∷ []) → line ≢ line_after net state counts

-- One more period may come, and the line begins as its line with these counts.
abbrev pub GivesCounts : Network → Standing → List ℕ → List ℕ → Type 0
GivesCounts net standing line counts = (standing.period < MOST_LINES) × BeginsPeriod line (standing.period + 1) (length (fed net)) counts

-- The line is the end line.
abbrev pub EndsLogged : Network → Standing → List ℕ → Type 0
EndsLogged net standing line = (state : State) → Stands net standing state → line ≡ end_line net state

-- The line is not the end line.
abbrev pub RefutesEnd : Network → Standing → List ℕ → Type 0
RefutesEnd net standing line = (state : State) → Stands net standing state → line ≢ end_line net state

-- The line is that of the next period, which was closed, or the end line, or it may not follow.
abbrev pub TakesLogged : Network → List ℕ → Logged → Standing → Standing → Type 0
TakesLogged net line Period old new = (counts : List ℕ) × (old.period < MOST_LINES) × (new.period ≡ old.period + 1) × ClosesLogged net line counts old new
TakesLogged net line End old new = (new ≡ old) × EndsLogged net old line
TakesLogged net line Other old new = (A : List (List ℕ)) → HasTaken net old A → Stands net old (state_after net (opening net) A) → ¬ IsNext net A line
TakesLogged net line Failed old new = ⊥

-- No line is left, or the next may not follow the lines of the periods with these arrivals.
abbrev pub LacksNext : Network → List (List ℕ) → List (List ℕ) → Type 0
LacksNext net A lines = (lines ≡ []) ⊎ ((line : List ℕ) × (more : List (List ℕ)) × (lines ≡ line ∷ more) × (¬ IsNext net A line))

-- The line that was taken is that of the next period, which was closed, or the end line; nothing else moves on.
abbrev pub MovesOn : Network → List ℕ → Logged → Standing → Standing → Type 0
MovesOn net line Period old new = TakesLogged net line Period old new
MovesOn net line End old new = TakesLogged net line End old new
MovesOn net line Other old new = Unit {0}
MovesOn net line Failed old new = Unit {0}

-- The next line was taken, or there is none or it may not follow, or the source met a fault.
abbrev pub TakesNext : Network → Logged → Standing → Cut → Cut → List ℕ → List ℕ → Type 0
TakesNext net Period standing old new was now = lines_of (old.held ++ was) ≡ new.line ∷ lines_of (new.held ++ now)
TakesNext net End standing old new was now = lines_of (old.held ++ was) ≡ new.line ∷ lines_of (new.held ++ now)
TakesNext net Other standing old new was now = (A : List (List ℕ)) → HasTaken net standing A → Stands net standing (state_after net (opening net) A) → LacksNext net A (lines_of (old.held ++ was))
TakesNext net Failed standing old new was now = Unit {0}

-- Behind the end line nothing is left, or the line of this number stands there.
abbrev pub EndsAfter : ℕ → ℕ → AuditEnd → Cut → List ℕ → List ℕ → Type 0
EndsAfter periods line (Done n) old was now = (n ≡ periods) × (lines_of (old.held ++ was) ≡ []) × (now ≡ [])
EndsAfter periods line (Differs n) old was now = (n ≡ line) × ((other : List ℕ) × (more : List (List ℕ)) × (lines_of (old.held ++ was) ≡ other ∷ more))
EndsAfter periods line Read old was now = Unit {0}

-- In the middle of an audit: the arrivals of the lines of the periods so far, where they lead, and what is to come.
pub record Auditing (net : Network) (header : List (List ℕ)) (whole left : Option (List ℕ)) (held : List ℕ) (standing : Standing) : Type 0 where
  pub arrivals : List (List ℕ)
  pub stands : Stands net standing (state_after net (opening net) arrivals)
  pub taken : HasTaken net standing arrivals
  pub seen : HasSeen (header ++ period_lines net arrivals) whole left held
