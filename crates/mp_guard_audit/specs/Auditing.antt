-- What an audit under a guard reads of a log, and how it ends.
use Rattle.std.specs.Prelude.{◌≡◌, ◌≢◌, ◌<◌, ◌⊎◌, ℕ, ◌+◌, List, [], ◌∷◌, ◌++◌, length, Option}
use Rattle.mp_edge.specs.Outside.{Tells}
use Rattle.mp_guard_run.specs.Running.{guarded_line}
use Rattle.mp_guard_run.specs.Session.{Guarded, StandsAt}
use Rattle.mp_log.specs.Logged.{BeginsPeriod}
use Rattle.mp_model.specs.Arrivals.{IsPermitted}
use Rattle.mp_model.specs.Guard.{Guard}
use Rattle.mp_model.specs.GuardedChoice.{GuardedState, guarded_advance}
use Rattle.mp_model.specs.Log.{end_line}
use Rattle.mp_model.specs.Network.{Network, fed}
use Rattle.mp_model.specs.Stream.{lines_of}
use Rattle.mp_model.specs.declared.limits.TheConstants.{MOST_LINES}
use Rattle.mp_run.specs.Auditing.{HasSeen, LacksLine}
use Rattle.mp_run.specs.declared.auditing.AuditEnd.{AuditEnd}
use Rattle.mp_run.specs.declared.auditing.AuditEnd.TheVariants.{Done, Differs, Read}
use Rattle.mp_step.specs.Taken.{HasTaken}
use Rattle.mp_text.specs.Cut.{Cut}
use Rattle.mp_guard_audit.specs.GuardedLog.{IsWholeGuardedLog, GuardedDiffersAt, guarded_state_after, guarded_periods}
use Rattle.mp_guard_audit.specs.declared.auditing.Compared.{Compared}
use Rattle.mp_guard_audit.specs.declared.auditing.Compared.TheVariants as compared
use Rattle.mp_guard_audit.specs.declared.auditing.Logged.{Logged}
use Rattle.mp_guard_audit.specs.declared.auditing.Logged.TheVariants.{Period, End, Other, Failed}

-- A text is a whole log of this many periods, and it was read to its end.
pub record IsAudited (net : Network) (guard : Guard) (header : List (List ℕ)) (periods : ℕ) (text rest : List ℕ) : Type 0 where
  pub whole : IsWholeGuardedLog net guard header text
  pub count : periods ≡ length whole.arrivals
  pub nothing_left : rest ≡ []

-- This is what each end of an audit under a guard says of the text that was to come and of what is left of it.
abbrev pub AuditsGuarded : Network → Guard → List (List ℕ) → AuditEnd → Option (List ℕ) → Option (List ℕ) → Type 0
AuditsGuarded net guard header (Done n) left rest = Tells left rest (λ text now. IsAudited net guard header n text now)
AuditsGuarded net guard header (Differs n) left rest = Tells left rest (λ text now. GuardedDiffersAt net guard header text n)
AuditsGuarded net guard header Read left rest = Unit {0}

-- The next line is the wanted one and was taken, or another one or none, or the source met a fault.
abbrev pub Compares : List ℕ → Compared → Cut → Cut → List ℕ → List ℕ → Type 0
Compares wanted compared.Same old new was now = lines_of (old.held ++ was) ≡ wanted ∷ lines_of (new.held ++ now)
Compares wanted compared.Other old new was now = LacksLine (lines_of (old.held ++ was)) wanted
Compares wanted compared.Failed old new was now = Unit {0}

-- A line may follow those of the periods with these arrivals where it is the end line, or that of one more period, of at most 2^48, whose counts are permitted after them.
abbrev pub IsNext : Network → Guard → List (List ℕ) → List ℕ → Type 0
IsNext net guard A line =
    let now : GuardedState = guarded_state_after net guard A in
    (line ≡ end_line net now.state) ⊎ ((counts : List ℕ) × (length A < MOST_LINES) × IsPermitted net (A ++ counts ∷ []) × (line ≡ guarded_line net guard now counts))

-- The line is that of the next period with these counts, which are permitted after the arrivals before them, and the period was closed.
pub record ClosesLogged (line counts : List ℕ) (old new : Guarded) : Type 0 where
  pub moved : (now : GuardedState) → StandsAt old now → StandsAt new (guarded_advance old.net old.guard counts now)
  pub taken : (A : List (List ℕ)) → HasTaken old.net old.at A → HasTaken old.net new.at (A ++ counts ∷ [])
  pub line_is : (now : GuardedState) → StandsAt old now → line ≡ guarded_line old.net old.guard now counts

-- The counts are not permitted after the arrivals before them, or the line is not that of the next period with them.
abbrev pub RefutesCounts : List ℕ → List ℕ → Guarded → Type 0
RefutesCounts line counts old = (A : List (List ℕ)) (now : GuardedState) → HasTaken old.net old.at A → StandsAt old now → IsPermitted old.net (A ++ counts ∷ []) → line ≢ guarded_line old.net old.guard now counts

-- One more period may come, and the line begins as its line with these counts.
abbrev pub GivesCounts : Guarded → List ℕ → List ℕ → Type 0
GivesCounts s line counts = (s.at.period < MOST_LINES) × BeginsPeriod line (s.at.period + 1) (length (fed s.net)) counts

-- The line is the end line.
abbrev pub EndsLogged : Guarded → List ℕ → Type 0
EndsLogged s line = (now : GuardedState) → StandsAt s now → line ≡ end_line s.net now.state

-- The line is not the end line.
abbrev pub RefutesEnd : Guarded → List ℕ → Type 0
RefutesEnd s line = (now : GuardedState) → StandsAt s now → line ≢ end_line s.net now.state

-- The line is that of the next period, which was closed, or the end line, or it may not follow.
abbrev pub TakesLogged : List ℕ → Logged → Guarded → Guarded → Type 0
TakesLogged line Period old new = (counts : List ℕ) × (old.at.period < MOST_LINES) × (new.at.period ≡ old.at.period + 1) × ClosesLogged line counts old new
TakesLogged line End old new = EndsLogged old line
TakesLogged line Other old new = (A : List (List ℕ)) → HasTaken old.net old.at A → StandsAt old (guarded_state_after old.net old.guard A) → ¬ IsNext old.net old.guard A line
TakesLogged line Failed old new = ⊥

-- No line is left, or the next may not follow the lines of the periods with these arrivals.
abbrev pub LacksNext : Network → Guard → List (List ℕ) → List (List ℕ) → Type 0
LacksNext net guard A lines = (lines ≡ []) ⊎ ((line : List ℕ) × (more : List (List ℕ)) × (lines ≡ line ∷ more) × (¬ IsNext net guard A line))

-- The line that was taken is that of the next period, which was closed, or the end line.
abbrev pub MovesOn : List ℕ → Logged → Guarded → Guarded → Type 0
MovesOn line Period old new = TakesLogged line Period old new
MovesOn line End old new = TakesLogged line End old new
MovesOn line Other old new = Unit {0}
MovesOn line Failed old new = Unit {0}

-- The next line was taken, or there is none or it may not follow, or the source met a fault.
abbrev pub TakesNext : Logged → Guarded → Cut → Cut → List ℕ → List ℕ → Type 0
TakesNext Period s old new was now = lines_of (old.held ++ was) ≡ new.line ∷ lines_of (new.held ++ now)
TakesNext End s old new was now = lines_of (old.held ++ was) ≡ new.line ∷ lines_of (new.held ++ now)
TakesNext Other s old new was now = (A : List (List ℕ)) → HasTaken s.net s.at A → StandsAt s (guarded_state_after s.net s.guard A) → LacksNext s.net s.guard A (lines_of (old.held ++ was))
TakesNext Failed s old new was now = Unit {0}

-- In the middle of an audit: the arrivals of the lines of the periods so far, where they lead, and what is to come.
pub record Auditing (s : Guarded) (header : List (List ℕ)) (whole left : Option (List ℕ)) (held : List ℕ) : Type 0 where
  pub arrivals : List (List ℕ)
  pub stands : StandsAt s (guarded_state_after s.net s.guard arrivals)
  pub taken : HasTaken s.net s.at arrivals
  pub seen : HasSeen (header ++ guarded_periods s.net s.guard arrivals) whole left held
