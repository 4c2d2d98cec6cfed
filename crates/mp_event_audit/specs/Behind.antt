-- Where a round stands behind lines of arrivals, and what may follow them.
use Rattle.std.specs.Prelude.{◌≡◌, ℕ, List, [], ◌∷◌, length}
use Rattle.mp_model.specs.EventCore.{Core, all_lacking, apply, arrivals_events, core_after, core_opening}
use Rattle.mp_model.specs.EventCore.Answer.{closed}
use Rattle.mp_model.specs.EventCore.Event.{close}
use Rattle.mp_model.specs.Log.{end_line, period_line}
use Rattle.mp_model.specs.Network.{Network}
use Rattle.mp_model.specs.ReportedLog.{reported_line, reported_lines}
use Rattle.mp_model.specs.Reports.{History, Period, first_history, history_after, renewed_ages, renewed_periods}
use Rattle.mp_step.specs.Taken.{HasTaken}
use Rattle.mp_round.specs.RoundView.{RoundView, core_of}

-- This is the core after lines of these arrivals, from a core.
abbrev pub core_from : Network → Core → List (List ℕ) → Core
core_from net core [] = core
core_from net core (counts ∷ A) = core_from net (core_after net core (arrivals_events net core counts)) A

-- A line of these arrivals closes its period.
abbrev pub Closes : Network → Core → List ℕ → Type 0
Closes net core counts = (apply net (core_after net core (all_lacking net core)) (close counts)).0 ≡ closed

-- Each of the lines of these arrivals closes its period, from a core.
abbrev pub AllClose : Network → Core → List (List ℕ) → Type 0
AllClose net core [] = Unit {0}
AllClose net core (counts ∷ A) = Closes net core counts × AllClose net (core_after net core (arrivals_events net core counts)) A

-- A round stands behind the lines of these arrivals where they are permitted, each closes its period, and the round shows the core after them.
pub record StandsBehind (net : Network) (round : RoundView) (A : List (List ℕ)) : Type 0 where
  pub taken : HasTaken net round.standing A
  pub closes : AllClose net (core_opening net) A
  pub core : core_of round ≡ core_from net (core_opening net) A

-- This is the run up to now over these arrivals, with renewed reports.
abbrev pub history_behind : Network → List (List ℕ) → History
history_behind net A = history_after net (first_history net) (renewed_periods net 0 A)

-- This is the next period behind these arrivals, with these counts and renewed reports.
abbrev pub period_behind : Network → List (List ℕ) → List ℕ → Period
period_behind net A counts = record { counts = counts; ages = renewed_ages net (length A) }

-- This is its line.
abbrev pub line_behind : Network → List (List ℕ) → List ℕ → List ℕ
line_behind net A counts = reported_line net (history_behind net A) (period_behind net A counts)

-- These are the lines of the periods of these arrivals.
abbrev pub lines_behind : Network → List (List ℕ) → List (List ℕ)
lines_behind net A = reported_lines net (renewed_periods net 0 A)

-- This is the end line behind them.
abbrev pub end_behind : Network → List (List ℕ) → List ℕ
end_behind net A = end_line net (history_behind net A).now

-- This is the line of the period that a round closed last, with these counts.
abbrev pub shown_line : RoundView → List ℕ → List ℕ
shown_line round counts = period_line round.standing.period counts round.last round.standing.queues
