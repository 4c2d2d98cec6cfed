-- The text of a log of a run by reports, line by line.
use Rattle.std.specs.Prelude.{ℕ, List, [], ◌∷◌, ◌++◌}
use Rattle.mp_model.specs.Log.{end_line, header_lines, period_line, text_of}
use Rattle.mp_model.specs.Network.{Network}
use Rattle.mp_model.specs.Reports.{History, Period, advance_by, first_history, history_after, reported_stages}
use Rattle.mp_model.specs.Step.{State}

-- This is the line of a period that follows a run up to now.
abbrev pub reported_line : Network → History → Period → List ℕ
reported_line net history period =
    let after : State = (advance_by net period history).now in
    period_line after.period period.counts (reported_stages net history period.ages) after.queues

-- These are the lines of the periods that follow a run up to now.
abbrev pub reported_lines_from : Network → History → List Period → List (List ℕ)
reported_lines_from net history [] = []
reported_lines_from net history (period ∷ periods) = reported_line net history period ∷ reported_lines_from net (advance_by net period history) periods

-- These are the lines of all periods of a run by reports.
abbrev pub reported_lines : Network → List Period → List (List ℕ)
reported_lines net periods = reported_lines_from net (first_history net) periods

-- The lines of the run are a line per period, and the end line.
abbrev pub reported_run_lines : Network → List Period → List (List ℕ)
reported_run_lines net periods = reported_lines net periods ++ end_line net (history_after net (first_history net) periods).now ∷ []

-- The text of the run is that of these lines.
abbrev pub reported_run_text : Network → List Period → List ℕ
reported_run_text net periods = text_of (reported_run_lines net periods)

-- The lines of its log are the header and those of the run.
abbrev pub reported_log_lines : Network → ℕ → ℕ → List ℕ → List Period → List (List ℕ)
reported_log_lines net E D bounds periods = header_lines net E D bounds ++ reported_run_lines net periods
