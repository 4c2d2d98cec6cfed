-- What makes a text a whole log under a guard, and where one differs.
use Rattle.std.specs.Prelude.{ℕ, ◌≡◌, ◌≤◌, ◌+◌, ◌-◌, List, [], ◌∷◌, ◌++◌, length, take}
use Rattle.mp_model.specs.Arrivals.{IsPermitted}
use Rattle.mp_model.specs.Guard.{Guard}
use Rattle.mp_model.specs.GuardedChoice.{GuardedState, guarded_opening}
use Rattle.mp_model.specs.Log.{end_line}
use Rattle.mp_model.specs.Network.{Network}
use Rattle.mp_model.specs.Stream.{lines_of}
use Rattle.mp_model.specs.declared.limits.TheConstants.{MOST_LINES}
use Rattle.mp_guard_run.specs.Running.{guarded_after, guarded_lines_from}

-- Where each list of arrivals has its log, a text is a whole log where its lines are those of the log of some permitted arrivals of at most 2^48 periods.
pub record IsWholeOf (net : Network) (log : List (List ℕ) → List (List ℕ)) (text : List ℕ) : Type 0 where
  pub arrivals : List (List ℕ)
  pub permitted : IsPermitted net arrivals
  pub few : length arrivals ≤ MOST_LINES
  pub lines : lines_of text ≡ log arrivals

-- These lines begin the log of some permitted arrivals of at most 2^48 periods.
pub record Begins (net : Network) (log : List (List ℕ) → List (List ℕ)) (lines : List (List ℕ)) : Type 0 where
  pub arrivals : List (List ℕ)
  pub permitted : IsPermitted net arrivals
  pub few : length arrivals ≤ MOST_LINES
  pub rest : List (List ℕ)
  pub begins : log arrivals ≡ lines ++ rest

-- A text differs from each log at line n where the lines before it begin one, and with line n they don't, or line n is missing and they are no whole one.
pub record DiffersFrom (net : Network) (log : List (List ℕ) → List (List ℕ)) (text : List ℕ) (n : ℕ) : Type 0 where
  pub number : (1 ≤ n) × (n ≤ length (lines_of text) + 1)
  pub before : Begins net log (take (n - 1) (lines_of text))
  pub here : n ≤ length (lines_of text) → ¬ Begins net log (take n (lines_of text))
  pub not_whole : ¬ IsWholeOf net log text

-- This is the guarded state after these arrivals.
abbrev pub guarded_state_after : Network → Guard → List (List ℕ) → GuardedState
guarded_state_after net guard A = guarded_after net guard (guarded_opening net guard) A

-- These are the lines of the periods of the guarded run over these arrivals.
abbrev pub guarded_periods : Network → Guard → List (List ℕ) → List (List ℕ)
guarded_periods net guard A = guarded_lines_from net guard (guarded_opening net guard) A

-- The lines of a guarded run are a line per period, and the end line.
abbrev pub guarded_run_lines : Network → Guard → List (List ℕ) → List (List ℕ)
guarded_run_lines net guard A = guarded_periods net guard A ++ end_line net (guarded_state_after net guard A).state ∷ []

-- The lines of a log under a guard are a header and those of the guarded run.
abbrev pub guarded_log_lines : Network → Guard → List (List ℕ) → List (List ℕ) → List (List ℕ)
guarded_log_lines net guard header A = header ++ guarded_run_lines net guard A

-- The text is a whole log under the guard with this header.
abbrev pub IsWholeGuardedLog : Network → Guard → List (List ℕ) → List ℕ → Type 0
IsWholeGuardedLog net guard header text = IsWholeOf net (guarded_log_lines net guard header) text

-- The lines begin a log under the guard with this header.
abbrev pub BeginsGuardedLog : Network → Guard → List (List ℕ) → List (List ℕ) → Type 0
BeginsGuardedLog net guard header lines = Begins net (guarded_log_lines net guard header) lines

-- The text differs from each log under the guard with this header at line n.
abbrev pub GuardedDiffersAt : Network → Guard → List (List ℕ) → List ℕ → ℕ → Type 0
GuardedDiffersAt net guard header text n = DiffersFrom net (guarded_log_lines net guard header) text n
