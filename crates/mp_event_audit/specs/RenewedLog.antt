-- What makes a text a whole log of a run whose reports are renewed when they would be too old, and where one differs.
use Rattle.std.specs.Prelude.{ℕ, ◌≡◌, ◌≤◌, ◌+◌, ◌-◌, List, ◌++◌, length, take}
use Rattle.mp_model.specs.Arrivals.{IsPermitted}
use Rattle.mp_model.specs.Network.{Network}
use Rattle.mp_model.specs.ReportedLog.{reported_log_lines}
use Rattle.mp_model.specs.Reports.{renewed_periods}
use Rattle.mp_model.specs.Stream.{lines_of}
use Rattle.mp_model.specs.declared.limits.TheConstants.{MOST_LINES}

-- These are the lines of the log of these arrivals where each junction hears a link anew only when its report would be too old.
abbrev pub renewed_log_lines : Network → ℕ → ℕ → List ℕ → List (List ℕ) → List (List ℕ)
renewed_log_lines net E D bounds A = reported_log_lines net E D bounds (renewed_periods net 0 A)

-- A text is a whole log where its lines are those of the log of some permitted arrivals of at most 2^48 periods.
pub record IsWholeRenewedLog (net : Network) (E D : ℕ) (bounds text : List ℕ) : Type 0 where
  pub arrivals : List (List ℕ)
  pub permitted : IsPermitted net arrivals
  pub few : length arrivals ≤ MOST_LINES
  pub lines : lines_of text ≡ renewed_log_lines net E D bounds arrivals

-- These lines begin the log of some permitted arrivals of at most 2^48 periods.
pub record BeginsRenewedLog (net : Network) (E D : ℕ) (bounds : List ℕ) (lines : List (List ℕ)) : Type 0 where
  pub arrivals : List (List ℕ)
  pub permitted : IsPermitted net arrivals
  pub few : length arrivals ≤ MOST_LINES
  pub rest : List (List ℕ)
  pub begins : renewed_log_lines net E D bounds arrivals ≡ lines ++ rest

-- A text differs from a log at line n where the lines before it begin a log, and with line n they don't, or line n is missing and they are no whole log.
pub record RenewedDiffersAt (net : Network) (E D : ℕ) (bounds text : List ℕ) (n : ℕ) : Type 0 where
  pub number : (1 ≤ n) × (n ≤ length (lines_of text) + 1)
  pub before : BeginsRenewedLog net E D bounds (take (n - 1) (lines_of text))
  pub here : n ≤ length (lines_of text) → ¬ BeginsRenewedLog net E D bounds (take n (lines_of text))
  pub not_whole : ¬ IsWholeRenewedLog net E D bounds text
