-- The controller under a guard: what the junctions owe before each period, and the stages that they take.
use Rattle.std.specs.Prelude.{◌≡◌, ℕ, zero, suc, ◌+◌, List, [], ◌∷◌, ◌++◌, length, slice_index_or}
use Rattle.mp_model.specs.ControlLog.{InputLine, answer_of}
use Rattle.mp_model.specs.ControlLog.InputLine.{counts_line}
use Rattle.mp_model.specs.Guard.{Guard}
use Rattle.mp_model.specs.GuardedChoice.{guarded_opening}
use Rattle.mp_model.specs.GuardedRun.{Account}
use Rattle.mp_model.specs.Network.{Network, entry}
use Rattle.mp_guard_run.specs.Accounts.{accounts_after, stages_by}
use Rattle.mp_guard_control.specs.Controller.{Controller}

-- These are the accounts after a period in which the junctions take the guarded stages by these counts.
abbrev pub accounts_next : Network → Guard → (ℕ → ℕ) → ℕ → List Account → List Account
accounts_next net guard counts t accounts = accounts_after net guard counts t accounts (stages_by net guard counts t accounts)

-- These are the accounts at the beginning of each period, by the counts of the periods before it; periods are numbered from 0 here.
abbrev pub accounts_before : Network → Guard → (ℕ → ℕ → ℕ) → ℕ → List Account
accounts_before net guard counts zero = (guarded_opening net guard).accounts
accounts_before net guard counts (suc t) = accounts_next net guard (counts t) t (accounts_before net guard counts t)

-- These are the stages of each period: the guarded stages by its counts, its number, and the accounts that the periods before left.
abbrev pub stages_in : Network → Guard → (ℕ → ℕ → ℕ) → ℕ → List ℕ
stages_in net guard counts t = stages_by net guard (counts t) t (accounts_before net guard counts t)

-- These are the counts of the movements in each period, from a list of one list per period.
abbrev pub counts_in : List (List ℕ) → ℕ → ℕ → ℕ
counts_in counted t = entry (slice_index_or counted t [])

-- An answer under a guard gives the number of its period, the counts of the movements, and the stages of the junctions in this period.
abbrev pub guarded_answer : Network → Guard → List (List ℕ) → List ℕ → List ℕ
guarded_answer net guard before counts = answer_of (length before + 1) counts (stages_in net guard (counts_in (before ++ counts ∷ [])) (length before))

-- The controller under a guard writes a header first.
abbrev pub guarded_controller : Network → Guard → List ℕ → Controller
guarded_controller net guard header = record { first = header; answer = guarded_answer net guard }

-- These are the accounts after a line: a line of counts is a period, and no other line is.
abbrev pub accounts_by : Network → Guard → ℕ → List Account → InputLine → List Account
accounts_by net guard t accounts (counts_line counts) = accounts_next net guard (entry counts) t accounts
accounts_by net guard t accounts line = accounts

-- This is the answer to counts by the accounts at the beginning of their period.
abbrev pub answer_by : Network → Guard → ℕ → List Account → List ℕ → List ℕ
answer_by net guard t accounts counts = answer_of (t + 1) counts (stages_by net guard (entry counts) t accounts)

-- These accounts are those that the periods with these lists of counts left.
abbrev pub AreLeft : Network → Guard → List Account → List (List ℕ) → Type 0
AreLeft net guard accounts counted = accounts ≡ accounts_before net guard (counts_in counted) (length counted)
