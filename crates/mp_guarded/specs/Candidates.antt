-- The law that a candidate is always there.
use Rattle.std.specs.Prelude.{◌≤◌, ℕ, ◌+◌, ◌*◌, ◌%◌, List, length, sum, Option, Some, None}
use Rattle.mp_model.specs.Guard.{Guard, owing}
use Rattle.mp_model.specs.GuardedRun.{IsCandidate, account_at, needed_in}
use Rattle.mp_model.specs.Network.{Junction}
use Rattle.mp_guarded.specs.Greens.{KeepsGreens}

-- This is what a junction needs in the stage of the period before, or in none at the first period.
abbrev pub needed_before : ℕ → List ℕ → Option ℕ → ℕ
needed_before lost owed None = sum owed + lost * owing owed
needed_before lost owed (Some s) = needed_in lost owed s

-- Before period T what the junction needs fits into the rest of the cycle, and some stage is a candidate whatever the counts.
pub record HasCandidate (guard : Guard) (greens : List ℕ) (j : Junction) (counts : ℕ → ℕ → ℕ) (stages : ℕ → ℕ) (T : ℕ) : Type 0 where
  pub needed : (let account = account_at guard greens j counts stages T in needed_before guard.lost account.owed account.before + T % guard.cycle ≤ guard.cycle)
  pub some : (s : ℕ) × IsCandidate guard j (counts T) T (account_at guard greens j counts stages T) s

-- This holds of a junction with stages that has taken candidates so far.
abbrev pub CandidateLaw : Type 0
CandidateLaw = (guard : Guard) (greens : List ℕ) (j : Junction) (counts : ℕ → ℕ → ℕ) (stages : ℕ → ℕ) (T : ℕ) → KeepsGreens guard greens j counts stages T → 1 ≤ length j.stages → HasCandidate guard greens j counts stages T
