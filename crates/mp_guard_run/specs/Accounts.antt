-- The accounts of the junctions between periods, the order that they keep, and the stages that are taken by them.
use Rattle.std.specs.Prelude.{◌≡◌, ◌≤◌, ℕ, ◌+◌, ◌-◌, ◌%◌, Bool, IfSome, List, length, map, Some, slice_index_or}
use Rattle.std.specs.List.{AllByRecursion}
use Rattle.mp_guarded.specs.Candidates.{needed_before}
use Rattle.mp_model.specs.Guard.{Guard, greens_at}
use Rattle.mp_model.specs.GuardedChoice.{guarded_stage, no_account}
use Rattle.mp_model.specs.GuardedRun.{Account, IsCandidate, is_green, owed_in, paid}
use Rattle.mp_model.specs.Network.{Network, Junction, junction_at, junction_numbers, junction_of_movement, movement_numbers, entry}

-- This is the account of junction j, from a list of one per junction.
abbrev pub account_among : List Account → ℕ → Account
account_among accounts j = slice_index_or accounts (j - 1) no_account

-- An account is in order before period t where each stage has its number, the stage of the period before is one of the junction, and what the junction needs fits into the rest of the cycle.
pub record IsInOrder (guard : Guard) (j : Junction) (t : ℕ) (account : Account) : Type 0 where
  pub one_each : length account.owed ≡ length j.stages
  pub known : IfSome account.before (λ r. (1 ≤ r) × (r ≤ length j.stages))
  pub fits : needed_before guard.lost account.owed account.before + t % guard.cycle ≤ guard.cycle

-- Each junction has an account, and all are in order.
pub record AreInOrder (net : Network) (guard : Guard) (t : ℕ) (accounts : List Account) : Type 0 where
  pub size : length accounts ≡ length net.junctions
  pub each : AllByRecursion (λ j. IsInOrder guard (junction_at net j) t (account_among accounts j)) (junction_numbers net)

-- These are the stages that the junctions take in period t by these counts.
abbrev pub stages_by : Network → Guard → (ℕ → ℕ) → ℕ → List Account → List ℕ
stages_by net guard counts t accounts = map (λ j. guarded_stage net guard (junction_at net j) counts t (account_among accounts j)) (junction_numbers net)

-- Each junction takes a candidate.
abbrev pub AreCandidates : Network → Guard → (ℕ → ℕ) → ℕ → List Account → List ℕ → Type 0
AreCandidates net guard counts t accounts stages = AllByRecursion (λ j. IsCandidate guard (junction_at net j) counts t (account_among accounts j) (entry stages j)) (junction_numbers net)

-- Each junction takes one of its stages.
abbrev pub AreKnown : Network → List ℕ → Type 0
AreKnown net stages = AllByRecursion (λ j. (1 ≤ entry stages j) × (entry stages j ≤ length (junction_at net j).stages)) (junction_numbers net)

-- The stage of the period before of each junction, if there was one, is one of its stages.
abbrev pub AreBefore : Network → List Account → Type 0
AreBefore net accounts = AllByRecursion (λ j. IfSome (account_among accounts j).before (λ r. (1 ≤ r) × (r ≤ length (junction_at net j).stages))) (junction_numbers net)

-- This is the account of junction j after period t with these counts and stages.
abbrev pub account_after : Network → Guard → (ℕ → ℕ) → ℕ → List Account → List ℕ → ℕ → Account
account_after net guard counts t accounts stages j =
    record { owed = owed_in guard.cycle (greens_at guard j) (t + 1) (paid guard.lost (junction_at net j) counts (account_among accounts j) (entry stages j)); before = Some (entry stages j) }

-- These are the accounts after period t with these counts and stages.
abbrev pub accounts_after : Network → Guard → (ℕ → ℕ) → ℕ → List Account → List ℕ → List Account
accounts_after net guard counts t accounts stages = map (account_after net guard counts t accounts stages) (junction_numbers net)

-- Movement k is green where the junctions take these stages.
abbrev pub is_green_under : Network → Guard → List Account → List ℕ → ℕ → Bool
is_green_under net guard accounts stages k =
    let j = junction_of_movement net k in is_green guard.lost (junction_at net j) (account_among accounts j).before (entry stages j) k

-- These are the flags of the movements that are green.
abbrev pub green_flags : Network → Guard → List Account → List ℕ → List Bool
green_flags net guard accounts stages = map (is_green_under net guard accounts stages) (movement_numbers net)
