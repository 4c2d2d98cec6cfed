-- Which stage a junction takes under a guard.
use Rattle.std.specs.Prelude.{◌≡◌, ◌≤◌, ◌<◌, ◌⊎◌, ℕ, ◌*◌, List, Some}
use Rattle.std.specs.List.{AllByRecursion}
use Rattle.mp_model.specs.Guard.{Guard}
use Rattle.mp_model.specs.GuardedChoice.{GuardedState, account_in, guarded_run, guarded_stage}
use Rattle.mp_model.specs.GuardedRun.{Account, IsCandidate}
use Rattle.mp_model.specs.Network.{Network, Junction, junction_at, junction_numbers, stage_at}
use Rattle.mp_model.specs.Pressure.{pressure}
use Rattle.mp_model.specs.Step.{queue}

-- Stage s is a candidate whose pressure is at least that of each candidate, and above that of each candidate of lower number.
pub record IsGreatestCandidate (net : Network) (guard : Guard) (j : Junction) (q : ℕ → ℕ) (t : ℕ) (account : Account) (s : ℕ) : Type 0 where
  pub candidate : IsCandidate guard j q t account s
  pub most : (r : ℕ) → IsCandidate guard j q t account r → pressure net q (stage_at j r) ≤ pressure net q (stage_at j s)
  pub first : (r : ℕ) → IsCandidate guard j q t account r → r < s → pressure net q (stage_at j r) < pressure net q (stage_at j s)

-- Stage s stays: changes lose a period, it is the stage of the period before and a candidate, and twice its pressure is at least that of the best.
pub record Stays (net : Network) (guard : Guard) (j : Junction) (q : ℕ → ℕ) (t : ℕ) (account : Account) (best s : ℕ) : Type 0 where
  pub loses : 1 ≤ guard.lost
  pub before : account.before ≡ Some s
  pub candidate : IsCandidate guard j q t account s
  pub half : pressure net q (stage_at j best) ≤ 2 * pressure net q (stage_at j s)

-- A junction takes the greatest candidate, but the stage of the period before where that stays.
pub record TakesGreatest (net : Network) (guard : Guard) (j : Junction) (q : ℕ → ℕ) (t : ℕ) (account : Account) (s : ℕ) : Type 0 where
  pub best : ℕ
  pub greatest : IsGreatestCandidate net guard j q t account best
  pub taken : Stays net guard j q t account best s ⊎ ((s ≡ best) × ((r : ℕ) → ¬ Stays net guard j q t account best r))

-- In this state each junction takes its stage so by its own queues.
abbrev pub TakeGreatest : Network → Guard → GuardedState → Type 0
TakeGreatest net guard now =
    AllByRecursion (λ j. TakesGreatest net guard (junction_at net j) (queue now.state) now.state.period (account_in now j) (guarded_stage net guard (junction_at net j) (queue now.state) now.state.period (account_in now j))) (junction_numbers net)

-- So it is in each state of the guarded run over any arrivals.
abbrev pub StagesAreGreatest : Network → Guard → Type 0
StagesAreGreatest net guard = (A : List (List ℕ)) → AllByRecursion (TakeGreatest net guard) (guarded_run net guard A)
