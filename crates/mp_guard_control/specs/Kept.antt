-- What the stages of the controller under a guard keep, by whatever counts of which a 0 is true.
use Rattle.std.specs.Prelude.{◌≡◌, ◌≤◌, ◌<◌, ℕ, ◌+◌, ◌*◌, Bool, List}
use Rattle.std.specs.List.{AllByRecursion}
use Rattle.mp_model.specs.Arrivals.{IsPermitted}
use Rattle.mp_model.specs.Guard.{Guard, Guards, CarryBursts, Holds, red}
use Rattle.mp_model.specs.GuardedRun.{Play, KeepsGuard, green_in, guarded_state, lights_of}
use Rattle.mp_model.specs.Lights.{IsWaiting, greens_in, lit_arrivals}
use Rattle.mp_model.specs.Network.{Network, movement_numbers}
use Rattle.mp_model.specs.NetworkRules.{IsNetwork}
use Rattle.mp_model.specs.Step.{queue}
use Rattle.mp_guarded.specs.Greens.{IsCounted}
use Rattle.mp_guarded.specs.Waits.{wait_of}
use Rattle.mp_guard_run.specs.Accounts.{is_green_under}
use Rattle.mp_guard_control.specs.Accounts.{accounts_before, stages_in}

-- In this play the junctions are told these counts and take the stages of the controller, over these arrivals.
abbrev pub controlled_play : Network → Guard → (ℕ → ℕ → ℕ) → (ℕ → List ℕ) → Play
controlled_play net guard counts arrivals = record { arrivals = arrivals; counts = counts; stages = stages_in net guard counts }

-- In the first T periods a movement whose count is 0 has nobody waiting.
abbrev pub AreZerosTrue : Network → Guard → Play → ℕ → Type 0
AreZerosTrue net guard play T = (t : ℕ) → t < T → AllByRecursion (λ k. play.counts t k ≡ 0 → queue (guarded_state net guard play t) k ≡ 0) (movement_numbers net)

-- The queue of movement k, at the beginning of each period.
abbrev pub queue_in : Network → Guard → Play → ℕ → ℕ → ℕ
queue_in net guard play k t = queue (guarded_state net guard play t) k

-- In the first T periods the queue of movement k is at most each number that is a bound for it under these bursts.
abbrev pub IsKeptBelow : Network → Guard → Play → ℕ → (ℕ → ℕ) → List ℕ → ℕ → Type 0
IsKeptBelow net guard play T surplus bursts k = (bound : ℕ) → Holds net guard (surplus k) bursts k (1 + 2 * red net guard k) bound → (t : ℕ) → t ≤ T → queue_in net guard play k t ≤ bound

-- In the first T periods one of any periods with somebody waiting, one more than the wait of movement k, is green.
abbrev pub IsGreenInTime : Network → Guard → Play → ℕ → ℕ → Type 0
IsGreenInTime net guard play T k = (a : ℕ) → a + (2 * red net guard k + 1) ≤ T → IsWaiting (queue_in net guard play k) a (2 * red net guard k + 1) → 1 ≤ greens_in (λ t. green_in net guard play t k) a (2 * red net guard k + 1)

-- In the first T periods the junctions keep to the guard, no queue is above its bound, and no movement with somebody waiting is without green longer than its wait.
pub record StaysGuarded (net : Network) (guard : Guard) (play : Play) (T : ℕ) : Type 0 where
  pub keeps : (t : ℕ) → t < T → KeepsGuard net guard play t
  pub bounds : (surplus : ℕ → ℕ) (bursts : List ℕ) → CarryBursts net guard surplus bursts → AllByRecursion (IsKeptBelow net guard play T surplus bursts) (movement_numbers net)
  pub waits : AllByRecursion (IsGreenInTime net guard play T) (movement_numbers net)

-- By any counts of which a 0 is true, and over any permitted arrivals, this holds of the stages of the controller.
abbrev pub StagesKeep : Network → Guard → Type 0
StagesKeep net guard = (counts : ℕ → ℕ → ℕ) (arrivals : ℕ → List ℕ) (T : ℕ) → (let play = controlled_play net guard counts arrivals in
    IsPermitted net (lit_arrivals (lights_of net guard play) T) → AreZerosTrue net guard play T → StaysGuarded net guard play T)

-- It holds under each guard of each network.
abbrev pub ControlledLaw : Type 0
ControlledLaw = (net : Network) → IsNetwork net → (guard : Guard) → Guards net guard → StagesKeep net guard

-- Movement k is green in period t where the junctions take the stages of the controller by these counts.
abbrev pub green_by : Network → Guard → (ℕ → ℕ → ℕ) → ℕ → ℕ → Bool
green_by net guard counts k t = is_green_under net guard (accounts_before net guard counts t) (stages_in net guard counts t) k

-- By any counts, true or not, movement k is green in one of any periods that come one after the other, one more than its wait, in each of which somebody of it is counted.
abbrev pub CountsKeepWaits : Network → Guard → Type 0
CountsKeepWaits net guard = (counts : ℕ → ℕ → ℕ) →
    AllByRecursion (λ k. (a : ℕ) → IsCounted counts k a (wait_of net guard k + 1) → 1 ≤ greens_in (green_by net guard counts k) a (wait_of net guard k + 1)) (movement_numbers net)

-- It holds under each guard of each network.
abbrev pub CountedWaitLaw : Type 0
CountedWaitLaw = (net : Network) → IsNetwork net → (guard : Guard) → Guards net guard → CountsKeepWaits net guard
