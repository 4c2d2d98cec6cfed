-- The laws on how long a movement is without green under a guard.
use Rattle.std.specs.Prelude.{◌≡◌, ◌≤◌, ◌<◌, ℕ, ◌+◌, ◌*◌, Bool, true, List, ◌++◌, length}
use Rattle.std.specs.List.{AllByRecursion, list_any}
use Rattle.mp_model.specs.Guard.{Guard, Guards, red}
use Rattle.mp_model.specs.GuardedChoice.{GuardedState, account_in, guarded_run, guarded_stages}
use Rattle.mp_model.specs.GuardedRun.{IsCandidate, Play, account_of, green_in, is_green, stage_of}
use Rattle.mp_model.specs.Lights.{greens_in}
use Rattle.mp_model.specs.Network.{Network, entry, junction_at, junction_numbers, junction_of_movement, movement_numbers}
use Rattle.mp_model.specs.NetworkRules.{IsNetwork}
use Rattle.mp_model.specs.Step.{queue}
use Rattle.mp_guarded.specs.Greens.{IsCounted}

-- The wait of movement k is twice its red periods: those at the end of one cycle, and those at the beginning of the next.
abbrev pub wait_of : Network → Guard → ℕ → ℕ
wait_of net guard k = 2 * red net guard k

-- In period t of a play each junction takes a candidate.
abbrev pub PlaysCandidates : Network → Guard → Play → ℕ → Type 0
PlaysCandidates net guard play t = AllByRecursion (λ j. IsCandidate guard (junction_at net j) (play.counts t) t (account_of net guard play j t) (stage_of play j t)) (junction_numbers net)

-- In the first T periods of a play, movement k is green in one of any periods that come one after the other, one more than its wait, in each of which somebody of it is counted.
abbrev pub IsGreenWhereCounted : Network → Guard → Play → ℕ → ℕ → Type 0
IsGreenWhereCounted net guard play T k =
    (a : ℕ) → a + (wait_of net guard k + 1) ≤ T → IsCounted play.counts k a (wait_of net guard k + 1) → 1 ≤ greens_in (λ t. green_in net guard play t k) a (wait_of net guard k + 1)

-- Where the junctions take candidates, this holds of each movement, by any counts and over any arrivals.
abbrev pub PlayWaitLaw : Type 0
PlayWaitLaw = (net : Network) → IsNetwork net → (guard : Guard) → Guards net guard → (play : Play) (T : ℕ) → ((t : ℕ) → t < T → PlaysCandidates net guard play t) → AllByRecursion (IsGreenWhereCounted net guard play T) (movement_numbers net)

-- Movement k is green in the period that begins in this state: in the stage that is taken, and at a change also in that of the period before.
abbrev pub is_green_from : Network → Guard → ℕ → GuardedState → Bool
is_green_from net guard k now =
    let j = junction_of_movement net k in
    is_green guard.lost (junction_at net j) (account_in now j).before (entry (guarded_stages net guard (queue now.state) now) j) k

-- In every row of consecutive states of these that is one longer than the wait, and in each of which somebody waits at movement k, there is one from which it is green.
abbrev pub IsServedWithin : Network → Guard → ℕ → ℕ → List GuardedState → Type 0
IsServedWithin net guard k wait states =
    (before row after : List GuardedState) → states ≡ before ++ (row ++ after) → length row ≡ wait + 1 → AllByRecursion (λ now. 1 ≤ queue now.state k) row → list_any (is_green_from net guard k) row ≡ true

-- In the guarded run over these arrivals no movement with somebody waiting is without green longer than its wait.
abbrev pub KeepsWaits : Network → Guard → (ℕ → ℕ) → List (List ℕ) → Type 0
KeepsWaits net guard wait A = AllByRecursion (λ k. IsServedWithin net guard k (wait k) (guarded_run net guard A)) (movement_numbers net)

-- This holds over any arrivals, permitted or not.
abbrev pub GuardedWaitLaw : Type 0
GuardedWaitLaw = (net : Network) → IsNetwork net → (guard : Guard) → Guards net guard → (A : List (List ℕ)) → KeepsWaits net guard (wait_of net guard) A
