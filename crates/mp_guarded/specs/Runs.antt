-- The laws on the guarded run by its own queues.
use Rattle.std.specs.Prelude.{◌≤◌, ℕ, ◌+◌, ◌*◌, List}
use Rattle.std.specs.List.{AllByRecursion}
use Rattle.mp_model.specs.Arrivals.{IsPermitted}
use Rattle.mp_model.specs.Guard.{Guard, Guards, CarryBursts, Holds, red}
use Rattle.mp_model.specs.GuardedChoice.{GuardedState, account_in, guarded_run, guarded_stage}
use Rattle.mp_model.specs.GuardedRun.{IsCandidate}
use Rattle.mp_model.specs.Network.{Network, junction_at, junction_numbers, movement_numbers}
use Rattle.mp_model.specs.NetworkRules.{IsNetwork}
use Rattle.mp_model.specs.Step.{queue}

-- In this state the stage that each junction takes by its own queues is a candidate.
abbrev pub TakesCandidates : Network → Guard → GuardedState → Type 0
TakesCandidates net guard now =
    AllByRecursion (λ j. IsCandidate guard (junction_at net j) (queue now.state) now.state.period (account_in now j) (guarded_stage net guard (junction_at net j) (queue now.state) now.state.period (account_in now j))) (junction_numbers net)

-- In this state the queue of each movement is at most each number that is a bound for it under the bursts.
abbrev pub IsBounded : Network → Guard → (ℕ → ℕ) → List ℕ → GuardedState → Type 0
IsBounded net guard surplus bursts now =
    AllByRecursion (λ k. (bound : ℕ) → Holds net guard (surplus k) bursts k (1 + 2 * red net guard k) bound → queue now.state k ≤ bound) (movement_numbers net)

-- In each state of the guarded run over any arrivals each junction takes a candidate.
abbrev pub GuardedStagesLaw : Type 0
GuardedStagesLaw = (net : Network) → IsNetwork net → (guard : Guard) → Guards net guard → (A : List (List ℕ)) → AllByRecursion (TakesCandidates net guard) (guarded_run net guard A)

-- Over permitted arrivals of any length no queue of the guarded run is above its bound.
abbrev pub GuardedRunLaw : Type 0
GuardedRunLaw = (net : Network) → IsNetwork net → (guard : Guard) → Guards net guard → (surplus : ℕ → ℕ) (bursts : List ℕ) → CarryBursts net guard surplus bursts → (A : List (List ℕ)) → IsPermitted net A →
    AllByRecursion (IsBounded net guard surplus bursts) (guarded_run net guard A)
