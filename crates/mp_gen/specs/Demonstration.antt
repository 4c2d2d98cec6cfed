-- The run of a demonstration.
use Rattle.std.specs.Prelude.{◌≡◌, ℕ, List, [], ◌∷◌, ◌++◌, length}
use Rattle.std.specs.List.{flat_map}
use Rattle.rand_pcg.specs.Lcg.{Lcg}
use Rattle.mp_model.specs.Network.{Network, fed}
use Rattle.mp_model.specs.Arrivals.{IsPermitted}
use Rattle.mp_model.specs.Step.{State}
use Rattle.mp_model.specs.Run.{opening, advance, run, state_after}
use Rattle.mp_step.specs.Standing.{Standing, Stands}
use Rattle.mp_step.specs.Taken.{HasTaken}
use Rattle.mp_model.specs.Load.{greatest as greatest_of}
use Rattle.mp_gen.specs.declared.demonstration.TheConstants.{PERIODS}
use Rattle.mp_gen.specs.DemoArrivals.{IsDrawn, IsDemonstration}

-- These are all queues of all states of the run over these arrivals.
abbrev pub queues_of_run : Network → List (List ℕ) → List ℕ
queues_of_run net A = flat_map (λ (state : State). state.queues) (run net A)

-- This is the greatest queue of the run over these arrivals.
abbrev pub greatest_queue : Network → List (List ℕ) → ℕ
greatest_queue net A = greatest_of (queues_of_run net A)

-- The demonstration n was shown on a network: 2^20 periods of its arrivals, which are permitted, were closed, the run stands after them, and this is its greatest queue.
pub record Demonstrated (net : Network) (n : ℕ) (at : Standing) (greatest : ℕ) : Type 0 where
  pub arrivals : List (List ℕ)
  pub periods : length arrivals ≡ PERIODS
  pub drawn : IsDemonstration n arrivals
  pub permitted : IsPermitted net arrivals
  pub stands : Stands net at (state_after net (opening net) arrivals)
  pub greatest_is : greatest ≡ greatest_queue net arrivals

-- A period was closed with the next arrivals, which the generator gives after any arrivals that the run had taken.
pub record ClosesNext (net : Network) (old new : Standing) (words left : Lcg) : Type 0 where
  pub counts : List ℕ
  pub drawn : (A : List (List ℕ)) → HasTaken net old A → IsDrawn net A (fed net) words counts left
  pub taken : (A : List (List ℕ)) → HasTaken net old A → HasTaken net new (A ++ counts ∷ [])
  pub step : (state : State) → Stands net old state → Stands net new (advance net counts state)
