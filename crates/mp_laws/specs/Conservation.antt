-- The laws that no vehicle is lost.
use Rattle.std.specs.Prelude.{◌≡◌, ℕ, ◌+◌, List}
use Rattle.std.specs.List.{AllByRecursion}
use Rattle.mp_model.specs.Network.{Network}
use Rattle.mp_model.specs.NetworkRules.{IsNetwork}
use Rattle.mp_model.specs.Run.{run}
use Rattle.mp_model.specs.Step.{State, queued, step}

-- After a period with any stages, what entered is what departed and what is queued, where it was before.
abbrev pub StepConservationLaw : Type 0
StepConservationLaw = (net : Network) → IsNetwork net → (stages : List ℕ) (arrivals : ℕ → ℕ) (state : State) → state.total_in ≡ state.total_out + queued net state →
    (step net stages arrivals state).total_in ≡ (step net stages arrivals state).total_out + queued net (step net stages arrivals state)

-- In each state of a run what entered is what departed and what is queued.
abbrev pub ConservationLaw : Type 0
ConservationLaw = (net : Network) → IsNetwork net → (A : List (List ℕ)) → AllByRecursion (λ state. state.total_in ≡ state.total_out + queued net state) (run net A)
