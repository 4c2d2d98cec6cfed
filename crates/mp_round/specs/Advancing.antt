-- What a closed period does to where the run stands.
use Rattle.std.specs.Prelude.{◌≡◌, ◌+◌, ◌++◌, ℕ, List, [], ◌∷◌}
use Rattle.mp_model.specs.Arrivals.{arrivals_of}
use Rattle.mp_model.specs.Network.{Network}
use Rattle.mp_model.specs.Step.{State, step}
use Rattle.mp_step.specs.Standing.{Standing, Stands}
use Rattle.mp_step.specs.Taken.{HasTaken}

-- A period of these stages and arrivals leads from one standing to another: its arrivals are taken behind those before, and a run that stood at a state stands at the step from there.
pub record Advances (net : Network) (old new : Standing) (stages counts : List ℕ) : Type 0 where
  pub taken : (A : List (List ℕ)) → HasTaken net old A → HasTaken net new (A ++ counts ∷ [])
  pub step : (state : State) → Stands net old state → Stands net new (step net stages (arrivals_of net counts) state)
  pub period : new.period ≡ old.period + 1
