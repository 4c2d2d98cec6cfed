-- The constants of a network as the code keeps them.
use Rattle.std.specs.Prelude.{◌≡◌, pos, map}
use Rattle.mp_model.specs.Network.{Network, movement_numbers}
use Rattle.mp_model.specs.Bounds.{credit_term, step_term, drift_constant}
use Rattle.mp_drift.specs.declared.numbers.DriftNumbers.{DriftNumbers}

-- Numbers are the constants of a network where they are the credit-and-burst terms and the step terms of its movements, and its drift constant.
pub record AreConstants (net : Network) (numbers : DriftNumbers) : Type 0 where
  pub credits : numbers.k ≡ map (λ k. pos (credit_term net k)) (movement_numbers net)
  pub steps : numbers.m ≡ map (λ k. pos (step_term net k)) (movement_numbers net)
  pub drift : numbers.b ≡ pos (drift_constant net)
