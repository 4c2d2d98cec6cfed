-- The surpluses of all movements.
use Rattle.std.specs.Prelude.{◌≡◌, List, length, ℕ}
use Rattle.std.specs.List.{AllByRecursion}
use Rattle.mp_model.specs.Guard.{IsSurplus}
use Rattle.mp_model.specs.Network.{Network, movement_numbers, entry}

-- There is a number per movement, and it is the movement's surplus.
pub record AreSurpluses (net : Network) (surpluses : List ℕ) : Type 0 where
  pub count : length surpluses ≡ length net.movements
  pub each : AllByRecursion (λ k. IsSurplus net k (entry surpluses k)) (movement_numbers net)
