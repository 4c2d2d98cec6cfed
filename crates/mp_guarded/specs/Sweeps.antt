-- The law on the bursts that sweeps find.
use Rattle.std.specs.Prelude.{◌≤◌, ℕ, List}
use Rattle.std.specs.List.{AllByRecursion}
use Rattle.mp_model.specs.Guard.{Guard, Guards, CarryBursts, IsGuardedBound}
use Rattle.mp_model.specs.GuardedBursts.{swept, AreAtRest, guarded_bound}
use Rattle.mp_model.specs.Lights.{HasSurplus}
use Rattle.mp_model.specs.Network.{Network, movement_numbers, entry}
use Rattle.mp_model.specs.Lights.{HasSurplus}
use Rattle.mp_model.specs.NetworkRules.{IsNetwork}

-- The bursts carry those before them, no bursts that do so are smaller at any movement, and under them the printed bound is the least.
pub record AreLeastBursts (net : Network) (guard : Guard) (surplus : ℕ → ℕ) (b : List ℕ) : Type 0 where
  pub carry : CarryBursts net guard surplus b
  pub least : (c : List ℕ) → CarryBursts net guard surplus c → AllByRecursion (λ k. entry b k ≤ entry c k) (movement_numbers net)
  pub bounds : AllByRecursion (λ k. IsGuardedBound net guard surplus b k (guarded_bound net guard surplus b k)) (movement_numbers net)

-- Where sweeps from a list of zeros have come to rest, the bursts are the least.
abbrev pub SweepsLaw : Type 0
SweepsLaw = (net : Network) → IsNetwork net → (guard : Guard) → Guards net guard → (surplus : ℕ → ℕ) → AllByRecursion (λ k. HasSurplus net k (surplus k)) (movement_numbers net) → (n : ℕ) →
    AreAtRest net guard surplus (swept net guard surplus n) → AreLeastBursts net guard surplus (swept net guard surplus n)
