-- What the code's bounds come to.
use Rattle.std.specs.Prelude.{◌≡◌, ℕ, ◌+◌, ◌*◌, ◌/◌, max, ℤ, pos, List, map, Some, None, Result, Ok, Err}
use Rattle.mp_model.specs.Network.{Network}
use Rattle.mp_model.specs.Bounds.{queue_threshold, greatest_drift, start_drift, AreBounds, HasRoom}
use Rattle.mp_flow.specs.declared.network.Place.TheVariants.{Flow, Game, Adjoint, Vector, Mix, Certificate, Bound, Room}
use Rattle.mp_flow.specs.declared.network.CalcFault.{CalcFault}
use Rattle.mp_flow.specs.declared.network.CalcFault.TheVariants.{Overflow, PivotLimit, NoMemory}
use Rattle.mp_drift.specs.declared.queue_bounds.QueueBounds.{QueueBounds}
use Rattle.mp_drift.specs.Stated.{unit_of, credit_sum, greatest_under, stated_greatest}

-- These are the queue threshold and the greatest drift value from a drift constant and a factor under the slack E/D, and the stated calculation finds them.
pub record IsReached (net : Network) (factor drift E D total vmax : ℕ) : Type 0 where
  pub total_is : total ≡ D * drift / (factor * E)
  pub vmax_is : vmax ≡ max ((unit_of net * total + credit_sum net) * (unit_of net * total + credit_sum net) + drift) (start_drift net)
  pub stated : greatest_under net factor drift E D ≡ Some vmax

-- The stated calculation finds the greatest drift value under the slack E/D: nothing in it exceeds 128 bits.
abbrev pub FindsGreatest : Network → ℕ → ℕ → Type 0
FindsGreatest net E D = stated_greatest net E D ≡ Some (greatest_drift net E D)

-- These are the queue threshold and the greatest drift value under the slack E/D, and the stated calculation finds them.
pub record IsFound (net : Network) (E D total vmax : ℕ) : Type 0 where
  pub total_is : total ≡ queue_threshold net E D
  pub vmax_is : vmax ≡ greatest_drift net E D
  pub stated : FindsGreatest net E D

-- The numbers are the bounds of the movements under the slack E/D, and each is at most 2^62.
pub record HoldsBounds (net : Network) (E D : ℕ) (numbers : List ℤ) : Type 0 where
  pub bounds : List ℕ
  pub listed : numbers ≡ map pos bounds
  pub are : AreBounds net E D bounds
  pub room : HasRoom bounds

-- The greatest drift value is found, and then some bound of a movement is above 2^62.
pub record HasNoRoom (net : Network) (E D : ℕ) : Type 0 where
  pub found : FindsGreatest net E D
  pub bounds : List ℕ
  pub are : AreBounds net E D bounds
  pub no_room : ¬ HasRoom bounds

-- The stated calculation finds the greatest drift value where the bounds are given, and exceeds 128 bits where the fault says so; the other fault of the calculation is a bound without room.
abbrev pub EndsAs : Network → ℕ → ℕ → Result QueueBounds CalcFault → Type 0
EndsAs net E D (Ok found) = FindsGreatest net E D
EndsAs net E D (Err (Overflow Bound)) = stated_greatest net E D ≡ None
EndsAs net E D (Err (Overflow Room)) = HasNoRoom net E D
EndsAs net E D (Err (Overflow Flow)) = ⊥
EndsAs net E D (Err (Overflow (Game j))) = ⊥
EndsAs net E D (Err (Overflow Adjoint)) = ⊥
EndsAs net E D (Err (Overflow Vector)) = ⊥
EndsAs net E D (Err (Overflow (Mix j))) = ⊥
EndsAs net E D (Err (Overflow Certificate)) = ⊥
EndsAs net E D (Err (PivotLimit j)) = ⊥
EndsAs net E D (Err NoMemory) = Unit {0}
