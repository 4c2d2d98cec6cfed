-- What the bounds of frames come to in code.
use Rattle.std.specs.Prelude.{◌≡◌, ℕ, ◌-◌, ◌*◌, ℤ, pos, List, map, Option, Some, None, Result, Ok, Err}
use Rattle.mp_model.specs.Network.{Network}
use Rattle.mp_model.specs.Bounds.{HasRoom}
use Rattle.mp_model.specs.Frames.{frame_constant, frame_threshold, greatest_frame_drift, AreFrameBounds}
use Rattle.mp_flow.specs.declared.network.Place.TheVariants.{Flow, Game, Adjoint, Vector, Mix, Certificate, Bound, Room}
use Rattle.mp_flow.specs.declared.network.CalcFault.{CalcFault}
use Rattle.mp_flow.specs.declared.network.CalcFault.TheVariants.{Overflow, PivotLimit, NoMemory}
use Rattle.mp_drift.specs.declared.queue_bounds.QueueBounds.{QueueBounds}
use Rattle.mp_drift.specs.Stated.{unit_of, greatest_under}

-- The factor of frames is twice the square of the share total times the rate length, times F - 1.
abbrev pub frame_factor : Network → ℕ → ℕ
frame_factor net F = 2 * (unit_of net * unit_of net) * (F - 1)

-- This is the greatest drift value at the beginning of a frame under the slack E/D by the stated calculation, from the drift constant and the factor of frames, and nothing where it exceeds 128 bits. Neither of the two ever exceeds them, nor does a bound.
abbrev pub stated_frame_greatest : Network → ℕ → ℕ → ℕ → Option ℕ
stated_frame_greatest net F E D = greatest_under net (frame_factor net F) (frame_constant net F) E D

-- The stated calculation finds the greatest drift value of frames under the slack E/D: nothing in it exceeds 128 bits.
abbrev pub FindsFrameGreatest : Network → ℕ → ℕ → ℕ → Type 0
FindsFrameGreatest net F E D = stated_frame_greatest net F E D ≡ Some (greatest_frame_drift net F E D)

-- The greatest drift value of frames under the slack E/D exceeds 128 bits.
abbrev pub PassesFrameBound : Network → ℕ → ℕ → ℕ → Type 0
PassesFrameBound net F E D = stated_frame_greatest net F E D ≡ None

-- These are the queue threshold and the greatest drift value of frames under the slack E/D, and the stated calculation finds them.
pub record IsFrameFound (net : Network) (F E D total vmax : ℕ) : Type 0 where
  pub total_is : total ≡ frame_threshold net F E D
  pub vmax_is : vmax ≡ greatest_frame_drift net F E D
  pub stated : FindsFrameGreatest net F E D

-- The numbers are the bounds of the movements for frames under the slack E/D, and each is at most 2^62.
pub record HoldsFrameBounds (net : Network) (F E D : ℕ) (numbers : List ℤ) : Type 0 where
  pub bounds : List ℕ
  pub listed : numbers ≡ map pos bounds
  pub are : AreFrameBounds net F E D bounds
  pub room : HasRoom bounds

-- The greatest drift value of frames is found, and then some bound of a movement is above 2^62.
pub record HasNoFrameRoom (net : Network) (F E D : ℕ) : Type 0 where
  pub found : FindsFrameGreatest net F E D
  pub bounds : List ℕ
  pub are : AreFrameBounds net F E D bounds
  pub no_room : ¬ HasRoom bounds

-- The stated calculation finds the greatest drift value where the bounds are given, and exceeds 128 bits where the fault says so; the other fault of the calculation is a bound without room.
abbrev pub EndsAsFrames : Network → ℕ → ℕ → ℕ → Result QueueBounds CalcFault → Type 0
EndsAsFrames net F E D (Ok found) = FindsFrameGreatest net F E D
EndsAsFrames net F E D (Err (Overflow Bound)) = PassesFrameBound net F E D
EndsAsFrames net F E D (Err (Overflow Room)) = HasNoFrameRoom net F E D
EndsAsFrames net F E D (Err (Overflow Flow)) = ⊥
EndsAsFrames net F E D (Err (Overflow (Game j))) = ⊥
EndsAsFrames net F E D (Err (Overflow Adjoint)) = ⊥
EndsAsFrames net F E D (Err (Overflow Vector)) = ⊥
EndsAsFrames net F E D (Err (Overflow (Mix j))) = ⊥
EndsAsFrames net F E D (Err (Overflow Certificate)) = ⊥
EndsAsFrames net F E D (Err (PivotLimit j)) = ⊥
EndsAsFrames net F E D (Err NoMemory) = Unit {0}
