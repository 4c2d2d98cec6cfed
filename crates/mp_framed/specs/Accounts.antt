-- The account that a run by frames has of its frame.
use Rattle.std.specs.Prelude.{◌≡◌, ◌≤◌, ◌%◌, ℕ, true, false}
use Rattle.mp_laws.specs.Periods.{IsWithin, phase_of}
use Rattle.mp_model.specs.DriftValue.{drift_value}
use Rattle.mp_model.specs.Frames.{FramedState, begins, greatest_frame_drift}
use Rattle.mp_model.specs.Network.{Network, entry}
use Rattle.mp_model.specs.Step.{queue}
use Rattle.mp_framed.specs.Frames.{IsPart}

-- With these bucket levels m periods of a frame have passed, at whose beginning the drift value was at most its greatest under the slack E/D of the frame network.
pub record InFrame (net : Network) (F E D : ℕ) (frame : FramedState) (level : ℕ → ℕ) (m : ℕ) : Type 0 where
  pub pass : ℕ → ℕ
  pub arrivals : ℕ → ℕ
  pub phase : ℕ → ℕ
  pub first_level : ℕ → ℕ
  pub part : IsPart net frame.stages m pass arrivals (entry frame.first) phase first_level (queue frame.state) (phase_of net frame.state) level
  pub within : IsWithin net first_level
  pub top : drift_value net (entry frame.first) phase first_level ≤ greatest_frame_drift net F E D

-- Between two periods either the next begins a frame, and the drift value is at most its greatest, or the periods of this frame so far have passed.
pub record Keeps (net : Network) (F E D : ℕ) (now : FramedState) (level : ℕ → ℕ) : Type 0 where
  pub fresh : begins F now ≡ true → drift_value net (queue now.state) (phase_of net now.state) level ≤ greatest_frame_drift net F E D
  pub inside : begins F now ≡ false → InFrame net F E D now level (now.state.period % F)
