-- The frame that a run has beside where it stands.
use Rattle.std.specs.Prelude.{◌≡◌, ◌==◌, ◌%◌, ◌&&◌, ℕ, Bool, List, map}
use Rattle.mp_model.specs.Frames.{FramedState, in_frame}
use Rattle.mp_model.specs.Network.{Network, entry, junction_of_movement, movement_numbers}
use Rattle.mp_step.specs.OpenStep.{flag}
use Rattle.mp_step.specs.Standing.{Standing, Stands}

-- A run by frames has the queues at the beginning of the frame in which its next period is, the stages of the frame of its last period, and those of the frame before that one; the stages are 0 where there is no such frame.
pub record FrameNow : Type 0 where
  pub first : List ℕ
  pub stages : List ℕ
  pub before : List ℕ

-- The next period begins a frame.
abbrev pub begins_at : ℕ → Standing → Bool
begins_at F st = st.period % F == 0

-- A run by frames stands at a framed state where it stands at its state, with its stages and those of the frame before, and with the queues at the beginning of the frame in which the next period is.
pub record StandsFramed (net : Network) (F : ℕ) (st : Standing) (frame : FrameNow) (now : FramedState) : Type 0 where
  pub stands : Stands net st now.state
  pub first : frame.first ≡ (in_frame net F now).first
  pub stages : frame.stages ≡ now.stages
  pub before : frame.before ≡ now.before

-- These are the flags of the movements that pass in the first period of a frame: those that are chosen, at junctions that keep the stage of the frame before.
abbrev pub first_flags : Network → List ℕ → List ℕ → List Bool → List Bool
first_flags net before stages chosen = map (λ k. flag chosen k && entry before (junction_of_movement net k) == entry stages (junction_of_movement net k)) (movement_numbers net)
