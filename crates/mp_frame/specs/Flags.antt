-- What may pass in a period of a frame, as a list of flags.
use Rattle.std.specs.Prelude.{◌≡◌, ℕ, Bool, List, map}
use Rattle.mp_model.specs.Arrivals.{arrivals_of}
use Rattle.mp_model.specs.Frames.{FramedState, framed_step, may_pass}
use Rattle.mp_model.specs.Network.{Network, movement_numbers}
use Rattle.mp_step.specs.OpenStep.{open_step}

-- These are the flags of the movements that may pass in the next period of a frame that has begun.
abbrev pub frame_flags : Network → ℕ → FramedState → List Bool
frame_flags net F frame = map (may_pass net F frame) (movement_numbers net)

-- The state after the period is that after one with these flags.
abbrev pub FrameFlagsLaw : Type 0
FrameFlagsLaw = (net : Network) (F : ℕ) (frame : FramedState) (counts : List ℕ) → (framed_step net F counts frame).state ≡ open_step net (frame_flags net F frame) (arrivals_of net counts) frame.state
