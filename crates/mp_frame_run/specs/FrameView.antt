-- The frame as the code keeps it.
use Rattle.std.specs.Prelude.{◌≡◌, ◌≤◌, ℕ, true, false, length, map}
use Rattle.mp_model.specs.Frames.{is_chosen}
use Rattle.mp_model.specs.Network.{Network, entry, movement_numbers}
use Rattle.mp_model.specs.Step.{AreStages}
use Rattle.mp_press.specs.Weighed.{IsCacheOf}
use Rattle.mp_step.specs.Standing.{Standing}
use Rattle.mp_frame_run.specs.FrameNow.{FrameNow, begins_at}
use Rattle.mp_frame_run.specs.declared.frame.Frame.{Frame}

-- A frame shows its first queues, its stages, and those of the frame before.
abbrev pub shown : Frame → FrameNow
shown frame = record { first = frame.cache.counts; stages = frame.stages.items; before = frame.before.items }

-- The cache is one of the network; where the next period begins a frame it stands for the queues, and else the movements are marked that the stages and the first queues choose; there is a stage for each junction, and it is one of its stages from the first period on.
pub record IsSet (net : Network) (F : ℕ) (st : Standing) (frame : Frame) : Type 0 where
  pub cache : IsCacheOf net frame.cache
  pub fresh : begins_at F st ≡ true → frame.cache.counts ≡ st.queues
  pub chosen : begins_at F st ≡ false → frame.chosen.items ≡ map (is_chosen net frame.stages.items (entry frame.cache.counts)) (movement_numbers net)
  pub each : length frame.stages.items ≡ length net.junctions
  pub stages : 1 ≤ st.period → AreStages net.junctions frame.stages.items
