-- What a state shows, and what it keeps.
use Rattle.std.specs.Prelude.{◌≡◌, length}
use Rattle.mp_step.specs.Standing.{Standing}
use Rattle.mp_step.specs.TrafficView.{stands, IsSound}
use Rattle.mp_step.specs.declared.state.State.TheInside.{Inside}

-- A state shows where its traffic stands.
abbrev pub standing_of : Inside → Standing
standing_of s = stands s.traffic

-- Its traffic is sound, and there is a place for what each movement passes.
pub record IsKept (s : Inside) : Type 0 where
  pub traffic : IsSound s.traffic
  pub passes : length s.passes.items ≡ length s.traffic.spans.queues
