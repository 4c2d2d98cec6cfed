-- What a session shows, and what its type keeps.
use Rattle.std.specs.Prelude.{◌≡◌}
use Rattle.mp_press.specs.Weighed.{IsCacheOf}
use Rattle.mp_drift.specs.Session.{Bounded, IsBounded}
use Rattle.mp_drift.specs.declared.session.Session.TheInside.{Inside}

-- A session shows its network, slack and bounds, where its run stands, and the last stages.
abbrev pub bounded_of : Inside → Bounded
bounded_of s = record {
  net = s.net.now;
  slack = s.slack;
  bounds = s.bound;
  at = s.state;
  stages = s.stages.items;
}

-- A session keeps its bounds, and its cache is one of its network and stands for the queues.
pub record IsSession (s : Inside) : Type 0 where
  pub bounded : IsBounded (bounded_of s)
  pub cache : IsCacheOf s.net.now s.cache
  pub counts : s.cache.counts ≡ s.state.queues
