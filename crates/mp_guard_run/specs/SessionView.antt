-- What a session under a guard shows, and what its type keeps.
use Rattle.std.specs.Prelude.{◌≡◌, length}
use Rattle.mp_guard_run.specs.Session.{Guarded, IsGuarding}
use Rattle.mp_guard_run.specs.declared.session.GuardSession.TheInside.{Inside}

-- A session shows its network and guard, its bounds and waits, where its run stands, the accounts, and the last stages.
abbrev pub guarded_of : Inside → Guarded
guarded_of s = record {
  net = s.net.now;
  guard = s.guard.now;
  bounds = s.bounds.items;
  waits = s.waits.items;
  at = s.state;
  accounts = s.owed;
  stages = s.stages.items;
}

-- A session keeps its guard, and has room for a count and a flag for each movement.
pub record IsSession (s : Inside) : Type 0 where
  pub guarding : IsGuarding (guarded_of s)
  pub room : length s.counts.items ≡ length s.net.now.movements
  pub places : length s.green.items ≡ length s.net.now.movements
