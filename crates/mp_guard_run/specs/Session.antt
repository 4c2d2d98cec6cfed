-- What a session under a guard keeps: its guard, and a run with accounts in order.
use Rattle.std.specs.Prelude.{◌≡◌, ℕ, List}
use Rattle.mp_model.specs.Guard.{Guard, Guards}
use Rattle.mp_model.specs.GuardedChoice.{GuardedState}
use Rattle.mp_model.specs.GuardedRun.{Account}
use Rattle.mp_model.specs.Network.{Network}
use Rattle.mp_model.specs.NetworkRules.{IsAcceptable}
use Rattle.mp_step.specs.Standing.{Standing, IsOn, Stands}
use Rattle.mp_guard_run.specs.Accounts.{AreBefore, AreInOrder}

-- A session has a network, a guard, the bounds and waits of the movements, where its run stands, the accounts of the junctions, and the stages of the last closed period.
pub record Guarded : Type 0 where
  pub net : Network
  pub guard : Guard
  pub bounds : List ℕ
  pub waits : List ℕ
  pub at : Standing
  pub accounts : List Account
  pub stages : List ℕ

-- The guard guards the network, the run stands on it, and the accounts are in order before the next period.
pub record IsGuarding (s : Guarded) : Type 0 where
  pub acceptable : IsAcceptable s.net
  pub guards : Guards s.net s.guard
  pub on : IsOn s.net s.at
  pub order : AreInOrder s.net s.guard s.at.period s.accounts
  pub known : AreBefore s.net s.accounts

-- A session stands at a guarded state where its run stands at the state, and the accounts are the same.
pub record StandsAt (s : Guarded) (now : GuardedState) : Type 0 where
  pub stands : Stands s.net s.at now.state
  pub paid : s.accounts ≡ now.accounts
