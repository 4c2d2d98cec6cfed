-- What the accounts of all junctions show.
use Rattle.std.specs.Prelude.{List}
use Rattle.mp_model.specs.GuardedRun.{Account}
use Rattle.mp_guard_run.specs.declared.owed.Owed.TheInside.{Inside}

-- All accounts are shown, in the order of the junctions.
abbrev pub accounts_shown : Inside → List Account
accounts_shown o = o.accounts.items
