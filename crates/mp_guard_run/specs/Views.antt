-- What an account of the program shows.
use Rattle.mp_model.specs.GuardedRun.{Account}
use Rattle.mp_guard_run.specs.declared.account.Account.TheInside.{Inside}

-- An account shows what each stage owes and the stage of the period before.
abbrev pub account_shown : Inside → Account
account_shown a = record { owed = a.owed.items; before = a.before }
