use Rattle.std.proofs.Common.{◌≡◌, ◌+◌, ◌<◌, ◌≤◌, ℕ}
use Rattle.std.specs.Prelude.{slice_index_or}
use Rattle.mp_model.specs.GuardedChoice.{no_account}
use Rattle.mp_model.specs.Network.{entry}
use Rattle.mp_press.specs.Queues.{naturals}
use Rattle.mp_guard_run.specs.Accounts.{account_after}
use Rattle.mp_guard_run.proofs.owed.settle_all.Given as goal

abbrev pub invariant-loop-i : goal.invariant-loop-i
invariant-loop-i l = record {
  done : (m : ℕ) → m < l.i → slice_index_or l.accounts m no_account ≡ account_after l.net l.guard (entry (naturals l.counts)) l.period l.initial.accounts l.stages (m + 1);
  rest : (m : ℕ) → l.i ≤ m → slice_index_or l.accounts m no_account ≡ slice_index_or l.initial.accounts m no_account;
}
