use Rattle.std.proofs.Common.{◌≡◌, map, length}
use Rattle.mp_model.specs.GuardedChoice.{guarded_stage}
use Rattle.mp_model.specs.Network.{entry, junction_at, numbers_to}
use Rattle.mp_press.specs.Queues.{naturals}
use Rattle.mp_guard_run.specs.Accounts.{account_among}
use Rattle.mp_guard_run.proofs.owed.Owed.choose.Given as goal

abbrev pub invariant-loop-i : goal.invariant-loop-i
invariant-loop-i l = record {
  value : l.into.items ≡ map (λ j. guarded_stage l.net l.guard (junction_at l.net j) (entry (naturals l.counts)) l.period (account_among l.self j)) (numbers_to l.i);
  size : length l.into.items ≡ l.i;
}
