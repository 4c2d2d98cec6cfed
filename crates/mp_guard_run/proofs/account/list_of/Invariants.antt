use Rattle.std.proofs.Common.{◌≡◌, length, take}
use Rattle.mp_guard_run.proofs.account.list_of.Given as goal

abbrev pub invariant-loop-n : goal.invariant-loop-n
invariant-loop-n l = record {
  items : l.owed.items ≡ take l.n-index l.greens;
  size : length l.owed.items ≡ l.n-index;
}
