use Rattle.std.proofs.Common.{◌≡◌, ◌+◌, ◌<◌, ℕ, false}
use Rattle.std.specs.Prelude.{slice_index_or}
use Rattle.mp_guard_run.specs.Accounts.{is_green_under}
use Rattle.mp_guard_run.proofs.owed.Owed.put_green.Given as goal

abbrev pub invariant-loop-i : goal.invariant-loop-i
invariant-loop-i l = (m : ℕ) → m < l.i → slice_index_or l.green m false ≡ is_green_under l.net l.guard l.self l.stages (m + 1)
