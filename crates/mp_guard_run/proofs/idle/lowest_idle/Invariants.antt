use Rattle.std.proofs.Common.{length}
use Rattle.mp_model.specs.GuardedRun.{is_idle}
use Rattle.mp_model.specs.Network.{junction_at, entry}
use Rattle.mp_press.specs.Queues.{naturals}
use Rattle.mp_guard_run.proofs.Lists.{Finding}
use Rattle.mp_guard_run.proofs.idle.lowest_idle.Given as goal

abbrev pub invariant-loop-i : goal.invariant-loop-i
invariant-loop-i l = Finding (is_idle (junction_at l.net l.j) (entry (naturals l.counts)) l.owed) (length (junction_at l.net l.j).stages) l.i
