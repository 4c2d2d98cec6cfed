use Rattle.std.proofs.Common.{◌==◌, ◌||◌}
use Rattle.mp_model.specs.Guard.{is_always_green}
use Rattle.mp_model.specs.Network.{junction_at, entry}
use Rattle.mp_press.specs.Queues.{naturals}
use Rattle.mp_guard_run.proofs.Lists.{Alls}
use Rattle.mp_guard_run.proofs.idle.are_quiet.Given as goal

abbrev pub invariant-loop-k : goal.invariant-loop-k
invariant-loop-k l = Alls (λ k. is_always_green (junction_at l.net l.j) k || entry (naturals l.counts) k == 0) l.stage l.k-index
