use Rattle.std.proofs.Common.{pos}
use Rattle.mp_model.specs.Bounds.{queue_bound}
use Rattle.mp_drift.proofs.Loops.{Listing}
use Rattle.mp_drift.proofs.queue_bounds.bound_list.Given as goal

abbrev pub invariant-loop-number : goal.invariant-loop-number
invariant-loop-number l = Listing (λ k. pos (queue_bound l.net l.root k)) l.number l.bounds.items
