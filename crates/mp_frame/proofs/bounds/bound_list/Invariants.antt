use Rattle.std.proofs.Common.{pos}
use Rattle.mp_model.specs.Frames.{frame_bound}
use Rattle.mp_drift.proofs.Loops.{Listing}
use Rattle.mp_frame.proofs.bounds.bound_list.Given as goal

abbrev pub invariant-loop-number : goal.invariant-loop-number
invariant-loop-number l = Listing (λ k. pos (frame_bound l.net l.f l.root k)) l.number l.bounds.items
