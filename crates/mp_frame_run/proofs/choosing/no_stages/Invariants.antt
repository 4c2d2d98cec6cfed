use Rattle.std.proofs.Common.{ℕ}
use Rattle.mp_drift.proofs.Loops.{Listing}
use Rattle.mp_frame_run.proofs.choosing.no_stages.Given as goal

abbrev pub invariant-loop-turn : goal.invariant-loop-turn
invariant-loop-turn l = Listing {X = ℕ} (λ k. 0) l._turn l.stages.items
