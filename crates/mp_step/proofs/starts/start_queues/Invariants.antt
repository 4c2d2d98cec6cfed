use Rattle.std.proofs.Common.{◌≡◌, ◌<◌, ◌+◌, ℕ, pos, get_or}
use Rattle.mp_model.specs.Network.{start_of}
use Rattle.mp_step.proofs.starts.start_queues.Given as goal

abbrev pub invariant-loop-i : goal.invariant-loop-i
invariant-loop-i l = (j : ℕ) → j < l.i → get_or l.queues j (pos 0) ≡ pos (start_of l.net (j + 1))
