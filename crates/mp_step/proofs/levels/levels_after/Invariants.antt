use Rattle.std.proofs.Common.{◌≡◌, ◌<◌, ℕ, drop, get_or}
use Rattle.std.specs.Prelude.{find}
use Rattle.mp_model.specs.Network.{fed, entry}
use Rattle.mp_press.specs.Queues.{naturals}
use Rattle.mp_step.specs.BucketLevels.{level_then, is_above, AreWithin}
use Rattle.mp_step.proofs.levels.levels_after.Given as goal

abbrev pub invariant-loop-i : goal.invariant-loop-i
invariant-loop-i l = record {
  above : find (is_above l.net (entry (naturals l.levels)) l.arrivals) (drop l.i (fed l.net)) ≡ find (is_above l.net (entry (naturals l.levels)) l.arrivals) (fed l.net);
  within : AreWithin l.buckets (naturals l.next);
  next : (j : ℕ) → j < l.i → entry (naturals l.next) (get_or (fed l.net) j 0) ≡ level_then l.net (entry (naturals l.levels)) l.arrivals (get_or (fed l.net) j 0);
}
