use Rattle.mp_model.specs.Frames.{is_chosen}
use Rattle.mp_model.specs.Network.{entry}
use Rattle.mp_drift.proofs.Loops.{Listing}
use Rattle.mp_frame_run.proofs.choosing.choose_movements.Given as goal

abbrev pub invariant-loop-i : goal.invariant-loop-i
invariant-loop-i l = Listing (is_chosen l.net l.stages (entry l.cache.counts)) l.i l.chosen.items
