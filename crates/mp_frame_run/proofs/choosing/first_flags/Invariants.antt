use Rattle.std.proofs.Common.{◌==◌, ◌&&◌}
use Rattle.mp_model.specs.Network.{entry, junction_of_movement}
use Rattle.mp_drift.proofs.Loops.{Listing}
use Rattle.mp_step.specs.OpenStep.{flag}
use Rattle.mp_frame_run.proofs.choosing.first_flags.Given as goal

abbrev pub invariant-loop-i : goal.invariant-loop-i
invariant-loop-i l = Listing (λ k. flag l.chosen k && entry l.before (junction_of_movement l.net k) == entry l.stages (junction_of_movement l.net k)) l.i l.passing.items
