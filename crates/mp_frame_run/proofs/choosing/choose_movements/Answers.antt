use Rattle.std.proofs.Common.{◌≡◌, length, arith}
use Rattle.std.proofs.lemmas.Grind.{common_steps}
use Rattle.mp_drift.proofs.Loops.{value_count}
use Rattle.mp_frame_run.proofs.choosing.choose_movements.Goals as goal

pub push-requires : goal.push-requires
push-requires c =
    let size : length c.loop-i.chosen.items ≡ c.loop-i.i = value_count _ c.loop-i.i c.loop-i.chosen.items c.loop-i.invariant.values in
    grind (arith, common_steps)
