use Rattle.std.proofs.Common.{◌≡◌, ℕ, length, arith}
use Rattle.std.proofs.lemmas.Grind.{common_steps}
use Rattle.mp_drift.proofs.Loops.{value_count}
use Rattle.mp_frame_run.proofs.choosing.no_stages.Goals as goal

pub push-requires : goal.push-requires
push-requires c =
    let size : length c.loop-turn.stages.items ≡ c.loop-turn._turn = value_count {X = ℕ} (λ k. 0) c.loop-turn._turn c.loop-turn.stages.items c.loop-turn.invariant.values in
    grind (arith, common_steps)
