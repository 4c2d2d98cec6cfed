use Rattle.std.proofs.Common.{◌≤◌, ◌+◌, ◌∙◌, ap, ap₂, arith, pos, set, get_or, ℕ, ℤ, length}
use Rattle.std.specs.Int.{w128}
use Rattle.std.proofs.Math.Facts.{to_z_pos}
use Rattle.std.proofs.lemmas.List.Edits.{fill_by_more}
use Rattle.mp_model.specs.Network.{Movement, start_of}
use Rattle.mp_step.proofs.Entering.{start_few}
use Rattle.mp_step.proofs.Following.{from_places}
use Rattle.mp_step.proofs.starts.start_queues.Goals as goal

pub loop-i-preserved : goal.loop-i-preserved
loop-i-preserved c =
    let net = c.args.net.now in
    let i = c.loop-i.i in
    let f : ℕ → ℤ = λ j. pos (start_of net (j + 1)) in
    let few : c.movement.result.now.start ≤ 1000000 = omega (arith, ap (λ (m : Movement). m.start) c.movement.ensures.part, start_few net c.shares.ensures.acceptable.range (i + 1)) in
    let put = to_z_pos w128 (omega arith) ∙ ap (λ (m : Movement). pos m.start) c.movement.ensures.part in
    λ j h. ap₂ (λ n z. get_or (set c.loop-i.queues n z) j (pos 0)) c.from.ensures put ∙ fill_by_more f c.loop-i.queues i (pos 0) (omega (arith, c.loop-i.auto.queues)) c.loop-i.invariant j h

pub returns : goal.returns
returns c = from_places (λ k. pos (start_of c.args.net.now k)) c.loop-i.queues (length c.args.net.now.movements) (c.loop-i.auto.queues ∙ c.requires) (λ j h. c.loop-i.invariant j (omega arith))
