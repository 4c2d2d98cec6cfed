use Rattle.std.proofs.Common.{◌∙◌, length, map, arith}
use Rattle.mp_model.specs.Network.{movement_at, no_movement}
use Rattle.mp_net.specs.Parts.{movement_of}
use Rattle.mp_frame.proofs.Copied.{all_copied, next_copy, read_all}
use Rattle.mp_frame.proofs.copies.same_movements.Goals as goal

pub loop-k-preserved : goal.loop-k-preserved
loop-k-preserved c = next_copy (movement_at c.args.net.now) c.loop-k.k (map movement_of c.loop-k.movements.items) _ c.in_ok-add_movement.ensures c.loop-k.invariant

pub returns : goal.returns
returns c =
    let movements = c.args.net.now.movements in
    all_copied (movement_at c.args.net.now) (length movements) c.loop-k.k (map movement_of c.loop-k.movements.items) c.loop-k.invariant (omega (arith, c.loop-k.auto.k-end, c.loop-k-test.false, c.movements-k-end.ensures.count))
    ∙ read_all no_movement movements
