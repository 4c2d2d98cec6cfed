use Rattle.std.proofs.Common.{◌+◌, ◌++◌, ◌∙◌, sym, ap}
use Rattle.mp_gen.specs.DemoNetwork.{through_movements}
use Rattle.mp_gen.proofs.Appended.{flat_more}
use Rattle.mp_gen.proofs.network.road_movements.Goals as goal

pub loop-i-preserved : goal.loop-i-preserved
loop-i-preserved c = c.in_ok-add_through.ensures ∙ ap (λ xs. xs ++ through_movements (c.loop-i.i + 1)) c.loop-i.invariant ∙ sym (flat_more through_movements c.loop-i.i)
