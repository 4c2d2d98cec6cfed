use Rattle.std.proofs.Common.{◌+◌, [], ◌∷◌, ◌++◌, ◌∙◌, sym, ap}
use Rattle.mp_gen.specs.DemoNetwork.{through_junction}
use Rattle.mp_gen.proofs.Appended.{map_more}
use Rattle.mp_gen.proofs.network.road_junctions.Goals as goal

pub loop-i-preserved : goal.loop-i-preserved
loop-i-preserved c = c.in_ok-add_junction.ensures ∙ ap (λ xs. xs ++ through_junction (c.loop-i.i + 1) ∷ []) c.loop-i.invariant ∙ sym (map_more through_junction c.loop-i.i)
