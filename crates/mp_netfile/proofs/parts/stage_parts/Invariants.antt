use Rattle.std.proofs.Common.{◌≡◌, map, take}
use Rattle.toml.specs.View.{view}
use Rattle.mp_net.specs.declared.parts.MovementPart.{MovementPart}
use Rattle.mp_tree.specs.Tree.{items}
use Rattle.mp_netfile.specs.Meaning.{number_of, texts_of}
use Rattle.mp_netfile.proofs.parts.stage_parts.Given as goal

abbrev pub invariant-loop-stage : goal.invariant-loop-stage
invariant-loop-stage l =
    map (λ stage. stage.items) l.parts.items
    ≡ map (map (number_of (map (λ (movement : MovementPart). movement.name) l.movements))) (map (λ stage. texts_of (items stage)) (map view (take l.stage-index l.stages)))
