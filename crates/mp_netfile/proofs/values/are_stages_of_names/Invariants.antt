use Rattle.std.proofs.Common.{◌≡◌, map, drop}
use Rattle.std.specs.List.{list_all}
use Rattle.toml.specs.View.{view}
use Rattle.mp_model.specs.Names.{is_name}
use Rattle.mp_tree.specs.Tree.{items}
use Rattle.mp_netfile.specs.Meaning.{texts_of}
use Rattle.mp_netfile.proofs.values.are_stages_of_names.Given as goal

abbrev pub invariant-loop-stage : goal.invariant-loop-stage
invariant-loop-stage l =
    list_all (list_all is_name) (map (λ stage. texts_of (items stage)) (map view l.stages))
    ≡ list_all (list_all is_name) (map (λ stage. texts_of (items stage)) (map view (drop l.stage-index l.stages)))
