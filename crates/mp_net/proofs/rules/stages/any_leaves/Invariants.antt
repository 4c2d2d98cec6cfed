use Rattle.std.proofs.Common.{◌≡◌, map, drop}
use Rattle.std.specs.List.{list_any}
use Rattle.mp_net.specs.Parts.{network_of}
use Rattle.mp_net.specs.StageRules.{leaves_link}
use Rattle.mp_net.proofs.rules.stages.any_leaves.Given as goal

abbrev pub invariant-loop-stage : goal.invariant-loop-stage
invariant-loop-stage l = list_any (list_any (leaves_link (network_of l.parts) l.l)) (map (λ stage. stage.items) l.stages) ≡ list_any (list_any (leaves_link (network_of l.parts) l.l)) (map (λ stage. stage.items) (drop l.stage-index l.stages))
