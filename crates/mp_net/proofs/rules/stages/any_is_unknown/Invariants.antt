use Rattle.std.proofs.Common.{◌≡◌, map, drop}
use Rattle.std.specs.List.{list_any}
use Rattle.std.proofs.Common.{not}
use Rattle.mp_net.specs.Parts.{network_of}
use Rattle.mp_net.specs.RepeatRules.{movement_is_there}
use Rattle.mp_net.proofs.rules.stages.any_is_unknown.Given as goal

abbrev pub invariant-loop-stage : goal.invariant-loop-stage
invariant-loop-stage l = list_any (list_any (λ k. not (movement_is_there (network_of l.parts) k))) (map (λ stage. stage.items) l.stages) ≡ list_any (list_any (λ k. not (movement_is_there (network_of l.parts) k))) (map (λ stage. stage.items) (drop l.stage-index l.stages))
