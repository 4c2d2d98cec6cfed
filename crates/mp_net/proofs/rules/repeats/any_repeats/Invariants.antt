use Rattle.std.proofs.Common.{◌≡◌, map, drop}
use Rattle.std.specs.List.{list_any}
use Rattle.mp_net.specs.Parts.{network_of}
use Rattle.mp_net.specs.RepeatRules.{repeats_movement}
use Rattle.mp_net.proofs.rules.repeats.any_repeats.Given as goal

abbrev pub invariant-loop-stage : goal.invariant-loop-stage
invariant-loop-stage l = list_any (repeats_movement (network_of l.parts)) (map (λ stage. stage.items) l.stages) ≡ list_any (repeats_movement (network_of l.parts)) (map (λ stage. stage.items) (drop l.stage-index l.stages))
