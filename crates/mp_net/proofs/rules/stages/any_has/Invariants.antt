use Rattle.std.proofs.Common.{◌≡◌, map, drop}
use Rattle.std.specs.List.{list_any}
use Rattle.mp_model.specs.Network.{has}
use Rattle.mp_net.proofs.rules.stages.any_has.Given as goal

abbrev pub invariant-loop-stage : goal.invariant-loop-stage
invariant-loop-stage l = list_any (λ stage. has stage l.k) (map (λ stage. stage.items) l.stages) ≡ list_any (λ stage. has stage l.k) (map (λ stage. stage.items) (drop l.stage-index l.stages))
