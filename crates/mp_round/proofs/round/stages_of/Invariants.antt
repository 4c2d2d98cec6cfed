use Rattle.std.proofs.Common.{◌≡◌, map, take, unwrap_or}
use Rattle.mp_round.proofs.round.stages_of.Given as goal

abbrev pub invariant-loop-stage : goal.invariant-loop-stage
invariant-loop-stage l = l.stages.items ≡ map (λ d. unwrap_or d 0) (take l.stage-index l.decided)
