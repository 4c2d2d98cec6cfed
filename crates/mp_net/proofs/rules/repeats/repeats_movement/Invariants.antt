use Rattle.std.proofs.Common.{◌≡◌, drop}
use Rattle.mp_net.specs.Parts.{network_of}
use Rattle.mp_net.specs.RepeatRules.{repeats_movement}
use Rattle.mp_net.proofs.rules.repeats.repeats_movement.Given as goal

abbrev pub invariant-loop-i : goal.invariant-loop-i
invariant-loop-i l = repeats_movement (network_of l.parts) l.stage ≡ repeats_movement (network_of l.parts) (drop l.i l.stage)
