use Rattle.mp_net.specs.declared.parts.MovementPart.{MovementPart}
use Rattle.mp_netfile.proofs.Found.{FoundFrom}
use Rattle.mp_netfile.proofs.parts.movement_number.Given as goal

abbrev pub invariant-loop-i : goal.invariant-loop-i
invariant-loop-i l = FoundFrom (λ (movement : MovementPart). movement.name) l.name l.movements l.i
