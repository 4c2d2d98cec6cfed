use Rattle.mp_net.proofs.Filled.{HeldFrom}
use Rattle.mp_net.proofs.tables.junction_of_movement.Given as goal

abbrev pub invariant-loop-j : goal.invariant-loop-j
invariant-loop-j l = HeldFrom l.parts.junctions.items l.k l.j
