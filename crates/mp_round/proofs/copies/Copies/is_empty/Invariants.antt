use Rattle.mp_round.proofs.Idling.{IdleBefore}
use Rattle.mp_round.proofs.copies.Copies.is_empty.Given as goal

abbrev pub invariant-loop-i : goal.invariant-loop-i
invariant-loop-i l = IdleBefore l.self l.i
