use Rattle.mp_round.proofs.Idling.{NoneBefore}
use Rattle.mp_round.proofs.copies.has_no_report.Given as goal

abbrev pub invariant-loop-i : goal.invariant-loop-i
invariant-loop-i l = NoneBefore l.row l.i
