use Rattle.mp_flow.proofs.AnswerLemmas.{Denominating}
use Rattle.mp_flow.proofs.solving.find_denominator.Given as goal
use Rattle.mp_num.specs.Row.{rows_of}

abbrev pub invariant-loop-j : goal.invariant-loop-j
invariant-loop-j l = Denominating l.count (rows_of l.rows l.width l.cells) l.j l.d
