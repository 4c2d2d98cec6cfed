use Rattle.std.proofs.Common.{◌+◌}
use Rattle.mp_flow.proofs.AnswerLemmas.{Answering}
use Rattle.mp_flow.proofs.solving.find_answers.Given as goal
use Rattle.mp_num.specs.Row.{rows_of}

abbrev pub invariant-loop-t : goal.invariant-loop-t
invariant-loop-t l = Answering l.n l.rights l.d (rows_of l.n (l.n + l.rights) l.cells) l.t l.x.items
