use Rattle.mp_flow.proofs.LoopLemmas.{Pending}
use Rattle.mp_flow.proofs.SolveLemmas.{Swept}
use Rattle.mp_flow.proofs.elimination.eliminate.Given as goal
use Rattle.mp_num.specs.Row.{rows_of}

abbrev pub invariant-loop-j : goal.invariant-loop-j
invariant-loop-j l = record { pending : Pending l.rows (rows_of l.rows l.width l.fn.cells) l.j (rows_of l.rows l.width l.cells); swept : Swept l.rows l.width l.j l.cells }
