use Rattle.mp_flow.proofs.TableLemmas.{NoneServes}
use Rattle.mp_flow.proofs.elimination.choose.Given as goal
use Rattle.mp_num.specs.Row.{rows_of}

abbrev pub invariant-loop-k : goal.invariant-loop-k
invariant-loop-k l = NoneServes l.j (rows_of l.count l.width l.cells) l.k
