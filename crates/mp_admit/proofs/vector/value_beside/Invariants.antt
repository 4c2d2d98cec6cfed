use Rattle.mp_admit.proofs.SpreadLemmas.{Seeking}
use Rattle.mp_admit.proofs.vector.value_beside.Given as goal

abbrev pub invariant-loop-i : goal.invariant-loop-i
invariant-loop-i l = Seeking l.own l.values l.k l.i
