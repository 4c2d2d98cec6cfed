use Rattle.mp_model.specs.Guard.{IsSurplus}
use Rattle.mp_net.proofs.Filled.{FilledTo}
use Rattle.mp_guard.proofs.surplus.surpluses.Given as goal

abbrev pub invariant-loop-k : goal.invariant-loop-k
invariant-loop-k l = FilledTo (IsSurplus l.net) l.k l.surpluses.items
