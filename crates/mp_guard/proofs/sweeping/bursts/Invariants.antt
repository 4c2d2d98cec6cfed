use Rattle.mp_model.specs.Network.{entry}
use Rattle.mp_guard.proofs.BurstLemmas.{Sweeping}
use Rattle.mp_guard.proofs.sweeping.bursts.Given as goal

abbrev pub invariant-loop-sweeps : goal.invariant-loop-sweeps
invariant-loop-sweeps l = Sweeping l.net l.guard (entry l.surpluses) l._sweeps l.bursts.items
