use Rattle.mp_flow.specs.Calculating.{flows_of}
use Rattle.mp_admit.proofs.AloneLemmas.{TrialsAt}
use Rattle.mp_admit.proofs.alone.try_movements.Given as goal

abbrev pub invariant-loop-k : goal.invariant-loop-k
invariant-loop-k l = TrialsAt l.net (flows_of l.flows) l.j l.fn.before l.k-index l.score
