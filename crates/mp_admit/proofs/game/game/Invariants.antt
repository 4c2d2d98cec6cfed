use Rattle.mp_flow.specs.Calculating.{flows_of}
use Rattle.mp_admit.proofs.GameLemmas.{Passing}
use Rattle.mp_admit.proofs.game.game.Given as goal

abbrev pub invariant-loop-j : goal.invariant-loop-j
invariant-loop-j l = Passing l.net (flows_of l.flows) l.j l.score
