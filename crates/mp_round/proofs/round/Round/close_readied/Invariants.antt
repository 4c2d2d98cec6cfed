use Rattle.mp_round.proofs.Readying.{Readied}
use Rattle.mp_round.proofs.round.Round.close_readied.Given as goal

abbrev pub invariant-loop-i : goal.invariant-loop-i
invariant-loop-i l = Readied l.net l.initial.self l.i l.self
