use Rattle.mp_round.proofs.Readying.{Heard}
use Rattle.mp_round.proofs.round.Round.ready.Given as goal

abbrev pub invariant-loop-i : goal.invariant-loop-i
invariant-loop-i l = Heard l.net l.initial.self l.j l.i l.self
