use Rattle.mp_gen.proofs.Fills.{FilledTo}
use Rattle.mp_gen.proofs.arrivals.draw_all.Given as goal

abbrev pub invariant-loop-l : goal.invariant-loop-l
invariant-loop-l l = FilledTo l.session.net l.session.round.standing l.initial.words l.words l.into.items l.l-index
