use Rattle.std.proofs.Common.{◌≡◌}
use Rattle.mp_gen.proofs.Periods.{Shown}
use Rattle.mp_gen.proofs.demonstration.demonstrate.Given as goal

abbrev pub invariant-loop-turn : goal.invariant-loop-turn
invariant-loop-turn l = record {
  shown : Shown l.initial.session.net l.n l.session.round.standing l.arrivals l._turn l.greatest;
  same : l.session ≡ record l.initial.session { round = l.session.round };
  period : l.session.round.standing.period ≡ l._turn;
}
