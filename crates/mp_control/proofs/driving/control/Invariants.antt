use Rattle.std.proofs.Common.{◌≤◌}
use Rattle.mp_control.specs.Controlling.{Progress}
use Rattle.mp_control.proofs.driving.control.Given as goal

abbrev pub invariant-loop-turn : goal.invariant-loop-turn
invariant-loop-turn g l = record {
  progress : Progress l.fn.net (g.In.Source.left l.fn.input) (g.In.Source.left l.input) l.cutter.held (g.Out.Sink.held l.fn.out) (g.Out.Sink.held l.out) l.turn l.answers;
  few : l.answers ≤ l.turn;
  in_later : g.In.Source.faults l.fn.input ≤ g.In.Source.faults l.input;
  out_later : g.Out.Sink.faults l.fn.out ≤ g.Out.Sink.faults l.out;
}
