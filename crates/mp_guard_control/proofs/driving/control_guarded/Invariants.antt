use Rattle.std.proofs.Common.{◌≤◌}
use Rattle.mp_guard_control.specs.Accounts.{AreLeft, guarded_controller}
use Rattle.mp_guard_control.specs.Driving.{Progress}
use Rattle.mp_guard_control.proofs.driving.control_guarded.Given as goal

abbrev pub invariant-loop-turn : goal.invariant-loop-turn
invariant-loop-turn g l = record {
  progress : Progress l.fn.net (guarded_controller l.fn.net l.fn.guard l.fn.header) (AreLeft l.fn.net l.fn.guard l.owed) (g.In.Source.left l.fn.input) (g.In.Source.left l.input) l.cutter.held (g.Out.Sink.held l.fn.out) (g.Out.Sink.held l.out) l.turn l.answers;
  few : l.answers ≤ l.turn;
  in_later : g.In.Source.faults l.fn.input ≤ g.In.Source.faults l.input;
  out_later : g.Out.Sink.faults l.fn.out ≤ g.Out.Sink.faults l.out;
}
