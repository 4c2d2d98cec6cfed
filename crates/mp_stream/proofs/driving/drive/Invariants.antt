use Rattle.std.proofs.Common.{◌≡◌, ◌≤◌}
use Rattle.mp_stream.specs.Progress.{Progress}
use Rattle.mp_stream.proofs.driving.drive.Given as goal

abbrev pub invariant-loop-turn : goal.invariant-loop-turn
invariant-loop-turn g l = record {
  progress : Progress (g.R.Driven.course (g.R.Driven.kept l.fn.run)) (g.R.Driven.Stands l.run) (g.In.Source.left l.fn.input) (g.In.Source.left l.input) l.cutter.held (g.Out.Sink.held l.fn.out) (g.Out.Sink.held l.out) l.turn;
  kept : g.R.Driven.kept l.run ≡ g.R.Driven.kept l.fn.run;
  in_later : g.In.Source.faults l.fn.input ≤ g.In.Source.faults l.input;
  out_later : g.Out.Sink.faults l.fn.out ≤ g.Out.Sink.faults l.out;
}
