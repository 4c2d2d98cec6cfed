use Rattle.std.proofs.Common.{◌≡◌, ◌≤◌, ◌+◌, length, take}
use Rattle.mp_edge.proofs.Puts.{HasPut}
use Rattle.mp_model.specs.Log.{text_of}
use Rattle.mp_model.specs.Plans.{plan_header}
use Rattle.mp_plan_run.proofs.header.put_plan_header.Given as goal

abbrev pub invariant-loop-i : goal.invariant-loop-i
invariant-loop-i g l = record {
  put : HasPut (g.K.Sink.held l.initial.out) (g.K.Sink.held l.out) (text_of (take l.i (plan_header l.net l.plan)));
  later : g.K.Sink.faults l.initial.out ≤ g.K.Sink.faults l.out;
  size : l.i-end ≡ length l.net.junctions + length l.net.movements + 2;
}
