use Rattle.std.proofs.Common.{◌≡◌, ◌≤◌, ◌+◌, length, take}
use Rattle.mp_model.specs.Log.{header_lines}
use Rattle.mp_num.specs.Fraction.{numerator, denominator}
use Rattle.mp_press.specs.Queues.{naturals}
use Rattle.mp_run.specs.Auditing.{HasSeen}
use Rattle.mp_event_audit.proofs.auditing.audit_header.Given as goal

abbrev pub invariant-loop-i : goal.invariant-loop-i
invariant-loop-i g l = record {
  seen : HasSeen (take l.i (header_lines l.session.net (numerator l.session.slack) (denominator l.session.slack) (naturals l.session.bounds))) (g.In.Source.left l.initial.input) (g.In.Source.left l.input) l.cutter.held;
  later : g.In.Source.faults l.initial.input ≤ g.In.Source.faults l.input;
  size : l.i-end ≡ length l.session.net.movements + 2;
}
