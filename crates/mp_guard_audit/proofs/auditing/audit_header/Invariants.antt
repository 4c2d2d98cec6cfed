use Rattle.std.proofs.Common.{◌≡◌, ◌≤◌, length, take}
use Rattle.mp_run.specs.Auditing.{HasSeen}
use Rattle.mp_guard_audit.specs.Heading.{header_of}
use Rattle.mp_guard_audit.proofs.auditing.audit_header.Given as goal

abbrev pub invariant-loop-i : goal.invariant-loop-i
invariant-loop-i g l = record {
  seen : HasSeen (take l.i (header_of l.session)) (g.In.Source.left l.initial.input) (g.In.Source.left l.input) l.cutter.held;
  later : g.In.Source.faults l.initial.input ≤ g.In.Source.faults l.input;
  size : l.i-end ≡ length (header_of l.session);
}
