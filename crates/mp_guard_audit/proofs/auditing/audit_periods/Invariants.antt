use Rattle.std.proofs.Common.{◌≡◌, ◌≤◌, ◌-◌, ◌^◌, ℕ, List, Option}
use Rattle.mp_run.specs.Auditing.{HasSeen}
use Rattle.mp_guard_audit.specs.Auditing.{Auditing}
use Rattle.mp_guard_audit.specs.Heading.{header_of}
use Rattle.mp_guard_audit.proofs.auditing.audit_periods.Given as goal

abbrev pub invariant-loop-input : goal.invariant-loop-input
invariant-loop-input g l = record {
  auditing : (whole : Option (List ℕ)) → HasSeen (header_of l.fn.session) whole (g.In.Source.left l.fn.input) l.fn.cutter.held → Auditing l.session (header_of l.fn.session) whole (g.In.Source.left l.input) l.cutter.held;
  same : l.session ≡ record l.fn.session { at = l.session.at; accounts = l.session.accounts; stages = l.session.stages };
  later : g.In.Source.faults l.fn.input ≤ g.In.Source.faults l.input;
}

abbrev pub decreases-loop-input : goal.decreases-loop-input
decreases-loop-input g l = 2 ^ 48 - l.session.at.period
