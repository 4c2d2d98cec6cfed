use Rattle.std.proofs.Common.{◌≡◌, ◌≤◌, ◌-◌, ◌^◌, ℕ, List, Option}
use Rattle.mp_model.specs.Log.{header_lines}
use Rattle.mp_num.specs.Fraction.{numerator, denominator}
use Rattle.mp_press.specs.Queues.{naturals}
use Rattle.mp_run.specs.Auditing.{HasSeen}
use Rattle.mp_event_audit.specs.Auditing.{Auditing}
use Rattle.mp_event_audit.proofs.auditing.audit_periods.Given as goal

abbrev pub invariant-loop-input : goal.invariant-loop-input
invariant-loop-input g l = record {
  auditing : (whole : Option (List ℕ)) → HasSeen (header_lines l.fn.session.net (numerator l.fn.session.slack) (denominator l.fn.session.slack) (naturals l.fn.session.bounds)) whole (g.In.Source.left l.fn.input) l.fn.cutter.held
      → Auditing l.fn.session.net (header_lines l.fn.session.net (numerator l.fn.session.slack) (denominator l.fn.session.slack) (naturals l.fn.session.bounds)) whole (g.In.Source.left l.input) l.cutter.held l.session.round;
  same : l.session ≡ record l.fn.session { round = l.session.round };
  later : g.In.Source.faults l.fn.input ≤ g.In.Source.faults l.input;
}

abbrev pub decreases-loop-input : goal.decreases-loop-input
decreases-loop-input g l = 2 ^ 48 - l.session.round.standing.period
