use Rattle.std.proofs.Common.{sym, ◌∙◌}
use Rattle.mp_press.proofs.Known.{to_known}
use Rattle.mp_drift.proofs.terms.report_shift.Goals as goal

pub changes_on-requires-clause-known : goal.changes_on-requires-clause-known
changes_on-requires-clause-known c = to_known c.args.net.now c.shares-shares.ensures.acceptable.network c.args.k c.in-Some.l c.requires.known (sym c.movement.ensures.to ∙ c.in-Some.is)
