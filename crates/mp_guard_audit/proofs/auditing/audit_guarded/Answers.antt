use Rattle.mp_guard_audit.proofs.HeadingLemmas.{has_numbers}
use Rattle.mp_guard_audit.proofs.auditing.audit_guarded.Goals as goal

pub audit_header-requires-clause-numbers : goal.audit_header-requires-clause-numbers
audit_header-requires-clause-numbers g c = has_numbers c.args.session.now c.requires.bounds c.requires.waits
