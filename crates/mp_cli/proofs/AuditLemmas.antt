-- How an audit ends.
use Rattle.mp_run.specs.declared.auditing.AuditEnd.{AuditEnd}
use Rattle.mp_cli.specs.declared.outcome.Outcome.{Outcome}
use Rattle.mp_cli.specs.declared.outcome.Outcome.TheVariants.{Differs, Read}
use Rattle.mp_cli.specs.Auditing.{EndsAudit}
use Rattle.mp_cli.specs.Ports.{Ports}

-- a fact of an audit's end makes another one
pub ended : (outcome : Outcome) (ports : Ports) (P Q : AuditEnd → Type 0) → ((how : AuditEnd) → P how → Q how) → EndsAudit outcome ports P → EndsAudit outcome ports Q
ended (Differs n) ports P Q f is = (f _ is.0, is.1)
ended Read ports P Q f is = (f _ is.0, is.1)
ended outcome ports P Q f is = record { periods = is.periods; whole = f _ is.whole; written = is.written }
