-- What `audit` promises.
use Rattle.std.specs.Prelude.{◌≡◌, ◌++◌, ℕ, List, codes, decimal}
use Rattle.mp_model.specs.Certificate.{Cert}
use Rattle.mp_model.specs.Network.{Network}
use Rattle.mp_event_audit.specs.Auditing.{AuditsAs}
use Rattle.mp_run.specs.declared.auditing.AuditEnd.{AuditEnd}
use Rattle.mp_run.specs.declared.auditing.AuditEnd.TheVariants as end
use Rattle.mp_cli.specs.declared.outcome.Outcome.{Outcome}
use Rattle.mp_cli.specs.declared.outcome.Outcome.TheVariants.{Differs, Read}
use Rattle.mp_cli.specs.Opening.{OnNetwork}
use Rattle.mp_cli.specs.Ports.{Ports, Writes}
use Rattle.mp_cli.specs.Sessions.{OnSession, OnAnySession, AtGreatest}
use Rattle.mp_cli.specs.Verdicts.{OnAdmitted}

-- This is the line of a whole log, with the number of its periods.
abbrev pub audit_line : ℕ → List ℕ
audit_line periods = (codes "log ok " ++ decimal periods) ++ codes "\n"

-- The audit ended with a whole log, and its line was put.
pub record EndsWhole (outcome : Outcome) (ports : Ports) (EndsSo : AuditEnd → Type 0) : Type 0 where
  pub periods : ℕ
  pub whole : EndsSo (end.Done periods)
  pub written : Writes outcome ports (audit_line periods)

-- The audit ended so: a line is the first that differs, or the input met a fault, with nothing put, or the log was whole.
abbrev pub EndsAudit : Outcome → Ports → (AuditEnd → Type 0) → Type 0
EndsAudit (Differs n) ports EndsSo = EndsSo (end.Differs n) × (ports.output_after ≡ ports.output_before)
EndsAudit Read ports EndsSo = EndsSo end.Read × (ports.output_after ≡ ports.output_before)
EndsAudit outcome ports EndsSo = EndsWhole outcome ports EndsSo

-- The input was a whole log of the network under a slack, and its line was put.
abbrev pub IsShownWhole : Outcome → Network → Ports → ℕ → ℕ → List ℕ → Type 0
IsShownWhole outcome net ports num den bounds = EndsWhole outcome ports (λ how. AuditsAs net num den bounds how ports.input_before ports.input_after)

-- The input was compared with the log under the slack num/den.
abbrev pub Compares : Outcome → Network → Ports → ℕ → ℕ → List ℕ → Type 0
Compares outcome net ports num den bounds = EndsAudit outcome ports (λ how. AuditsAs net num den bounds how ports.input_before ports.input_after)

-- This is what each outcome says of an audit under a certificate.
abbrev pub AuditsUnder : Outcome → Network → Cert → Ports → Type 0
AuditsUnder outcome net cert ports = OnAnySession outcome net cert ports (Compares outcome net ports)

-- This is what each outcome says of `audit`: on the network of the file, as it is admitted, under its certificate, the input was compared with the log of the greatest slack.
abbrev pub Audits : Outcome → List ℕ → Ports → Type 0
Audits outcome name ports =
    OnNetwork outcome name ports (λ net.
    OnAdmitted outcome net ports (λ cert.
    OnSession outcome net cert ports (AtGreatest net (Compares outcome net ports))))
