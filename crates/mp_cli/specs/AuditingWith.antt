-- What `auditwith` promises.
use Rattle.std.specs.Prelude.{ℕ, List}
use Rattle.mp_cli.specs.declared.outcome.Outcome.{Outcome}
use Rattle.mp_cli.specs.Auditing.{AuditsUnder}
use Rattle.mp_cli.specs.Opening.{OnNetwork, OnCert}
use Rattle.mp_cli.specs.Ports.{Ports}

-- This is what each outcome says of `auditwith`: on the network of the file, and on the certificate of the other file, the input was compared with the log of its slack.
abbrev pub AuditsWith : Outcome → List ℕ → List ℕ → Ports → Type 0
AuditsWith outcome name other ports = OnNetwork outcome name ports (λ net. OnCert outcome net other ports (λ cert. AuditsUnder outcome net cert ports))
