-- What `certify` promises.
use Rattle.std.specs.Prelude.{ℕ, List}
use Rattle.mp_model.specs.Certificate.{Cert}
use Rattle.mp_model.specs.Network.{Network}
use Rattle.mp_cert.specs.Texts.{cert_text}
use Rattle.mp_cli.specs.declared.outcome.Outcome.{Outcome}
use Rattle.mp_cli.specs.Opening.{OnNetwork}
use Rattle.mp_cli.specs.Ports.{Ports, Answers}
use Rattle.mp_cli.specs.Verdicts.{OnAdmitted, HasGreatestSlack}

-- The text of a certificate of the greatest slack was put.
pub record WritesGreatest (outcome : Outcome) (net : Network) (ports : Ports) (cert : Cert) : Type 0 where
  pub has : HasGreatestSlack net cert
  pub answers : Answers outcome ports (cert_text cert)

-- This is what each outcome says of `certify`: on the network of the file, as it is admitted, the text of its certificate was put.
abbrev pub FindsCertificate : Outcome → List ℕ → Ports → Type 0
FindsCertificate outcome name ports = OnNetwork outcome name ports (λ net. OnAdmitted outcome net ports (WritesGreatest outcome net ports))
