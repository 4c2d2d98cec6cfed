-- What `check` promises.
use Rattle.std.specs.Prelude.{◌≡◌, ◌++◌, ℕ, List, codes, decimal, Ok, Err}
use Rattle.mp_model.specs.Certificate.{Cert, Certifies}
use Rattle.mp_model.specs.Network.{Network}
use Rattle.mp_model.specs.Slack.{IsSlack}
use Rattle.mp_cert.specs.Checking.{check_outcome}
use Rattle.mp_cert.specs.declared.types.CertFault.TheVariants as fault
use Rattle.mp_flow.specs.declared.network.Place.TheVariants as at
use Rattle.mp_cli.specs.declared.outcome.Outcome.{Outcome}
use Rattle.mp_cli.specs.declared.outcome.Outcome.TheVariants.{Certificate, Overflow}
use Rattle.mp_cli.specs.Opening.{OnNetwork, OnCert}
use Rattle.mp_cli.specs.Ports.{Ports, Answers, RefusedOr}
use Rattle.mp_cli.specs.Sessions.{IsBroken}

-- This is the line of a certificate that holds, with its slack.
abbrev pub accepted_line : ℕ → ℕ → List ℕ
accepted_line num den = (((codes "certificate ok slack " ++ decimal num) ++ codes "/") ++ decimal den) ++ codes "\n"

-- A certificate certifies the network, and its line, with its slack in lowest terms, was put.
pub record AcceptsCert (outcome : Outcome) (net : Network) (ports : Ports) (cert : Cert) : Type 0 where
  pub certifies : Certifies net cert
  pub num : ℕ
  pub den : ℕ
  pub slack : IsSlack cert num den
  pub answers : Answers outcome ports (accepted_line num den)

-- A certificate is not accepted: it breaks a rule, or a calculation of its check exceeds 128 bits.
abbrev pub RefusesCert : Outcome → Network → Cert → Type 0
RefusesCert (Certificate rule) net cert = IsBroken net rule cert
RefusesCert (Overflow at.Certificate) net cert = check_outcome net cert ≡ Err fault.Overflow
RefusesCert outcome net cert = ⊥

-- This is what each outcome says of `check`: on the network of the file, and on the certificate of the other file, no calculation exceeds 128 bits, and its line was put.
abbrev pub Checks : Outcome → List ℕ → List ℕ → Ports → Type 0
Checks outcome name other ports =
    OnNetwork outcome name ports (λ net.
    OnCert outcome net other ports (λ cert.
    RefusedOr (RefusesCert outcome net cert) ports ((check_outcome net cert ≡ Ok tt) × AcceptsCert outcome net ports cert)))
