-- The verdict on a network, as the stated calculation finds it.
use Rattle.std.specs.Prelude.{◌≡◌, ℕ, ℤ, List}
use Rattle.mp_model.specs.Certificate.{Cert, Certifies, Carries}
use Rattle.mp_model.specs.Load.{ShowsOverload, IsTight, IsCritical}
use Rattle.mp_model.specs.Network.{Network}
use Rattle.mp_model.specs.Slack.{IsSlack, IsGreatestSlack}
use Rattle.mp_press.specs.Queues.{naturals}
use Rattle.mp_cert.specs.Weighing.{weighed}
use Rattle.mp_num.specs.Fraction.{Fraction}
use Rattle.mp_verdict.specs.Laws.{IsAdmitted}
use Rattle.mp_verdict.specs.Stated.{Reached, PassesAt, LimitAt}
use Rattle.mp_verdict.specs.Verdict.{verdict, Admitted}
use Rattle.mp_verdict.specs.Verdict as judged
use Rattle.mp_cli.specs.declared.outcome.Outcome.{Outcome}
use Rattle.mp_cli.specs.declared.outcome.Outcome.TheVariants.{Critical, Overloaded, Overflow, PivotLimit, NoMemory}
use Rattle.mp_cli.specs.Ports.{Ports, RefusedOr}

-- A network is critical, as the vector of the stated calculation shows: its rates are carried, and no certificate certifies it.
pub record IsShownCritical (net : Network) (vector : List ℤ) : Type 0 where
  pub reached : verdict net (weighed net) ≡ Reached (judged.Critical vector)
  pub tight : IsTight net (naturals vector)
  pub critical : IsCritical net
  pub carried : Carries net
  pub none : (cert : Cert) → ¬ Certifies net cert

-- A network is overloaded, as the vector of the stated calculation shows, and so does not carry its rates.
pub record IsShownOverloaded (net : Network) (vector : List ℤ) : Type 0 where
  pub reached : verdict net (weighed net) ≡ Reached (judged.Overloaded vector)
  pub shows : ShowsOverload net (naturals vector)
  pub none : ¬ Carries net

-- The stated calculation has no verdict: it exceeds 128 bits or comes to its limit of turns, or memory ran out.
abbrev pub IsUnfinished : Outcome → Network → Type 0
IsUnfinished (Overflow place) net = verdict net (weighed net) ≡ PassesAt place
IsUnfinished (PivotLimit j) net = verdict net (weighed net) ≡ LimitAt j
IsUnfinished NoMemory net = Unit {0}
IsUnfinished outcome net = ⊥

-- The stated calculation does not admit the network: it is critical or overloaded, or there is no verdict.
abbrev pub IsUnadmitted : Outcome → Network → Type 0
IsUnadmitted (Critical against) net = IsShownCritical net against.p
IsUnadmitted (Overloaded against) net = IsShownOverloaded net against.p
IsUnadmitted outcome net = IsUnfinished outcome net

-- The stated calculation admits the network with a certificate, whose slack is the greatest, and the fact is true of it.
pub record OfAdmitted (net : Network) (P : Cert → Type 0) : Type 0 where
  pub cert : Cert
  pub vector : List ℤ
  pub slack : Fraction
  pub reached : verdict net (weighed net) ≡ Reached (Admitted cert vector slack)
  pub admitted : IsAdmitted net cert vector slack
  pub is : P cert

-- A command on an admitted network: it is not admitted, or the fact is true of the certificate of the greatest slack.
abbrev pub OnAdmitted : Outcome → Network → Ports → (Cert → Type 0) → Type 0
OnAdmitted outcome net ports P = RefusedOr (IsUnadmitted outcome net) ports (OfAdmitted net P)

-- A certificate certifies the network, and its slack is the greatest.
pub record HasGreatestSlack (net : Network) (cert : Cert) : Type 0 where
  pub certifies : Certifies net cert
  pub num : ℕ
  pub den : ℕ
  pub slack : IsSlack cert num den
  pub greatest : IsGreatestSlack net num den
