-- What stands under a certificate: its check, the bounds of its slack, and what no queue exceeds.
use Rattle.std.specs.Prelude.{◌≡◌, ℕ, List, map, Err, Some, Ok}
use Rattle.mp_model.specs.Arrivals.{IsPermitted}
use Rattle.mp_model.specs.Bounds.{AreBounds, HasRoom}
use Rattle.mp_model.specs.Certificate.{Cert, Certifies}
use Rattle.mp_model.specs.Network.{Network}
use Rattle.mp_model.specs.Reports.{AllTimely, Period}
use Rattle.mp_model.specs.Slack.{IsSlack, IsGreatestSlack}
use Rattle.mp_cert.specs.Checking.{check_outcome}
use Rattle.mp_cert.specs.FirstBroken.{IsFirstFault}
use Rattle.mp_cert.specs.declared.types.CertFault.{CertFault}
use Rattle.mp_cert.specs.declared.types.CertFault.TheVariants.{Overflow as PassesCheck}
use Rattle.mp_drift.specs.Bounded.{FindsGreatest, HasNoRoom}
use Rattle.mp_drift.specs.Session.{IsUnbounded, PassesBound}
use Rattle.mp_event_run.specs.Running.{StaysWithin as ReportsStayWithin}
use Rattle.mp_flow.specs.declared.network.Place.{Place}
use Rattle.mp_flow.specs.declared.network.Place.TheVariants as at
use Rattle.mp_run.specs.Running.{StaysWithin}
use Rattle.mp_cli.specs.declared.outcome.CertRule.{CertRule}
use Rattle.mp_cli.specs.declared.outcome.Outcome.{Outcome}
use Rattle.mp_cli.specs.declared.outcome.Outcome.TheVariants.{Certificate, Overflow, NoMemory}
use Rattle.mp_cli.specs.Outcomes.{broken_rule}
use Rattle.mp_cli.specs.Ports.{Ports, RefusedOr}

-- Under the slack num/den there are bounds that have room; over all permitted arrivals no queue exceeds its bound, nor does any where junctions decide by timely reports; and the fact is true of the slack and the bounds.
pub record HoldsUnder (net : Network) (num den : ℕ) (P : ℕ → ℕ → List ℕ → Type 0) : Type 0 where
  pub bounds : List ℕ
  pub are : AreBounds net num den bounds
  pub room : HasRoom bounds
  pub within : (A : List (List ℕ)) → IsPermitted net A → StaysWithin net bounds A
  pub reported : (periods : List Period) → IsPermitted net (map (λ period. period.counts) periods) → AllTimely net 0 periods → ReportsStayWithin net bounds periods
  pub is : P num den bounds

-- A certificate certifies the network, and the fact is true of its slack and the bounds under it.
pub record HoldsWith (net : Network) (P : ℕ → ℕ → List ℕ → Type 0) (cert : Cert) : Type 0 where
  pub certifies : Certifies net cert
  pub num : ℕ
  pub den : ℕ
  pub slack : IsSlack cert num den
  pub holds : HoldsUnder net num den P

-- The fact is true of the greatest slack and the bounds under it.
pub record HoldsWithGreatest (net : Network) (P : ℕ → ℕ → List ℕ → Type 0) : Type 0 where
  pub num : ℕ
  pub den : ℕ
  pub greatest : IsGreatestSlack net num den
  pub holds : HoldsUnder net num den P

-- A certificate breaks the rule, keeps all before it, and no calculation before exceeds 128 bits.
pub record IsBroken (net : Network) (rule : CertRule) (cert : Cert) : Type 0 where
  pub fault : CertFault
  pub names : broken_rule fault ≡ Some rule
  pub told : check_outcome net cert ≡ Err fault
  pub first : IsFirstFault net cert fault

-- A calculation of a certificate's check, of the bounds under it, or the room for these exceeds its limit.
abbrev pub PassesUnder : Network → Place → Cert → Type 0
PassesUnder net at.Certificate cert = check_outcome net cert ≡ Err PassesCheck
PassesUnder net at.Bound cert = IsUnbounded net cert PassesBound
PassesUnder net at.Room cert = IsUnbounded net cert HasNoRoom
PassesUnder net place cert = ⊥

-- No session is opened under a certificate that certifies: a calculation exceeds its limit, or memory ran out.
abbrev pub IsUnopened : Outcome → Network → Cert → Type 0
IsUnopened (Overflow place) net cert = PassesUnder net place cert
IsUnopened NoMemory net cert = Unit {0}
IsUnopened outcome net cert = ⊥

-- No session is opened under a certificate: it breaks a rule, or for another cause.
abbrev pub IsUnaccepted : Outcome → Network → Cert → Type 0
IsUnaccepted (Certificate rule) net cert = IsBroken net rule cert
IsUnaccepted outcome net cert = IsUnopened outcome net cert

-- No calculation of the bounds under a certificate exceeds 128 bits, and there is room for them.
pub record HasBounds (net : Network) (cert : Cert) : Type 0 where
  pub found : (num den : ℕ) → IsSlack cert num den → ¬ PassesBound net num den
  pub room : (num den : ℕ) → IsSlack cert num den → ¬ HasNoRoom net num den

-- A session is opened under a certificate: no calculation of its check or of its bounds exceeds 128 bits, and the fact is true of the slack and the bounds.
pub record Opens (net : Network) (P : ℕ → ℕ → List ℕ → Type 0) (cert : Cert) : Type 0 where
  pub checked : check_outcome net cert ≡ Ok tt
  pub holds : HoldsWith net P cert
  pub found : FindsGreatest net holds.num holds.den

-- A command under a certificate that certifies: no session is opened, or the fact is true of the slack and the bounds.
abbrev pub OnSession : Outcome → Network → Cert → Ports → (ℕ → ℕ → List ℕ → Type 0) → Type 0
OnSession outcome net cert ports P = RefusedOr (IsUnopened outcome net cert) ports (Opens net P cert)

-- A command under a certificate: it is not accepted, or the fact is true of its slack and the bounds.
abbrev pub OnAnySession : Outcome → Network → Cert → Ports → (ℕ → ℕ → List ℕ → Type 0) → Type 0
OnAnySession outcome net cert ports P = RefusedOr (IsUnaccepted outcome net cert) ports (Opens net P cert)

-- A fact of a slack and the bounds under it is of the greatest slack.
abbrev pub AtGreatest : Network → (ℕ → ℕ → List ℕ → Type 0) → ℕ → ℕ → List ℕ → Type 0
AtGreatest net P num den bounds = IsGreatestSlack net num den × P num den bounds
