-- What a session keeps: a certified network, its bounds, and a run within them.
use Rattle.std.specs.Prelude.{◌≡◌, ◌≤◌, ℕ, ℤ, List, None, Ok, Err}
use Rattle.mp_model.specs.Certificate.{Cert, Certifies}
use Rattle.mp_model.specs.Bounds.{greatest_drift}
use Rattle.mp_model.specs.DriftValue.{drift_value}
use Rattle.mp_model.specs.Network.{Network, entry}
use Rattle.mp_model.specs.NetworkRules.{IsAcceptable}
use Rattle.mp_model.specs.Slack.{IsSlack}
use Rattle.mp_num.specs.Fraction.{Fraction, numerator, denominator}
use Rattle.mp_flow.specs.declared.network.CalcFault.{CalcFault}
use Rattle.mp_flow.specs.declared.network.CalcFault.TheVariants.{Overflow}
use Rattle.mp_flow.specs.declared.network.CalcFault.TheVariants as calc
use Rattle.mp_flow.specs.declared.network.Place.TheVariants.{Bound, Room}
use Rattle.mp_cert.specs.Checking.{check_outcome}
use Rattle.mp_step.specs.Standing.{Standing, IsOn}
use Rattle.mp_drift.specs.Stated.{stated_greatest}
use Rattle.mp_drift.specs.Bounded.{HoldsBounds, HasNoRoom}
use Rattle.mp_drift.specs.declared.session.OpenFault.{OpenFault}
use Rattle.mp_drift.specs.declared.session.OpenFault.TheVariants.{Cert as RefusesCert, Calc, NoMemory}

-- A session has a network, a slack, the bounds of the movements, where its run stands, and the stages of the last closed period.
pub record Bounded : Type 0 where
  pub net : Network
  pub slack : Fraction
  pub bounds : List ℤ
  pub at : Standing
  pub stages : List ℕ

-- Some certificate with the slack E/D certifies the network.
abbrev pub IsCertified : Network → ℕ → ℕ → Type 0
IsCertified net E D = (cert : Cert) × Certifies net cert × IsSlack cert E D

-- The drift value of a standing is at most its greatest under the slack E/D.
abbrev pub HasLowDrift : Network → ℕ → ℕ → Standing → Type 0
HasLowDrift net E D st = drift_value net (entry st.queues) (entry st.phases) (entry st.levels) ≤ greatest_drift net E D

-- The network is certified with the slack, the bounds are those of the slack, the run stands on the network, and its drift value is at most its greatest.
pub record IsBounded (s : Bounded) : Type 0 where
  pub acceptable : IsAcceptable s.net
  pub certified : IsCertified s.net (numerator s.slack) (denominator s.slack)
  pub bounds : HoldsBounds s.net (numerator s.slack) (denominator s.slack) s.bounds
  pub on : IsOn s.net s.at
  pub drift : HasLowDrift s.net (numerator s.slack) (denominator s.slack) s.at

-- The check accepts the certificate: it meets every rule, and no calculation of a rule exceeds 128 bits.
abbrev pub IsAccepted : Network → Cert → Type 0
IsAccepted net cert = check_outcome net cert ≡ Ok tt

-- The check accepts the certificate, and the bounds under its slack exceed 128 bits, or one has no room.
pub record IsUnbounded (net : Network) (cert : Cert) (IsSo : Network → ℕ → ℕ → Type 0) : Type 0 where
  pub accepted : IsAccepted net cert
  pub certifies : Certifies net cert
  pub num : ℕ
  pub den : ℕ
  pub slack : IsSlack cert num den
  pub is : IsSo net num den

-- The greatest drift value under the slack E/D exceeds 128 bits.
abbrev pub PassesBound : Network → ℕ → ℕ → Type 0
PassesBound net E D = stated_greatest net E D ≡ None

-- A session is not opened where the check refuses the certificate, where it accepts it and the bounds of its slack exceed 128 bits or have no room, or since memory ran out.
abbrev pub IsRefused : Network → Cert → OpenFault → Type 0
IsRefused net cert (RefusesCert fault) = check_outcome net cert ≡ Err fault
IsRefused net cert (Calc (Overflow Bound)) = IsUnbounded net cert PassesBound
IsRefused net cert (Calc (Overflow Room)) = IsUnbounded net cert HasNoRoom
IsRefused net cert (Calc fault) = ⊥
IsRefused net cert NoMemory = Unit {0}

-- A fault of the bounds refuses the opening, where out of memory stands alone.
abbrev pub open_fault : CalcFault → OpenFault
open_fault calc.NoMemory = NoMemory
open_fault fault = Calc fault
