-- What `scale` promises.
use Rattle.std.specs.Prelude.{◌≡◌, ℕ, List}
use Rattle.mp_model.specs.Certificate.{Cert}
use Rattle.mp_model.specs.Network.{Network}
use Rattle.mp_cert.specs.Texts.{cert_text}
use Rattle.mp_flow.specs.declared.network.Place.TheVariants as at
use Rattle.mp_trial.specs.Search.{scaled, Found, NoneAt, HasGreatestExcess, HasNone}
use Rattle.mp_trial.specs.Search as search
use Rattle.mp_cli.specs.declared.outcome.Outcome.{Outcome}
use Rattle.mp_cli.specs.declared.outcome.Outcome.TheVariants.{NoCertificate, Overflow, PivotLimit, SweepLimit, NoMemory}
use Rattle.mp_cli.specs.Opening.{OnNetwork}
use Rattle.mp_cli.specs.Ports.{Ports, Answers, RefusedOr}

-- A certificate over a denominator has the greatest excess of all those of the network over it, and its text was put.
pub record WritesScaled (outcome : Outcome) (net : Network) (d : ℕ) (ports : Ports) (cert : Cert) : Type 0 where
  pub greatest : HasGreatestExcess net d cert
  pub answers : Answers outcome ports (cert_text cert)

-- The stated calculation finds a certificate over the denominator, and the fact is true of it.
pub record OfScaled (net : Network) (d : ℕ) (P : Cert → Type 0) : Type 0 where
  pub cert : Cert
  pub reached : scaled net d ≡ Found cert
  pub is : P cert

-- The search has no result: no certificate is over the denominator, a program exceeds 128 bits or comes to its limit of turns, a trial comes to its limit of sweeps, or memory ran out.
abbrev pub IsUnscaled : Outcome → Network → ℕ → Type 0
IsUnscaled NoCertificate net d = (scaled net d ≡ NoneAt) × HasNone net d
IsUnscaled (Overflow (at.Game j)) net d = scaled net d ≡ search.PassesAt j
IsUnscaled (PivotLimit j) net d = scaled net d ≡ search.LimitAt j
IsUnscaled (SweepLimit e) net d = scaled net d ≡ search.SweepsAt e
IsUnscaled NoMemory net d = Unit {0}
IsUnscaled outcome net d = ⊥

-- This is what each outcome says of `scale`: on the network of the file, the text of the greatest certificate over the denominator was put.
abbrev pub Scales : Outcome → List ℕ → ℕ → Ports → Type 0
Scales outcome name d ports = OnNetwork outcome name ports (λ net. RefusedOr (IsUnscaled outcome net d) ports (OfScaled net d (WritesScaled outcome net d ports)))
