-- What `demo` promises.
use Rattle.std.specs.Prelude.{◌≡◌, ℕ, List, length}
use Rattle.mp_model.specs.Arrivals.{IsPermitted}
use Rattle.mp_model.specs.Certificate.{Cert}
use Rattle.mp_model.specs.Network.{Network}
use Rattle.mp_gen.specs.declared.demonstration.TheConstants.{PERIODS}
use Rattle.mp_gen.specs.DemoArrivals.{IsDemonstration}
use Rattle.mp_gen.specs.DemoNetwork.{demo_network}
use Rattle.mp_gen.specs.DemoText.{demo_summary}
use Rattle.mp_cli.specs.declared.outcome.Outcome.{Outcome}
use Rattle.mp_cli.specs.Ports.{Ports, Answers, RefusedOr}
use Rattle.mp_cli.specs.Sessions.{OnSession, OnAnySession, AtGreatest}
use Rattle.mp_cli.specs.Verdicts.{IsUnfinished, OfAdmitted}

-- The arrivals of a demonstration over 2^20 periods are permitted, and the text of their run under a slack was put.
pub record IsShownRun (outcome : Outcome) (net : Network) (n : ℕ) (ports : Ports) (num den : ℕ) (bounds : List ℕ) : Type 0 where
  pub arrivals : List (List ℕ)
  pub periods : length arrivals ≡ PERIODS
  pub drawn : IsDemonstration n arrivals
  pub permitted : IsPermitted net arrivals
  pub answers : Answers outcome ports (demo_summary n net num den bounds arrivals)

-- This is what each outcome says of a demonstration under a certificate.
abbrev pub ShowsUnder : Outcome → Network → ℕ → Cert → Ports → Type 0
ShowsUnder outcome net n cert ports = OnAnySession outcome net cert ports (IsShownRun outcome net n ports)

-- This is what each outcome says of `demo`: its network is neither critical nor overloaded, and under its certificate the run was shown with the greatest slack.
abbrev pub Demonstrates : Outcome → ℕ → Ports → Type 0
Demonstrates outcome n ports =
    RefusedOr (IsUnfinished outcome (demo_network n)) ports (OfAdmitted (demo_network n) (λ cert.
    OnSession outcome (demo_network n) cert ports (AtGreatest (demo_network n) (IsShownRun outcome (demo_network n) n ports))))
