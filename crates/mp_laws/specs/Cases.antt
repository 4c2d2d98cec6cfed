-- Worked networks that meet the premises of the laws.
use Rattle.std.specs.Prelude.{ℕ, List, [], ◌∷◌, map}
use Rattle.mp_model.specs.Arrivals.{IsPermitted}
use Rattle.mp_model.specs.Bounds.{AreBounds}
use Rattle.mp_model.specs.Certificate.{Cert, Certifies, Carries}
use Rattle.mp_model.specs.Load.{IsOverloaded, IsCritical}
use Rattle.mp_model.specs.Network.{Network}
use Rattle.mp_model.specs.NetworkRules.{IsAcceptable}
use Rattle.mp_model.specs.Reports.{Period, AllTimely}
use Rattle.mp_model.specs.Slack.{IsSlack, IsGreatestSlack}
use Rattle.mp_model.specs.Worked.{two_approaches, two_approaches_at, two_approaches_from, two_approaches_cert, delayed_tandem, tandem, tandem_cert, roundabout, roundabout_cert}

-- A worked case is a network that can be accepted, with a certificate, its greatest slack, the bounds, and permitted arrivals.
pub record IsWorked (net : Network) (cert : Cert) (E D : ℕ) (bounds : List ℕ) (A : List (List ℕ)) : Type 0 where
  pub acceptable : IsAcceptable net
  pub certified : Certifies net cert
  pub slack : IsSlack cert E D
  pub greatest : IsGreatestSlack net E D
  pub bounds_are : AreBounds net E D bounds
  pub permitted : IsPermitted net A

-- Two approaches have a certificate of slack 3/4 and bounds of 24.
abbrev pub TwoApproachesCase : Type 0
TwoApproachesCase = IsWorked two_approaches two_approaches_cert 3 4 (24 ∷ 24 ∷ []) ((2 ∷ 0 ∷ []) ∷ (0 ∷ 0 ∷ []) ∷ (0 ∷ 0 ∷ []) ∷ (1 ∷ 0 ∷ []) ∷ [])

-- The tandem has a certificate of slack 1/4 and bounds of 10 and 9.
abbrev pub TandemCase : Type 0
TandemCase = IsWorked tandem tandem_cert 1 4 (10 ∷ 9 ∷ []) ((1 ∷ []) ∷ (0 ∷ []) ∷ (0 ∷ []) ∷ [])

-- Two approaches on which 50 and 30 vehicles stand when a run starts have that certificate, and bounds of 60.
abbrev pub StartedCase : Type 0
StartedCase = IsWorked (two_approaches_from 50 30) two_approaches_cert 3 4 (60 ∷ 60 ∷ []) ((2 ∷ 0 ∷ []) ∷ (0 ∷ 0 ∷ []) ∷ (0 ∷ 0 ∷ []) ∷ (1 ∷ 0 ∷ []) ∷ [])

-- In three periods of the tandem the first junction decides by reports that are 0, 1 and 2 periods old.
abbrev pub delayed_periods : List Period
delayed_periods = record { counts = 1 ∷ []; ages = (0 ∷ []) ∷ [] ∷ [] } ∷ record { counts = 0 ∷ []; ages = (1 ∷ []) ∷ [] ∷ [] } ∷ record { counts = 0 ∷ []; ages = (2 ∷ []) ∷ [] ∷ [] } ∷ []

-- The tandem with a delay of 2 has its certificate of slack 1/4, bounds of 26 and 25, and these reports are timely.
pub record DelayedCase : Type 0 where
  pub worked : IsWorked delayed_tandem tandem_cert 1 4 (26 ∷ 25 ∷ []) (map (λ period. period.counts) delayed_periods)
  pub timely : AllTimely delayed_tandem 0 delayed_periods

-- The roundabout has a certificate of slack 7/8 and bounds of 14.
abbrev pub RoundaboutCase : Type 0
RoundaboutCase = IsWorked roundabout roundabout_cert 7 8 (14 ∷ 14 ∷ []) ((1 ∷ []) ∷ (0 ∷ []) ∷ (0 ∷ []) ∷ [])

-- Two approaches of rate 5 are overloaded, and of rate 4 critical, where a certificate without excess carries the rates.
pub record RefusedCases : Type 0 where
  pub five : IsAcceptable (two_approaches_at 5) × IsOverloaded (two_approaches_at 5)
  pub four : IsAcceptable (two_approaches_at 4) × IsCritical (two_approaches_at 4)
  pub carried : Carries (two_approaches_at 4)
