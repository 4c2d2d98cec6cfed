-- How far the drift value that a period keeps can be lowered.
use Rattle.std.specs.Prelude.{◌≤◌, ℕ, ◌+◌, List, length}
use Rattle.mp_model.specs.Bounds.{greatest_drift}
use Rattle.mp_model.specs.Certificate.{Cert, Certifies}
use Rattle.mp_model.specs.DriftValue.{drift_value}
use Rattle.mp_model.specs.Network.{Network}
use Rattle.mp_model.specs.NetworkRules.{IsNetwork}
use Rattle.mp_model.specs.Pressure.{AllGreatest}
use Rattle.mp_model.specs.Slack.{IsSlack}
use Rattle.mp_laws.specs.Periods.{IsPeriod, IsWithin}

-- In a network with at least so many movements, a period with greatest stages that begins at most at the greatest drift value ends below it by so much or more.
abbrev pub KeepsLower : ℕ → ℕ → Type 0
KeepsLower some less = (net : Network) → IsNetwork net → some ≤ length net.movements → (cert : Cert) → Certifies net cert → (E D : ℕ) → IsSlack cert E D → (stages : List ℕ) (arrivals q phase level q' phase' level' : ℕ → ℕ) →
    AllGreatest net q net.junctions stages → IsPeriod net stages arrivals q phase level q' phase' level' → IsWithin net level →
    drift_value net q phase level ≤ greatest_drift net E D → drift_value net q' phase' level' + less ≤ greatest_drift net E D

-- Where there is a movement, each such period ends at least 1 below the greatest drift value.
abbrev pub DriftBelowLaw : Type 0
DriftBelowLaw = KeepsLower 1 1

-- Without a movement it need not: the greatest drift value of the empty network is 0.
abbrev pub NotOfNoMovement : Type 0
NotOfNoMovement = ¬ KeepsLower 0 1

-- Not each such period ends at least 2 below it: the greatest drift value of the still lane is 1.
abbrev pub NotTwoBelow : Type 0
NotTwoBelow = ¬ KeepsLower 1 2
