-- The bound law one lower, for networks with a burst and three movements.
use Rattle.std.specs.Prelude.{◌≡◌, ◌≤◌, ℕ, ◌+◌, List, [], ◌∷◌, length, true}
use Rattle.std.specs.List.{AllByRecursion}
use Rattle.mp_model.specs.Arrivals.{HasCounts}
use Rattle.mp_model.specs.Bounds.{AreBounds}
use Rattle.mp_model.specs.Certificate.{Cert, Certifies}
use Rattle.mp_model.specs.EventCore.{Event, core_opening, core_after, closed_of}
use Rattle.mp_model.specs.Network.{Network, movement_numbers, link_numbers, link_at, has, entry}
use Rattle.mp_model.specs.NetworkRules.{IsNetwork}
use Rattle.mp_model.specs.Slack.{IsSlack}
use Rattle.mp_laws.specs.Cases.{IsWorked}
use Rattle.mp_controls.specs.Lower.{StartsEmpty}
use Rattle.mp_controls.specs.Closer.{RunStays}
use Rattle.mp_controls.specs.Lane.{three_approaches, three_approaches_cert}

-- A network has a burst where the burst of some link is at least 1.
abbrev pub HasBurst : Network → Type 0
HasBurst net = (l : ℕ) × (has (link_numbers net) l ≡ true) × (1 ≤ (link_at net l).burst)

-- In a network with a burst, at least three movements and nothing queued at the start, over permitted arrivals of any length, each queue of each state of the run is below its bound by so much or more.
abbrev pub BurstStaysLower : ℕ → Type 0
BurstStaysLower less = (net : Network) → IsNetwork net → StartsEmpty net → HasBurst net → 3 ≤ length net.movements → (cert : Cert) → Certifies net cert → (E D : ℕ) → IsSlack cert E D → (bounds : List ℕ) → AreBounds net E D bounds → RunStays net bounds less

-- In such a network each queue is at least 1 below its bound.
abbrev pub OneLowerLaw : Type 0
OneLowerLaw = BurstStaysLower 1

-- Not each is at least 4 below it: of three lanes with one burst two have a bound of 3.
abbrev pub NotFourLower : Type 0
NotFourLower = ¬ BurstStaysLower 4

-- In such a network with a delay of 0, after any events that closed lists of one count per fed link, each queue of the core is at least 1 below its bound.
abbrev pub CoreOneLowerLaw : Type 0
CoreOneLowerLaw = (net : Network) → IsNetwork net → net.delay ≡ 0 → StartsEmpty net → HasBurst net → 3 ≤ length net.movements → (cert : Cert) → Certifies net cert → (E D : ℕ) → IsSlack cert E D → (bounds : List ℕ) → AreBounds net E D bounds → (es : List Event) → AllByRecursion (HasCounts net) (closed_of net (core_opening net) es) →
    AllByRecursion (λ k. entry (core_after net (core_opening net) es).queues k + 1 ≤ entry bounds k) (movement_numbers net)

-- Three approaches meet the premises of both: they have a certificate of slack 5/12, bounds of 40, a burst and three movements.
pub record ThreeApproachesCase : Type 0 where
  pub worked : IsWorked three_approaches three_approaches_cert 5 12 (40 ∷ 40 ∷ 40 ∷ []) ((1 ∷ 1 ∷ 1 ∷ []) ∷ (0 ∷ 0 ∷ 0 ∷ []) ∷ [])
  pub burst : HasBurst three_approaches
  pub three : 3 ≤ length three_approaches.movements
