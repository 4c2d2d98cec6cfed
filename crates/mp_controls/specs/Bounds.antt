-- Sharper forms of the laws on the bound of each queue, which do not hold.
use Rattle.std.specs.Prelude.{◌≡◌, ◌≤◌, ℕ, ◌+◌, List}
use Rattle.std.specs.List.{AllByRecursion}
use Rattle.mp_model.specs.Arrivals.{IsPermitted, HasCounts}
use Rattle.mp_model.specs.Bounds.{AreBounds}
use Rattle.mp_model.specs.EventCore.{Event, core_opening, core_after, closed_of}
use Rattle.mp_model.specs.Network.{Network, movement_numbers, entry}
use Rattle.mp_model.specs.NetworkRules.{IsAcceptable}
use Rattle.mp_model.specs.Run.{run}
use Rattle.mp_model.specs.Slack.{IsGreatestSlack}
use Rattle.mp_model.specs.Step.{queue}

-- In a network that can be accepted, under its greatest slack and over permitted arrivals, each queue of each state of the run is below its bound by so much or more.
abbrev pub BoundLower : ℕ → Type 0
BoundLower less = (net : Network) → IsAcceptable net → (E D : ℕ) → IsGreatestSlack net E D → (bounds : List ℕ) → AreBounds net E D bounds → (A : List (List ℕ)) → IsPermitted net A →
    AllByRecursion (λ state. AllByRecursion (λ k. queue state k + less ≤ entry bounds k) (movement_numbers net)) (run net A)

-- Not each queue stays at least 2 below its bound: the bound of the slow lane is 1.
abbrev pub NotBoundTwoLower : Type 0
NotBoundTwoLower = ¬ BoundLower 2

-- After any events that closed lists of one count per fed link, each queue of the core of such a network is below its bound by so much or more.
abbrev pub CoreBoundLower : ℕ → Type 0
CoreBoundLower less = (net : Network) → IsAcceptable net → (E D : ℕ) → IsGreatestSlack net E D → (bounds : List ℕ) → AreBounds net E D bounds → (es : List Event) → AllByRecursion (HasCounts net) (closed_of net (core_opening net) es) →
    AllByRecursion (λ k. entry (core_after net (core_opening net) es).queues k + less ≤ entry bounds k) (movement_numbers net)

-- Not each queue of the core stays at least 2 below its bound, by the same lane.
abbrev pub NotCoreBoundTwoLower : Type 0
NotCoreBoundTwoLower = ¬ CoreBoundLower 2

-- A slack and the one with an excess of one more have the same bounds.
abbrev pub BoundsOfNextSlack : Type 0
BoundsOfNextSlack = (net : Network) (E D : ℕ) (bounds bounds' : List ℕ) → AreBounds net E D bounds → AreBounds net (E + 1) D bounds' → bounds ≡ bounds'

-- They do not: two approaches have bounds of 24 under 3/4, and of 20 under 4/4.
abbrev pub NotBoundsOfNextSlack : Type 0
NotBoundsOfNextSlack = ¬ BoundsOfNextSlack
