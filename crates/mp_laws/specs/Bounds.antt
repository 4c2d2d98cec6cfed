-- The laws on the bound of each queue.
use Rattle.std.specs.Prelude.{◌≡◌, ◌≤◌, ℕ, List}
use Rattle.std.specs.List.{AllByRecursion}
use Rattle.mp_model.specs.Arrivals.{IsPermitted, HasCounts}
use Rattle.mp_model.specs.Bounds.{AreBounds, greatest_drift, IsRoot}
use Rattle.mp_model.specs.Certificate.{Cert, Certifies}
use Rattle.mp_model.specs.DriftValue.{drift_value}
use Rattle.mp_model.specs.EventCore.{Event, core_opening, core_after, closed_of}
use Rattle.mp_model.specs.Network.{Network, movement_numbers, entry}
use Rattle.mp_model.specs.NetworkRules.{IsNetwork}
use Rattle.mp_model.specs.Run.{run}
use Rattle.mp_model.specs.Slack.{IsSlack}
use Rattle.mp_model.specs.Step.{queue}
use Rattle.mp_laws.specs.Periods.{IsWithin}

-- A number has one whole root.
abbrev pub OneRootLaw : Type 0
OneRootLaw = (r s v : ℕ) → IsRoot r v → IsRoot s v → r ≡ s

-- A slack has one list of bounds.
abbrev pub OneBoundsLaw : Type 0
OneBoundsLaw = (net : Network) (E D : ℕ) (bounds bounds' : List ℕ) → AreBounds net E D bounds → AreBounds net E D bounds' → bounds ≡ bounds'

-- Where the drift value is at most its greatest, each queue is at most its bound.
abbrev pub QueueLaw : Type 0
QueueLaw = (net : Network) → IsNetwork net → (E D : ℕ) (bounds : List ℕ) → AreBounds net E D bounds → (q phase level : ℕ → ℕ) → IsWithin net level → drift_value net q phase level ≤ greatest_drift net E D →
    AllByRecursion (λ k. q k ≤ entry bounds k) (movement_numbers net)

-- Over permitted arrivals of any length each queue of each state of the run is at most its bound.
abbrev pub BoundLaw : Type 0
BoundLaw = (net : Network) → IsNetwork net → (cert : Cert) → Certifies net cert → (E D : ℕ) → IsSlack cert E D → (bounds : List ℕ) → AreBounds net E D bounds → (A : List (List ℕ)) → IsPermitted net A →
    AllByRecursion (λ state. AllByRecursion (λ k. queue state k ≤ entry bounds k) (movement_numbers net)) (run net A)

-- After any events that closed lists of one count per fed link, each queue of the core is at most its bound.
abbrev pub CoreBoundLaw : Type 0
CoreBoundLaw = (net : Network) → IsNetwork net → (cert : Cert) → Certifies net cert → (E D : ℕ) → IsSlack cert E D → (bounds : List ℕ) → AreBounds net E D bounds → (es : List Event) → AllByRecursion (HasCounts net) (closed_of net (core_opening net) es) →
    AllByRecursion (λ k. entry (core_after net (core_opening net) es).queues k ≤ entry bounds k) (movement_numbers net)
