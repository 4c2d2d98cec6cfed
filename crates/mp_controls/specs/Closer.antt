-- A closer bound of each queue, by which the bound one lower holds at worked networks.
use Rattle.std.specs.Prelude.{◌≡◌, ◌≤◌, ℕ, ◌+◌, ◌-◌, ◌*◌, ◌/◌, max, List, [], ◌∷◌, length, map, sum_by}
use Rattle.std.specs.List.{AllByRecursion}
use Rattle.mp_model.specs.Arrivals.{IsPermitted}
use Rattle.mp_model.specs.Bounds.{IsRoot, credit_term, drift_constant, queue_threshold, queue_bound}
use Rattle.mp_model.specs.Certificate.{Cert, Certifies}
use Rattle.mp_model.specs.DriftValue.{drift_value}
use Rattle.mp_model.specs.Network.{Network, movement_numbers, from_of, out_of, entry}
use Rattle.mp_model.specs.NetworkRules.{IsNetwork}
use Rattle.mp_model.specs.Pressure.{AllGreatest}
use Rattle.mp_model.specs.Run.{run}
use Rattle.mp_model.specs.Slack.{IsSlack}
use Rattle.mp_model.specs.Step.{queue}
use Rattle.mp_model.specs.Worked.{two_approaches, tandem, roundabout}
use Rattle.mp_laws.specs.Periods.{IsPeriod, IsWithin}
use Rattle.mp_controls.specs.Lower.{StartsEmpty}

-- The credit part of movement k is the rate length times the greatest credit: its credit-and-burst term without the burst.
abbrev pub credit_part : Network → ℕ → ℕ
credit_part net k = net.per * (length (out_of net (from_of net k)) - 1) * (net.shares - 1)

-- The burst part of the network is the sum of the squares of the credit-and-burst terms, each less the square of its credit part.
abbrev pub burst_part : Network → ℕ
burst_part net = sum_by (λ k. credit_term net k * credit_term net k - credit_part net k * credit_part net k) (movement_numbers net)

-- While s vehicles are queued, the drift value is at most the burst part plus the square of the sum of the credit parts and the share total times the rate length times s: a full bucket only lowers a corrected queue.
abbrev pub value_of : Network → ℕ → ℕ
value_of net s =
    let root = net.shares * net.per * s + sum_by (credit_part net) (movement_numbers net) in
    root * root + burst_part net

-- What the threshold leaves of the drift constant is D times the constant, less E times the threshold times twice the square of the share total and rate length, divided by D and rounded down.
abbrev pub constant_left : Network → ℕ → ℕ → ℕ
constant_left net E D = (D * drift_constant net - 2 * (net.shares * net.per * (net.shares * net.per)) * E * queue_threshold net E D) / D

-- The closer drift value is the greater of what a period can lead to when none is queued, and when the threshold is queued.
abbrev pub closer_drift : Network → ℕ → ℕ → ℕ
closer_drift net E D = max (value_of net 0 + drift_constant net) (value_of net (queue_threshold net E D) + constant_left net E D)

-- A period with greatest stages keeps the drift value at most the closer drift value.
abbrev pub CloserDriftLaw : Type 0
CloserDriftLaw = (net : Network) → IsNetwork net → (cert : Cert) → Certifies net cert → (E D : ℕ) → IsSlack cert E D → (stages : List ℕ) (arrivals q phase level q' phase' level' : ℕ → ℕ) →
    AllGreatest net q net.junctions stages → IsPeriod net stages arrivals q phase level q' phase' level' → IsWithin net level →
    drift_value net q phase level ≤ closer_drift net E D → drift_value net q' phase' level' ≤ closer_drift net E D

-- The closer bounds of the movements are what the bounds would be if the closer drift value were the greatest.
pub record AreCloserBounds (net : Network) (E D : ℕ) (bounds : List ℕ) : Type 0 where
  pub root : ℕ
  pub is_root : IsRoot root (closer_drift net E D)
  pub are : bounds ≡ map (queue_bound net root) (movement_numbers net)

-- Over permitted arrivals each queue of each state of the run of a network is below the number listed for its movement by so much or more.
abbrev pub RunStays : Network → List ℕ → ℕ → Type 0
RunStays net bounds less = (A : List (List ℕ)) → IsPermitted net A → AllByRecursion (λ state. AllByRecursion (λ k. queue state k + less ≤ entry bounds k) (movement_numbers net)) (run net A)

-- With nothing queued at the start, over permitted arrivals of any length each queue of each state of the run is below its closer bound by so much or more.
abbrev pub StaysCloser : ℕ → Type 0
StaysCloser less = (net : Network) → IsNetwork net → StartsEmpty net → (cert : Cert) → Certifies net cert → (E D : ℕ) → IsSlack cert E D → (bounds : List ℕ) → AreCloserBounds net E D bounds → RunStays net bounds less

-- Each queue is at most its closer bound.
abbrev pub CloserBoundLaw : Type 0
CloserBoundLaw = StaysCloser 0

-- Not each is at least 2 below it: the closer bound of the slow lane is 1.
abbrev pub NotCloserTwoLower : Type 0
NotCloserTwoLower = ¬ StaysCloser 2

-- Two approaches with bounds of 24 stay at least 4 below them, the tandem with bounds of 10 and 9 and the roundabout with bounds of 14 at least 1.
pub record WorkedStayLower : Type 0 where
  pub two_approaches : RunStays two_approaches (24 ∷ 24 ∷ []) 4
  pub tandem : RunStays tandem (10 ∷ 9 ∷ []) 1
  pub roundabout : RunStays roundabout (14 ∷ 14 ∷ []) 1
