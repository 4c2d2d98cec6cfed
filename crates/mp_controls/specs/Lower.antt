-- The bound law with the greatest drift value taken one lower.
use Rattle.std.specs.Prelude.{◌≡◌, ◌≤◌, ℕ, ◌+◌, ◌-◌, List, length, map}
use Rattle.std.specs.List.{AllByRecursion}
use Rattle.mp_model.specs.Arrivals.{IsPermitted}
use Rattle.mp_model.specs.Bounds.{IsRoot, greatest_drift, queue_bound}
use Rattle.mp_model.specs.Certificate.{Cert, Certifies}
use Rattle.mp_model.specs.Network.{Network, movement_numbers, start_of, entry}
use Rattle.mp_model.specs.NetworkRules.{IsNetwork}
use Rattle.mp_model.specs.Run.{run}
use Rattle.mp_model.specs.Slack.{IsSlack}
use Rattle.mp_model.specs.Step.{queue}

-- Nothing is queued when a run starts.
abbrev pub StartsEmpty : Network → Type 0
StartsEmpty net = AllByRecursion (λ k. start_of net k ≡ 0) (movement_numbers net)

-- The lower bounds of the movements under the slack E/D are what the bounds would be if the greatest drift value were one lower.
pub record AreLowerBounds (net : Network) (E D : ℕ) (bounds : List ℕ) : Type 0 where
  pub root : ℕ
  pub is_root : IsRoot root (greatest_drift net E D - 1)
  pub are : bounds ≡ map (queue_bound net root) (movement_numbers net)

-- In a network with a movement and nothing queued at the start, over permitted arrivals of any length, each queue of each state of the run is below its lower bound by so much or more.
abbrev pub StaysLower : ℕ → Type 0
StaysLower less = (net : Network) → IsNetwork net → StartsEmpty net → 1 ≤ length net.movements → (cert : Cert) → Certifies net cert → (E D : ℕ) → IsSlack cert E D → (bounds : List ℕ) → AreLowerBounds net E D bounds → (A : List (List ℕ)) → IsPermitted net A →
    AllByRecursion (λ state. AllByRecursion (λ k. queue state k + less ≤ entry bounds k) (movement_numbers net)) (run net A)

-- Each queue of each state is at most its lower bound.
abbrev pub LowerBoundLaw : Type 0
LowerBoundLaw = StaysLower 0

-- Not each stays at least 1 below it: the lower bound of the still lane is 0.
abbrev pub NotOneLower : Type 0
NotOneLower = ¬ StaysLower 1

-- With queues at the start the law is false: two vehicles on a lane alone have the greatest drift value at once, and their bound one lower is 1.
abbrev pub NotLowerWithStarts : Type 0
NotLowerWithStarts = ¬ ((net : Network) → IsNetwork net → 1 ≤ length net.movements → (cert : Cert) → Certifies net cert → (E D : ℕ) → IsSlack cert E D → (bounds : List ℕ) → AreLowerBounds net E D bounds → (A : List (List ℕ)) → IsPermitted net A →
    AllByRecursion (λ state. AllByRecursion (λ k. queue state k ≤ entry bounds k) (movement_numbers net)) (run net A))
