-- Sharper forms of the law that a period of the run is one of the drift laws, which do not hold.
use Rattle.std.specs.Prelude.{◌≡◌, ◌≤◌, ℕ, ◌+◌, ◌*◌, ◌%◌, List}
use Rattle.std.specs.List.{AllByRecursion}
use Rattle.mp_model.specs.Arrivals.{arrivals_of, next_level}
use Rattle.mp_model.specs.Network.{link_numbers, link_at, Network, movement_numbers, from_of}
use Rattle.mp_model.specs.NetworkRules.{IsNetwork}
use Rattle.mp_model.specs.Run.{greatest_stages, advance}
use Rattle.mp_model.specs.Step.{State, queue, got, passed, new_queue}
use Rattle.mp_laws.specs.Periods.{IsWithin, phase_of}

-- In each period of the run the level of each link falls by at most the rate less 1, less the rate length times the arrivals.
abbrev pub FallsOneLess : Type 0
FallsOneLess = (net : Network) → IsNetwork net → (counts : List ℕ) (level : ℕ → ℕ) → IsWithin net level →
    AllByRecursion (λ l. net.per * arrivals_of net counts l + level l + 1 ≤ next_level net.per (link_at net l).rate (level l) (arrivals_of net counts l) + (link_at net l).rate) (link_numbers net)

-- In each period of the run the level of each link rises by at most the rate length times the arrivals, less 1.
abbrev pub RisesOneLess : Type 0
RisesOneLess = (net : Network) → IsNetwork net → (counts : List ℕ) (level : ℕ → ℕ) → IsWithin net level →
    AllByRecursion (λ l. next_level net.per (link_at net l).rate (level l) (arrivals_of net counts l) + 1 ≤ level l + net.per * arrivals_of net counts l) (link_numbers net)

-- In each period of the run the phase of each link moves on by one more than what the link gets.
abbrev pub PhaseOneMore : Type 0
PhaseOneMore = (net : Network) → IsNetwork net → (counts : List ℕ) (state : State) →
    AllByRecursion (λ l. phase_of net (advance net counts state) l ≡ (phase_of net state l + got net (greatest_stages net (queue state)) (queue state) (arrivals_of net counts) l + 1) % net.shares) (link_numbers net)

-- In each period of the run each queue becomes one more than what remains and joins.
abbrev pub QueueOneMore : Type 0
QueueOneMore = (net : Network) → IsNetwork net → (counts : List ℕ) (state : State) →
    AllByRecursion (λ k. queue (advance net counts state) k ≡ new_queue net (queue state k) (passed net (greatest_stages net (queue state)) (queue state) k) (phase_of net state (from_of net k)) (got net (greatest_stages net (queue state)) (queue state) (arrivals_of net counts) (from_of net k)) k + 1) (movement_numbers net)

-- None of these holds: not at the level 1 of two approaches, at the level 0 of the tandem, and at the openings of the roundabout and of two approaches.
pub record NotSharperPeriod : Type 0 where
  pub falls : ¬ FallsOneLess
  pub rises : ¬ RisesOneLess
  pub phase : ¬ PhaseOneMore
  pub queue : ¬ QueueOneMore
