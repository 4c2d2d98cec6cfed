-- The laws on what passes under lights that serve a demand, and on the bound of each queue.
use Rattle.std.specs.Prelude.{◌≤◌, ℕ, zero, suc, ◌+◌, ◌*◌, List}
use Rattle.std.specs.List.{AllByRecursion}
use Rattle.mp_model.specs.Lights.{Lights, Demand, CarryRates, HoldsRate, ServeDemand, lit_pass, lit_state}
use Rattle.mp_model.specs.Network.{Network, movement_numbers, entry}
use Rattle.mp_model.specs.NetworkRules.{IsNetwork}
use Rattle.mp_model.specs.Step.{queue}

-- This is a sum over the n periods from a on.
abbrev pub total : (ℕ → ℕ) → ℕ → ℕ → ℕ
total f a zero = 0
total f a (suc n) = total f a n + f (a + n)

-- This is how many vehicles movement k passes in period t.
abbrev pub passes_at : Network → Lights → ℕ → ℕ → ℕ
passes_at net lights k t = lit_pass net lights t (queue (lit_state net lights t)) k

-- What movement k passes in any n periods is, times the denominator, at most its burst times the denominator and its rate for each of them.
abbrev pub PassingLaw : Type 0
PassingLaw = (net : Network) → IsNetwork net → (lights : Lights) (demand : Demand) (T : ℕ) → ServeDemand net lights demand T → (surplus : ℕ → ℕ) (bursts : List ℕ) → CarryRates net demand surplus bursts → (a n : ℕ) → a + n ≤ T →
    AllByRecursion (λ k. demand.denominator * total (passes_at net lights k) a n ≤ demand.denominator * entry bursts k + n * demand.rate k) (movement_numbers net)

-- At each beginning the queue of movement k is at most each number that holds the bursts before it and what comes at its rate in the periods that may go unserved and one more.
abbrev pub ServedBoundLaw : Type 0
ServedBoundLaw = (net : Network) → IsNetwork net → (lights : Lights) (demand : Demand) (T : ℕ) → ServeDemand net lights demand T → (surplus : ℕ → ℕ) (bursts : List ℕ) → CarryRates net demand surplus bursts → (t : ℕ) → t ≤ T →
    AllByRecursion (λ k. (bound : ℕ) → HoldsRate net demand (surplus k) bursts k (1 + demand.unserved k) bound → queue (lit_state net lights t) k ≤ bound) (movement_numbers net)
