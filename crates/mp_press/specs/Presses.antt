-- What the code weighs.
use Rattle.std.specs.Prelude.{◌≡◌, ℕ, ◌*◌, List, length, sum_by, ℤ, pos}
use Rattle.mp_model.specs.Network.{Network, Junction, junction_at, share_of, flow_of, out_of, own, next, entry, stage_numbers, stage_at}
use Rattle.mp_model.specs.Arrivals.{count_in}
use Rattle.mp_model.specs.Split.{first_greatest}
use Rattle.mp_model.specs.Pressure.{positive_weight_by}
use Rattle.mp_press.specs.Queues.{AreCounts}

-- This is what is queued on link l: the queues of the movements out of it, each times its share.
abbrev pub queued_on : Network → (ℕ → ℕ) → ℕ → ℕ
queued_on net q l = sum_by (λ k. share_of net k * q k) (out_of net l)

-- The press of movement k is its flow times its positive weight.
abbrev pub press_by : Network → (ℕ → ℕ) → (ℕ → ℕ) → ℕ → ℕ
press_by net q r k = flow_of net k * positive_weight_by net q r k

-- These are the movements of junction j.
abbrev pub own_of : Network → ℕ → List ℕ
own_of net j = own net (junction_at net j)

-- These are the movements behind junction j.
abbrev pub next_of : Network → ℕ → List ℕ
next_of net j = next net (junction_at net j)

-- This is the queue of movement k, where one is given for each movement of junction j.
abbrev pub own_queue : Network → ℕ → List ℕ → ℕ → ℕ
own_queue net j queues k = count_in (own_of net j) queues k

-- This is the queue of movement k, where one is given for each movement behind junction j.
abbrev pub next_queue : Network → ℕ → List ℕ → ℕ → ℕ
next_queue net j queues k = count_in (next_of net j) queues k

-- Queues can be weighed at junction j where there is a count for each of its movements, and one for each movement behind it.
pub record CanWeigh (net : Network) (j : ℕ) (mine behind : List ℤ) : Type 0 where
  pub own_size : length mine ≡ length (own_of net j)
  pub next_size : length behind ≡ length (next_of net j)
  pub own_counts : AreCounts mine
  pub next_counts : AreCounts behind

-- This is the stage of a junction whose movements have the greatest sum in a table, and the lowest one on ties.
abbrev pub greatest_in : Junction → List ℕ → ℕ
greatest_in j presses = first_greatest (λ s. pos (sum_by (entry presses) (stage_at j s))) (stage_numbers j)
