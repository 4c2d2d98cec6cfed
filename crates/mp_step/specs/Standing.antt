-- Where a run stands, and one period with given stages.
use Rattle.std.specs.Prelude.{◌≡◌, ◌≤◌, ◌<◌, ℕ, ◌+◌, ◌*◌, ◌%◌, cond, min, nat_lt, List, length, map, sum_by}
use Rattle.std.specs.List.{AllByRecursion}
use Rattle.mp_model.specs.Network.{Network, movement_numbers, link_numbers, link_at, start_of, share_of, flow_of, from_of, out_of, into_link, entry}
use Rattle.mp_model.specs.Pressure.{positive_weight}
use Rattle.mp_model.specs.Arrivals.{arrivals_of}
use Rattle.mp_model.specs.Step.{State, received_by, step, new_queue}
use Rattle.mp_feed.specs.Fill.{Fill}
use Rattle.mp_step.specs.BucketLevels.{level_then, buckets_of}

-- A run stands with a queue per movement, a phase and a bucket level per link, the period, the totals, the shares of each link that its splits were made for, and the empty bucket of each link.
pub record Standing : Type 0 where
  pub queues : List ℕ
  pub phases : List ℕ
  pub levels : List ℕ
  pub period : ℕ
  pub total_in : ℕ
  pub total_out : ℕ
  pub splits : List (List ℕ)
  pub buckets : List Fill

-- These are the shares of the movements out of link l.
abbrev pub shares_in : Network → ℕ → List ℕ
shares_in net l = map (share_of net) (out_of net l)

-- These are the shares of each link.
abbrev pub splits_of : Network → List (List ℕ)
splits_of net = map (shares_in net) (link_numbers net)

-- The standing is one of this network, where no link is above its bucket and at most 1,408,000 vehicles a period have entered beside those of the start.
pub record IsOn (net : Network) (st : Standing) : Type 0 where
  pub queues : length st.queues ≡ length net.movements
  pub phases : length st.phases ≡ length net.links
  pub phase_in : AllByRecursion (λ l. entry st.phases l < net.shares) (link_numbers net)
  pub levels : length st.levels ≡ length net.links
  pub within : AllByRecursion (λ l. entry st.levels l ≤ net.per * (link_at net l).burst) (link_numbers net)
  pub few : st.total_in ≤ sum_by (start_of net) (movement_numbers net) + st.period * 1408000
  pub splits : st.splits ≡ splits_of net
  pub buckets : st.buckets ≡ buckets_of net

-- A run stands at a state where queues, period and totals are those of the state, and the phase of each link is what it received, modulo the share total.
pub record Stands (net : Network) (st : Standing) (state : State) : Type 0 where
  pub queues : st.queues ≡ state.queues
  pub phases : AllByRecursion (λ l. entry st.phases l ≡ received_by state l % net.shares) (link_numbers net)
  pub period : st.period ≡ state.period
  pub total_in : st.total_in ≡ state.total_in
  pub total_out : st.total_out ≡ state.total_out

-- This is the state with the phases for what the links received.
abbrev pub as_state : Standing → State
as_state st = record { period = st.period; queues = st.queues; received = st.phases; total_in = st.total_in; total_out = st.total_out }

-- The standing after a period is the step from its phases, with the phases modulo the share total again, and with the levels after the arrivals.
abbrev pub closed : Network → Standing → List ℕ → List ℕ → Standing
closed net st stages counts =
    let after : State = step net stages (arrivals_of net counts) (as_state st) in
    record {
      queues = after.queues;
      phases = map (λ n. n % net.shares) after.received;
      levels = map (level_then net (entry st.levels) counts) (link_numbers net);
      period = after.period;
      total_in = after.total_in;
      total_out = after.total_out;
      splits = st.splits;
      buckets = st.buckets;
    }

-- This is what movement k passes where it has green.
abbrev pub served : Network → (ℕ → ℕ) → ℕ → ℕ
served net q k = cond (nat_lt 0 (positive_weight net q k)) (min (flow_of net k) (q k)) 0

-- This is what link l receives where the movements pass y.
abbrev pub received : Network → List ℕ → (ℕ → ℕ) → ℕ → ℕ
received net counts y l = arrivals_of net counts l + sum_by y (into_link net l)

-- This is the new queue of movement k where the links have these phases and the movements pass y.
abbrev pub moved : Network → List ℕ → (ℕ → ℕ) → (ℕ → ℕ) → (ℕ → ℕ) → ℕ → ℕ
moved net counts phase q y k = new_queue net (q k) (y k) (phase (from_of net k)) (received net counts y (from_of net k)) k
