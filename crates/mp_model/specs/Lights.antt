-- Runs in which lights alone say what passes, whatever the queues are, and the rates that lights serve.
use Rattle.std.specs.Prelude.{◌≤◌, ◌<◌, ℕ, zero, suc, ◌+◌, ◌*◌, min, Bool, cond, List, map, sum_by}
use Rattle.std.specs.List.{AllByRecursion, range_with_len}
use Rattle.mp_model.specs.Arrivals.{IsPermitted, arrivals_of}
use Rattle.mp_model.specs.Network.{Network, movement_numbers, from_of, flow_of, share_of, start_of, rate_before, burst_before, into_link, entry}
use Rattle.mp_model.specs.Run.{opening}
use Rattle.mp_model.specs.Step.{State, queue, joined, step_by}

-- Lights give for each period, numbered from 0, the arrivals and which movements are green.
pub record Lights : Type 0 where
  pub arrivals : ℕ → List ℕ
  pub green : ℕ → ℕ → Bool

-- A movement that is green passes the lesser of its flow and its queue, whatever its weight, and every other passes 0.
abbrev pub lit_pass : Network → Lights → ℕ → (ℕ → ℕ) → ℕ → ℕ
lit_pass net lights t q k = cond (lights.green t k) (min (flow_of net k) (q k)) 0

-- This is the state at the beginning of period t.
abbrev pub lit_state : Network → Lights → ℕ → State
lit_state net lights zero = opening net
lit_state net lights (suc t) =
    let state : State = lit_state net lights t in
    step_by net (lit_pass net lights t (queue state)) (arrivals_of net (lights.arrivals t)) state

-- These are the arrivals of the first n periods.
abbrev pub lit_arrivals : Lights → ℕ → List (List ℕ)
lit_arrivals lights n = map lights.arrivals (range_with_len 0 n)

-- This is how many of the n periods from a on are green.
abbrev pub greens_in : (ℕ → Bool) → ℕ → ℕ → ℕ
greens_in green a zero = 0
greens_in green a (suc n) = greens_in green a n + cond (green (a + n)) 1 0

-- Somebody waits at the beginning of each of the n periods from a on.
abbrev pub IsWaiting : (ℕ → ℕ) → ℕ → ℕ → Type 0
IsWaiting q a n = (u : ℕ) → a ≤ u → u < a + n → 1 ≤ q u

-- A demand has a denominator, for each movement a rate in vehicles per period, times the denominator, and for each movement in how many periods of any row its rate may go unserved.
pub record Demand : Type 0 where
  pub denominator : ℕ
  pub rate : ℕ → ℕ
  pub unserved : ℕ → ℕ

-- The rate of movement k carries its share of what its link receives, from outside and from the movements into it.
abbrev pub CarriesRate : Network → Demand → ℕ → Type 0
CarriesRate net demand k = share_of net k * (rate_before net k * demand.denominator + net.per * sum_by demand.rate (into_link net (from_of net k))) ≤ net.shares * net.per * demand.rate k

-- In the first T periods the lights serve movement k: over any row of periods in which somebody waits, its greens serve its rate in all periods but those that may go unserved.
abbrev pub ServesRate : Network → Lights → Demand → ℕ → ℕ → Type 0
ServesRate net lights demand T k = (a n : ℕ) → a + n ≤ T → IsWaiting (λ t. queue (lit_state net lights t) k) a n →
    n * demand.rate k ≤ demand.denominator * flow_of net k * greens_in (λ t. lights.green t k) a n + demand.rate k * demand.unserved k

-- In the first T periods the arrivals are permitted, and the lights serve the rates, which carry what comes.
pub record ServeDemand (net : Network) (lights : Lights) (demand : Demand) (T : ℕ) : Type 0 where
  pub some : 1 ≤ demand.denominator
  pub permitted : IsPermitted net (lit_arrivals lights T)
  pub carries : AllByRecursion (CarriesRate net demand) (movement_numbers net)
  pub serves : AllByRecursion (ServesRate net lights demand T) (movement_numbers net)

-- Of any r vehicles of its link that come one after the other, behind any n, movement k gets at most its share and this surplus, both in vehicles times the share total.
abbrev pub HasSurplus : Network → ℕ → ℕ → Type 0
HasSurplus net k surplus = (n r : ℕ) → net.shares * joined net (from_of net k) (n + r) k ≤ net.shares * joined net (from_of net k) n k + share_of net k * r + surplus

-- The vehicles that may come to movement k at once, beside its rate, times the share total and the denominator: its share of the burst of its link and of the bursts of the movements into it, and its surplus.
abbrev pub crowd_by : Network → ℕ → ℕ → List ℕ → ℕ → ℕ
crowd_by net denominator surplus bursts k = denominator * (share_of net k * (burst_before net k + sum_by (entry bursts) (into_link net (from_of net k))) + surplus)

-- A number of vehicles holds the start queue of movement k, those that may come at once, and those that come at its rate in so many periods.
abbrev pub HoldsRate : Network → Demand → ℕ → List ℕ → ℕ → ℕ → ℕ → Type 0
HoldsRate net demand surplus bursts k periods n =
    net.shares * demand.denominator * start_of net k + crowd_by net demand.denominator surplus bursts k + net.shares * demand.rate k * periods ≤ net.shares * demand.denominator * n

-- The burst of movement k holds what comes in the periods that may go unserved.
abbrev pub HoldsUnserved : Network → Demand → (ℕ → ℕ) → List ℕ → ℕ → Type 0
HoldsUnserved net demand surplus bursts k = HoldsRate net demand (surplus k) bursts k (demand.unserved k) (entry bursts k)

-- These bursts carry those before them.
pub record CarryRates (net : Network) (demand : Demand) (surplus : ℕ → ℕ) (b : List ℕ) : Type 0 where
  pub surpluses : AllByRecursion (λ k. HasSurplus net k (surplus k)) (movement_numbers net)
  pub bursts : AllByRecursion (HoldsUnserved net demand surplus b) (movement_numbers net)
