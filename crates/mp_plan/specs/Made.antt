-- What a plan that was made for a network is, and why there is none.
use Rattle.std.specs.Prelude.{◌≡◌, ◌<◌, ◌≤◌, ◌^◌, ◌-◌, ◌⊎◌, ℕ, List, length, map, sum, Option, Some, None, unsigned_abs}
use Rattle.std.specs.List.{All, AllByRecursion}
use Rattle.mp_flow.specs.Systems.{Flows, stated_flows}
use Rattle.mp_model.specs.Network.{Network, junction_at, junction_numbers, numbers_to}
use Rattle.mp_model.specs.Plans.{IsOnCycle, IsPlan, Plan}
use Rattle.mp_planned.specs.Bounds.{ArePlannedBounds}
use Rattle.mp_plan.specs.Stated.{stated_bounds, stated_greens}
use Rattle.mp_plan.specs.declared.fault.PlanFault.{PlanFault}
use Rattle.mp_plan.specs.declared.fault.PlanFault.TheVariants.{Cycle, Flow, Full, Overflow, NoMemory}

-- No link is on a cycle of movements.
abbrev pub HasNoCycle : Network → Type 0
HasNoCycle net = (l : ℕ) → ¬ IsOnCycle net l

-- The link is on a cycle of movements and none before it is; where none is named, no link is.
abbrev pub IsFirstOnCycle : Network → Option ℕ → Type 0
IsFirstOnCycle net None = HasNoCycle net
IsFirstOnCycle net (Some l) = IsOnCycle net l × AllByRecursion (λ m. ¬ IsOnCycle net m) (numbers_to (l - 1))

-- These are the flows of the links as natural numbers.
abbrev pub rates_of : Flows → List ℕ
rates_of flows = map unsigned_abs flows.rate

-- This is their denominator as a natural number.
abbrev pub denominator_of : Flows → ℕ
denominator_of flows = unsigned_abs flows.d

-- No link is on a cycle, and the flows are those of the stated calculation.
pub record HasFlows (net : Network) (flows : Flows) : Type 0 where
  pub no_cycle : HasNoCycle net
  pub found : stated_flows net ≡ Some flows

-- The greens of junction j are found, and fit into the cycle.
pub record HasGreens (net : Network) (f : List ℕ) (d cycle j : ℕ) : Type 0 where
  pub greens : List ℕ
  pub stated : stated_greens net f d cycle (junction_at net j) ≡ Some greens
  pub fit : sum greens ≤ cycle

-- The greens of junction j are found, and sum to more than the cycle.
pub record IsFull (net : Network) (f : List ℕ) (d cycle j : ℕ) : Type 0 where
  pub greens : List ℕ
  pub stated : stated_greens net f d cycle (junction_at net j) ≡ Some greens
  pub above : cycle < sum greens

-- Junction j is the first that is full; at none before it a green exceeds 128 bits.
pub record IsFirstFull (net : Network) (f : List ℕ) (d cycle j : ℕ) : Type 0 where
  pub low : 1 ≤ j
  pub high : j ≤ length net.junctions
  pub before : AllByRecursion (HasGreens net f d cycle) (numbers_to (j - 1))
  pub full : IsFull net f d cycle j

-- At some junction the greens exceed 128 bits, and at each before it they fit into the cycle.
pub record GreensPass (net : Network) (f : List ℕ) (d cycle : ℕ) : Type 0 where
  pub junction : ℕ
  pub low : 1 ≤ junction
  pub high : junction ≤ length net.junctions
  pub before : AllByRecursion (HasGreens net f d cycle) (numbers_to (junction - 1))
  pub passes : stated_greens net f d cycle (junction_at net junction) ≡ None

-- All greens fit into the cycle, and the calculation of the bounds, from the bounds themselves, exceeds 128 bits or gives one above 2^62.
pub record BoundsPass (net : Network) (f : List ℕ) (d cycle : ℕ) : Type 0 where
  pub greens : AllByRecursion (HasGreens net f d cycle) (junction_numbers net)
  pub bounds : List ℕ
  pub are : ArePlannedBounds net f d cycle bounds
  pub passes : stated_bounds net f d cycle bounds ≡ None

-- There is no plan for this cause: the first link on a cycle of movements; then flows beyond 128 bits; then, junction by junction, greens beyond 128 bits or more than the cycle; then the bounds.
abbrev pub IsRefused : Network → ℕ → PlanFault → Type 0
IsRefused net cycle (Cycle link) = IsFirstOnCycle net (Some link)
IsRefused net cycle Flow = HasNoCycle net × (stated_flows net ≡ None)
IsRefused net cycle (Full junction) = (flows : Flows) × HasFlows net flows × IsFirstFull net (rates_of flows) (denominator_of flows) cycle junction
IsRefused net cycle Overflow = (flows : Flows) × HasFlows net flows × (GreensPass net (rates_of flows) (denominator_of flows) cycle ⊎ BoundsPass net (rates_of flows) (denominator_of flows) cycle)
IsRefused net cycle NoMemory = Unit {0}

-- The plan is the one of the stated calculation with this cycle.
pub record IsStatedPlan (net : Network) (cycle : ℕ) (plan : Plan) : Type 0 where
  pub flows : Flows
  pub has : HasFlows net flows
  pub greens : AllByRecursion (HasGreens net (rates_of flows) (denominator_of flows) cycle) (junction_numbers net)
  pub bounds : stated_bounds net (rates_of flows) (denominator_of flows) cycle plan.bounds ≡ Some plan.bounds
  pub is : IsPlan net (rates_of flows) (denominator_of flows) plan
  pub cycle_is : plan.cycle ≡ cycle

-- The plan is that of flows which carry the network, no link is on a cycle of movements, there is a bound per movement, and each is at most 2^62.
pub record IsPlanOn (net : Network) (plan : Plan) : Type 0 where
  pub flows : List ℕ
  pub denominator : ℕ
  pub is : IsPlan net flows denominator plan
  pub no_cycle : HasNoCycle net
  pub listed : length plan.bounds ≡ length net.movements
  pub few : All (λ b. b ≤ 2 ^ 62) plan.bounds
