-- The laws of growth under even arrivals.
use Rattle.std.specs.Prelude.{◌≡◌, ◌≤◌, ℕ, ◌*◌, List, length, sum_by, ℤ, pos, ◌*ℤ◌, ◌≤ℤ◌, Some, None, All}
use Rattle.mp_model.specs.Arrivals.{IsPermitted}
use Rattle.mp_model.specs.Load.{load, capacity}
use Rattle.mp_model.specs.Network.{Network, movement_numbers}
use Rattle.mp_model.specs.NetworkRules.{IsNetwork}
use Rattle.mp_model.specs.Pressure.{weight, positive_weight}
use Rattle.mp_model.specs.Step.{State, queue, passed}
use Rattle.mp_model.specs.Sums.{int_sum_by}
use Rattle.mp_overload.specs.Evens.{even_periods, uneven_link}
use Rattle.mp_overload.specs.Growing.{growth, lost_to_rounding, weighed_queues, HasGrown}
use Rattle.mp_overload.specs.Forming.{natural_entry, growth_formed, lost_formed, queues_formed, least_formed}
use Rattle.mp_overload.specs.Trails.{trail, even_run, IsOnTrail}

-- Where no fed link is uneven, even arrivals are permitted, in however many periods.
abbrev pub EvenLaw : Type 0
EvenLaw = (net : Network) → IsNetwork net → uneven_link net ≡ None → (T : ℕ) → IsPermitted net (even_periods net T)

-- Where a fed link is uneven, the even arrivals of a rate length are not permitted.
abbrev pub UnevenLaw : Type 0
UnevenLaw = (net : Network) → IsNetwork net → (l : ℕ) → uneven_link net ≡ Some l → ¬ IsPermitted net (even_periods net net.per)

-- What passes in a period, weighted by the weights of a vector, sums to at most the capacity.
pub record PassesWithin (net : Network) (stages : List ℕ) (q p : ℕ → ℕ) : Type 0 where
  pub positive : sum_by (λ k. passed net stages q k * positive_weight net p k) (movement_numbers net) ≤ capacity net p
  pub weights : int_sum_by (λ k. pos (passed net stages q k) *ℤ weight net p k) (movement_numbers net) ≤ℤ pos (capacity net p)

-- This holds of all stages and queues.
abbrev pub PassingLaw : Type 0
PassingLaw = (net : Network) (stages : List ℕ) (q p : ℕ → ℕ) → PassesWithin net stages q p

-- After any choices of stages, one list of them a period, the queues that a vector weighs are at least the growth of all periods, less what is lost to rounding.
abbrev pub GrowthLaw : Type 0
GrowthLaw = (net : Network) → IsNetwork net → (p : ℕ → ℕ) (choices : List (List ℕ)) → HasGrown net p (length choices) (queue (trail net choices))

-- So they are in each state on a trail.
abbrev pub TrailLaw : Type 0
TrailLaw = (net : Network) → IsNetwork net → (state : State) → IsOnTrail net state → (p : ℕ → ℕ) → HasGrown net p state.period (queue state)

-- Where the stated calculations of a vector's growth, of what is lost to rounding and of the queues that it weighs exceed nothing, they come to just these.
pub record FormsGrowth (net : Network) (p : List ℤ) : Type 0 where
  pub growth_is : (z : ℤ) → growth_formed (pos (load net (natural_entry p))) (pos (net.per * capacity net (natural_entry p))) ≡ Some z → z ≡ growth net (natural_entry p)
  pub lost_is : (z : ℤ) → lost_formed net p ≡ Some z → z ≡ pos (lost_to_rounding net (natural_entry p))
  pub queues_are : (q : ℕ → ℕ) (z : ℤ) → queues_formed net p q ≡ Some z → z ≡ pos (weighed_queues net (natural_entry p) q)

-- This holds of every list of numbers that are at least 0.
abbrev pub FormedLaw : Type 0
FormedLaw = (net : Network) (p : List ℤ) → All (λ x. pos 0 ≤ℤ x) p → FormsGrowth net p

-- What is formed of a vector and of a state: the growth a period, what is lost to rounding, the queues that the vector weighs, and the least that they have come to.
pub record IsFormed (net : Network) (p : List ℤ) (state : State) (per lost sum least : ℤ) : Type 0 where
  pub growth_so : growth_formed (pos (load net (natural_entry p))) (pos (net.per * capacity net (natural_entry p))) ≡ Some per
  pub lost_so : lost_formed net p ≡ Some lost
  pub queues_so : queues_formed net p (queue state) ≡ Some sum
  pub least_so : least_formed state.period per lost ≡ Some least

-- In each state on a trail the weighed queues that are formed are at least the least that is formed.
abbrev pub LeastLaw : Type 0
LeastLaw = (net : Network) → IsNetwork net → (p : List ℤ) → All (λ x. pos 0 ≤ℤ x) p → (state : State) → IsOnTrail net state → (per lost sum least : ℤ) → IsFormed net p state per lost sum least → least ≤ℤ sum

-- The state of a run over T periods of even arrivals is on a trail, that of the greatest stages, and T periods old.
pub record IsOnTrailAt (net : Network) (T : ℕ) (state : State) : Type 0 where
  pub on : IsOnTrail net state
  pub period : state.period ≡ T

-- This holds of every number of periods.
abbrev pub RunLaw : Type 0
RunLaw = (net : Network) (T : ℕ) → IsOnTrailAt net T (even_run net T)
