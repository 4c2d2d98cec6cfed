-- What the steps of making a plan come to.
use Rattle.std.specs.Prelude.{◌≡◌, ◌≤◌, ℕ, List, map, sum, None, Some, Result, Ok, Err}
use Rattle.std.specs.List.{AllByRecursion}
use Rattle.std.specs.declared.vec.Vec.{Vec}
use Rattle.mp_flow.specs.Calculating.{flows_of}
use Rattle.mp_flow.specs.Systems.{AreFlows, stated_flows}
use Rattle.mp_flow.specs.declared.network.FlowPair.{FlowPair}
use Rattle.mp_model.specs.Network.{Network, junction_at, junction_numbers}
use Rattle.mp_model.specs.Plans.{planned_greens}
use Rattle.mp_planned.specs.Bounds.{ArePlannedBounds}
use Rattle.mp_plan.specs.Made.{HasGreens, IsFull, IsFirstFull, GreensPass, denominator_of, rates_of}
use Rattle.mp_plan.specs.Stated.{stated_bounds, stated_greens}
use Rattle.mp_plan.specs.declared.fault.PlanFault.{PlanFault}
use Rattle.mp_plan.specs.declared.fault.PlanFault.TheVariants.{Cycle, Flow, Full, Overflow, NoMemory}

-- These are the flows of the links, as natural numbers.
abbrev pub rates : FlowPair → List ℕ
rates p = rates_of (flows_of p)

-- This is their denominator, as a natural number.
abbrev pub over : FlowPair → ℕ
over p = denominator_of (flows_of p)

-- The flows are those of the stated calculation, and are balanced; or it exceeds 128 bits; or memory ran out.
abbrev pub FlowEnds : Network → Result FlowPair PlanFault → Type 0
FlowEnds net (Ok p) = (stated_flows net ≡ Some (flows_of p)) × AreFlows net (flows_of p)
FlowEnds net (Err Flow) = stated_flows net ≡ None
FlowEnds net (Err NoMemory) = Unit {0}
FlowEnds net (Err (Cycle l)) = ⊥
FlowEnds net (Err (Full j)) = ⊥
FlowEnds net (Err Overflow) = ⊥

-- The greens of junction j are found and fit; or they exceed the cycle, or 128 bits; or memory ran out.
abbrev pub JunctionEnds : {A : Type 0} → Network → List ℕ → ℕ → ℕ → ℕ → Result (Vec ℕ A) PlanFault → Type 0
JunctionEnds net f d cycle j (Ok greens) = (stated_greens net f d cycle (junction_at net j) ≡ Some greens.items) × (sum greens.items ≤ cycle)
JunctionEnds net f d cycle j (Err (Full i)) = (i ≡ j) × IsFull net f d cycle j
JunctionEnds net f d cycle j (Err Overflow) = stated_greens net f d cycle (junction_at net j) ≡ None
JunctionEnds net f d cycle j (Err NoMemory) = Unit {0}
JunctionEnds net f d cycle j (Err Flow) = ⊥
JunctionEnds net f d cycle j (Err (Cycle l)) = ⊥

-- The greens of all junctions are found and fit; or at the first where they don't they exceed the cycle, or 128 bits; or memory ran out.
abbrev pub GreensEnd : {A B : Type 0} → Network → List ℕ → ℕ → ℕ → Result (Vec (Vec ℕ A) B) PlanFault → Type 0
GreensEnd net f d cycle (Ok greens) = (map (λ row. row.items) greens.items ≡ map (planned_greens net f d cycle) net.junctions) × AllByRecursion (HasGreens net f d cycle) (junction_numbers net)
GreensEnd net f d cycle (Err (Full j)) = IsFirstFull net f d cycle j
GreensEnd net f d cycle (Err Overflow) = GreensPass net f d cycle
GreensEnd net f d cycle (Err NoMemory) = Unit {0}
GreensEnd net f d cycle (Err Flow) = ⊥
GreensEnd net f d cycle (Err (Cycle l)) = ⊥

-- The bounds exceed 128 bits, or one is above 2^62.
pub record AreBeyond (net : Network) (f : List ℕ) (d cycle : ℕ) : Type 0 where
  pub bounds : List ℕ
  pub are : ArePlannedBounds net f d cycle bounds
  pub passes : stated_bounds net f d cycle bounds ≡ None

-- The bounds are found; or they are beyond their range; or memory ran out.
abbrev pub BoundsEnd : {A : Type 0} → Network → List ℕ → ℕ → ℕ → Result (Vec ℕ A) PlanFault → Type 0
BoundsEnd net f d cycle (Ok bounds) = ArePlannedBounds net f d cycle bounds.items × (stated_bounds net f d cycle bounds.items ≡ Some bounds.items)
BoundsEnd net f d cycle (Err Overflow) = AreBeyond net f d cycle
BoundsEnd net f d cycle (Err NoMemory) = Unit {0}
BoundsEnd net f d cycle (Err Flow) = ⊥
BoundsEnd net f d cycle (Err (Full j)) = ⊥
BoundsEnd net f d cycle (Err (Cycle l)) = ⊥
