-- The law on the bounds of a plan: without a cycle of movements there is one list of them.
use Rattle.std.specs.Prelude.{◌≡◌, ℕ, zero, suc, ◌+◌, List, length, map}
use Rattle.mp_model.specs.Network.{Network, movement_numbers}
use Rattle.mp_model.specs.NetworkRules.{IsNetwork}
use Rattle.mp_model.specs.Plans.{IsOnCycle, planned_bound}

-- These are the bounds of a plan with this cycle for the flows f over d: each follows from those before it.
abbrev pub ArePlannedBounds : Network → List ℕ → ℕ → ℕ → List ℕ → Type 0
ArePlannedBounds net f d cycle bounds = bounds ≡ map (planned_bound net f d cycle bounds) (movement_numbers net)

-- There is exactly one list of bounds.
pub record HasOneList (net : Network) (f : List ℕ) (d cycle : ℕ) : Type 0 where
  pub bounds : List ℕ
  pub are : ArePlannedBounds net f d cycle bounds
  pub only : (others : List ℕ) → ArePlannedBounds net f d cycle others → others ≡ bounds

-- This is so where no link is on a cycle of movements.
abbrev pub OneListLaw : Type 0
OneListLaw = (net : Network) → IsNetwork net → ((l : ℕ) → ¬ IsOnCycle net l) → (f : List ℕ) (d cycle : ℕ) → HasOneList net f d cycle

-- These are the bounds after so many turns from a list, each formed from those before it.
abbrev pub formed_bounds : Network → List ℕ → ℕ → ℕ → ℕ → List ℕ → List ℕ
formed_bounds net f d cycle zero bounds = bounds
formed_bounds net f d cycle (suc n) bounds = map (planned_bound net f d cycle (formed_bounds net f d cycle n bounds)) (movement_numbers net)

-- Where no link is on a cycle of movements, any list is formed to the bounds in two turns more than there are links.
abbrev pub SettledLaw : Type 0
SettledLaw = (net : Network) → IsNetwork net → ((l : ℕ) → ¬ IsOnCycle net l) → (f : List ℕ) (d cycle : ℕ) (bounds : List ℕ) → ArePlannedBounds net f d cycle (formed_bounds net f d cycle (length net.links + 2) bounds)
