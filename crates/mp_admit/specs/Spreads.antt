-- The vector of the values of all movements.
use Rattle.std.specs.Prelude.{◌≡◌, List, length, ℤ, pos, ◌≤ℤ◌, All, Option, Some, option_and_then}
use Rattle.mp_model.specs.Network.{Network}
use Rattle.mp_flow.specs.Systems.{stated_worths}
use Rattle.mp_verdict.specs.Vector.{link_values, vector_by}

-- This is the vector of some values: they bring something to the links, from which come the worths.
unfoldable pub vector_from : Network → List ℤ → Option (List ℤ)
vector_from net values = option_and_then (λ u. option_and_then (λ worths. vector_by net values worths) (stated_worths net u)) (link_values net values)

-- Values bring no less than 0 to any link.
pub record BringSigned (net : Network) (values : List ℤ) : Type 0 where
  pub shape : (u : List ℤ) → link_values net values ≡ Some u → (length u ≡ length net.links) × All (λ v. pos 0 ≤ℤ v) u
