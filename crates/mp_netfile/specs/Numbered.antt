-- Numbers that name something in a network.
use Rattle.std.specs.Prelude.{◌≤◌, ℕ, length, Option, Some, None}
use Rattle.mp_model.specs.Network.{Network, from_of, to_of}

-- A number is that of a link.
abbrev pub IsLink : Network → ℕ → Type 0
IsLink net l = (1 ≤ l) × (l ≤ length net.links)

-- A number is that of a movement.
abbrev pub IsMovement : Network → ℕ → Type 0
IsMovement net k = (1 ≤ k) × (k ≤ length net.movements)

-- A number is that of a junction.
abbrev pub IsJunction : Network → ℕ → Type 0
IsJunction net j = (1 ≤ j) × (j ≤ length net.junctions)

-- A target is the outside, or a link.
abbrev pub IsTarget : Network → Option ℕ → Type 0
IsTarget net None = Unit {0}
IsTarget net (Some l) = IsLink net l

-- A movement goes from a link to a target.
pub record IsBetweenLinks (net : Network) (k : ℕ) : Type 0 where
  pub from : IsLink net (from_of net k)
  pub to : IsTarget net (to_of net k)
