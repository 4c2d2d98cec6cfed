-- What is asked of ways out, and the marks of links that have one.
use Rattle.std.specs.Prelude.{◌≡◌, ◌≤◌, ◌-◌, ℕ, Bool, true, false, List, slice_index_or, length, Option, Some, None, IfSome}
use Rattle.std.specs.List.{AllByRecursion}
use Rattle.mp_model.specs.Network.{Network, from_of, to_of, link_numbers, movement_numbers, numbers_to, has}
use Rattle.mp_model.specs.WayOut.{HasWayOut}
use Rattle.mp_net.specs.WayRules.{leads_on}

-- Each movement comes from a link of the network, and goes to one or to the outside.
pub record HasItsLinks (net : Network) : Type 0 where
  pub from : AllByRecursion (λ k. has (link_numbers net) (from_of net k) ≡ true) (movement_numbers net)
  pub to : AllByRecursion (λ k. IfSome (to_of net k) (λ l. has (link_numbers net) l ≡ true)) (movement_numbers net)

-- Each link has a way out where none is named; otherwise the named link has none, and each earlier one has.
abbrev pub IsFirstWithoutWay : Network → Option ℕ → Type 0
IsFirstWithoutWay net None = AllByRecursion (HasWayOut net) (link_numbers net)
IsFirstWithoutWay net (Some l) = (has (link_numbers net) l ≡ true) × (¬ HasWayOut net l) × AllByRecursion (HasWayOut net) (numbers_to (l - 1))

-- Link l has a mark.
abbrev pub is_marked : List Bool → ℕ → Bool
is_marked marks l = slice_index_or marks (l - 1) false

-- Each link has a mark exactly where a movement leads on from it by the marks before.
pub record IsNextRound (net : Network) (marks next : List Bool) : Type 0 where
  pub length_is : length next ≡ length net.links
  pub marked : (l : ℕ) → 1 ≤ l → l ≤ length net.links → is_marked next l ≡ leads_on net (is_marked marks) l
