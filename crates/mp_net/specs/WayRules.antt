-- The rule on ways out, as chains of no more movements than there are links.
use Rattle.std.specs.Prelude.{◌==◌, ◌&&◌, not, ℕ, zero, suc, Bool, true, false, length, Option, Some, None}
use Rattle.std.specs.List.{list_any, find}
use Rattle.mp_model.specs.Network.{Network, from_of, to_of, link_numbers, movement_numbers}
use Rattle.mp_net.specs.Spots.{first_spot}
use Rattle.mp_net.specs.declared.fault.Spot.{Spot}

-- A chain ends at the outside, and goes on at a link with a way.
abbrev pub goes_on : (ℕ → Bool) → Option ℕ → Bool
goes_on way None = true
goes_on way (Some l) = way l

-- Movement k leaves link l, and goes to the outside or to a link with a way.
abbrev pub leads : Network → (ℕ → Bool) → ℕ → ℕ → Bool
leads net way l k = from_of net k == l && goes_on way (to_of net k)

-- Some movement leads on from link l.
abbrev pub leads_on : Network → (ℕ → Bool) → ℕ → Bool
leads_on net way l = list_any (leads net way l) (movement_numbers net)

-- Some chain of at most n movements that begins with one out of link l leads to the outside.
abbrev pub has_way : Network → ℕ → ℕ → Bool
has_way net zero l = false
has_way net (suc n) l = leads_on net (has_way net n) l

-- A link has a way out by a chain of no more movements than there are links.
abbrev pub has_way_out : Network → ℕ → Bool
has_way_out net l = has_way net (length net.links) l

-- This is the first link without a way out.
abbrev pub no_way_out : Network → Option Spot
no_way_out net = first_spot false (find (λ l. not (has_way_out net l)) (link_numbers net)) None None
