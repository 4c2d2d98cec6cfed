-- The rules on links, and on the movements out of them.
use Rattle.std.specs.Prelude.{◌==◌, ◌&&◌, ◌||◌, not, ℕ, nat_le, Bool, false, length, sum_by, Option, Some, None}
use Rattle.std.specs.List.{list_any, find}
use Rattle.mp_model.specs.Network.{Network, link_at, from_of, to_of, share_of, link_numbers, movement_numbers, out_of, is_fed}
use Rattle.mp_net.specs.Spots.{first_spot}
use Rattle.mp_net.specs.declared.fault.Spot.{Spot}

-- A link with this number is there.
abbrev pub link_is_there : Network → ℕ → Bool
link_is_there net l = nat_le 1 l && nat_le l (length net.links)

-- A target names a link that is not there.
abbrev pub goes_nowhere : Network → Option ℕ → Bool
goes_nowhere net None = false
goes_nowhere net (Some l) = not (link_is_there net l)

-- A movement comes from or goes to a link that is not there.
abbrev pub names_unknown_link : Network → ℕ → Bool
names_unknown_link net k = not (link_is_there net (from_of net k)) || goes_nowhere net (to_of net k)

-- This is the first movement that names a link that is not there.
abbrev pub unknown_link : Network → Option Spot
unknown_link net = first_spot false None (find (names_unknown_link net) (movement_numbers net)) None

-- A movement leaves the link.
abbrev pub has_movement : Network → ℕ → Bool
has_movement net l = list_any (λ k. from_of net k == l) (movement_numbers net)

-- A link with a movement has shares that don't sum to the share total.
abbrev pub has_bad_shares : Network → ℕ → Bool
has_bad_shares net l = has_movement net l && not (sum_by (share_of net) (out_of net l) == net.shares)

-- This is the first link whose shares don't sum to the share total.
abbrev pub bad_shares : Network → Option Spot
bad_shares net = first_spot false (find (has_bad_shares net) (link_numbers net)) None None

-- This is the first link without a movement.
abbrev pub no_movement_out : Network → Option Spot
no_movement_out net = first_spot false (find (λ l. not (has_movement net l)) (link_numbers net)) None None

-- This is the top where no link is fed.
abbrev pub no_fed_link : Network → Option Spot
no_fed_link net = first_spot (not (list_any (λ l. is_fed (link_at net l)) (link_numbers net))) None None None
