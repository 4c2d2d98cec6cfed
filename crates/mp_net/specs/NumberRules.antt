-- The rules on numbers, and on the names of links.
use Rattle.std.specs.Prelude.{◌||◌, ◌*◌, ℕ, nat_lt, Bool, false, length, Option, None}
use Rattle.std.specs.List.{find}
use Rattle.mp_model.specs.Network.{Network, link_at, movement_at, junction_at, link_numbers, movement_numbers, junction_numbers}
use Rattle.mp_model.specs.Names.{is_out}
use Rattle.mp_net.specs.Spots.{first_spot}
use Rattle.mp_net.specs.declared.fault.Spot.{Spot}

-- A number is outside a range.
abbrev pub outside : ℕ → ℕ → ℕ → Bool
outside low high n = nat_lt n low || nat_lt high n

-- The share total, the rate length, the delay, or how many links, movements or junctions there are is out of range.
abbrev pub top_has_bad_number : Network → Bool
top_has_bad_number net =
    outside 1 1000 net.shares || outside 1 3600 net.per || outside 0 60 net.delay || outside 1 128 (length net.links) || outside 1 512 (length net.movements) || outside 1 64 (length net.junctions)

-- The burst or the rate of a link is out of range.
abbrev pub link_has_bad_number : Network → ℕ → Bool
link_has_bad_number net l = outside 0 10000 (link_at net l).burst || outside 0 (1000 * net.per) (link_at net l).rate

-- The share, the flow or the start queue of a movement is out of range.
abbrev pub movement_has_bad_number : Network → ℕ → Bool
movement_has_bad_number net k = outside 1 net.shares (movement_at net k).share || outside 1 1000 (movement_at net k).flow || outside 0 1000000 (movement_at net k).start

-- A junction has no stage, or too many.
abbrev pub junction_has_bad_number : Network → ℕ → Bool
junction_has_bad_number net j = outside 1 16 (length (junction_at net j).stages)

-- This is the first spot with a number out of range.
abbrev pub bad_number : Network → Option Spot
bad_number net =
    first_spot (top_has_bad_number net) (find (link_has_bad_number net) (link_numbers net)) (find (movement_has_bad_number net) (movement_numbers net)) (find (junction_has_bad_number net) (junction_numbers net))

-- A link is named `out`.
abbrev pub is_named_out : Network → ℕ → Bool
is_named_out net l = is_out (link_at net l).name

-- This is the first link that is named `out`.
abbrev pub bad_link_name : Network → Option Spot
bad_link_name net = first_spot false (find (is_named_out net) (link_numbers net)) None None
