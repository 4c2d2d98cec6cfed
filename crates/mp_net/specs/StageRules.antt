-- The rules on junctions and their stages.
use Rattle.std.specs.Prelude.{◌==◌, ◌&&◌, ◌||◌, not, ◌-◌, ℕ, nat_lt, Bool, false, length, Option, None}
use Rattle.std.specs.List.{list_any, find}
use Rattle.mp_model.specs.Network.{Network, Junction, junction_at, from_of, link_numbers, movement_numbers, junction_numbers, numbers_to, own, stands_in}
use Rattle.mp_net.specs.Spots.{first_spot}
use Rattle.mp_net.specs.RepeatRules.{movement_is_there}
use Rattle.mp_net.specs.declared.fault.Spot.{Spot}

-- A junction names a movement that is not there.
abbrev pub names_unknown_movement : Network → Junction → Bool
names_unknown_movement net j = list_any (list_any (λ k. not (movement_is_there net k))) j.stages

-- The number is that of a movement out of link l.
abbrev pub leaves_link : Network → ℕ → ℕ → Bool
leaves_link net l k = movement_is_there net k && from_of net k == l

-- A junction names a movement out of link l.
abbrev pub serves_link : Network → ℕ → Junction → Bool
serves_link net l j = list_any (list_any (leaves_link net l)) j.stages

-- Junction j names a movement out of link l, and an earlier junction does so too.
abbrev pub is_served_twice : Network → ℕ → ℕ → Bool
is_served_twice net j l = serves_link net l (junction_at net j) && list_any (λ i. serves_link net l (junction_at net i)) (numbers_to (j - 1))

-- A junction names a movement that is not there, or one whose link has a movement in an earlier junction, or more than 24 movements.
abbrev pub has_bad_stage : Network → ℕ → Bool
has_bad_stage net j = names_unknown_movement net (junction_at net j) || list_any (is_served_twice net j) (link_numbers net) || nat_lt 24 (length (own net (junction_at net j)))

-- This is the first junction with a stage that is not right.
abbrev pub bad_stage : Network → Option Spot
bad_stage net = first_spot false None None (find (has_bad_stage net) (junction_numbers net))

-- A movement stands in no stage.
abbrev pub is_unserved : Network → ℕ → Bool
is_unserved net k = not (list_any (λ j. stands_in (junction_at net j) k) (junction_numbers net))

-- This is the first movement that stands in no stage.
abbrev pub unserved : Network → Option Spot
unserved net = first_spot false None (find (is_unserved net) (movement_numbers net)) None
