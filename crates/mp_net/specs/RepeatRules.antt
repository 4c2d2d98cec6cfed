-- The rules on what stands twice.
use Rattle.std.specs.Prelude.{◌&&◌, ◌||◌, ◌-◌, ℕ, nat_le, Bool, false, List, [], ◌∷◌, length, Option}
use Rattle.std.specs.List.{list_any, find}
use Rattle.std.specs.Str.{bytes_eq}
use Rattle.mp_model.specs.Network.{Network, link_at, movement_at, junction_at, link_numbers, movement_numbers, junction_numbers, numbers_to, has}
use Rattle.mp_net.specs.Spots.{first_spot}
use Rattle.mp_net.specs.declared.fault.Spot.{Spot}

-- An earlier link has the name of link l.
abbrev pub link_is_repeated : Network → ℕ → Bool
link_is_repeated net l = list_any (λ i. bytes_eq (link_at net i).name (link_at net l).name) (numbers_to (l - 1))

-- An earlier movement has the name of movement k.
abbrev pub movement_is_repeated : Network → ℕ → Bool
movement_is_repeated net k = list_any (λ i. bytes_eq (movement_at net i).name (movement_at net k).name) (numbers_to (k - 1))

-- A movement with this number is there.
abbrev pub movement_is_there : Network → ℕ → Bool
movement_is_there net k = nat_le 1 k && nat_le k (length net.movements)

-- A stage names twice a movement that is there.
abbrev pub repeats_movement : Network → List ℕ → Bool
repeats_movement net [] = false
repeats_movement net (k ∷ ks) = (movement_is_there net k && has ks k) || repeats_movement net ks

-- An earlier junction has the name of junction j.
abbrev pub junction_name_is_repeated : Network → ℕ → Bool
junction_name_is_repeated net j = list_any (λ i. bytes_eq (junction_at net i).name (junction_at net j).name) (numbers_to (j - 1))

-- An earlier junction has the name of junction j, or a stage of j names a movement twice.
abbrev pub junction_is_repeated : Network → ℕ → Bool
junction_is_repeated net j = junction_name_is_repeated net j || list_any (repeats_movement net) (junction_at net j).stages

-- This is the first spot that repeats something.
abbrev pub repeated : Network → Option Spot
repeated net =
    first_spot false (find (link_is_repeated net) (link_numbers net)) (find (movement_is_repeated net) (movement_numbers net)) (find (junction_is_repeated net) (junction_numbers net))
