-- The demonstration networks: a main road through some junctions, with a side road into each of them.
use Rattle.std.specs.Prelude.{◌==◌, ℕ, ◌+◌, ◌-◌, ◌*◌, ◌/◌, ◌%◌, if◌then◌else◌, List, [], ◌∷◌, ◌++◌, Option, Some, None, codes, decimal, map}
use Rattle.std.specs.List.{flat_map}
use Rattle.mp_model.specs.Network.{Network, Link, Movement, Junction, numbers_to}
use Rattle.mp_model.specs.NetworkRules.{IsAcceptable}

-- The demonstration n has this many junctions.
abbrev pub junction_count : ℕ → ℕ
junction_count n = 2 + (n % 3)

-- The main road of the demonstration n begins at this rate.
abbrev pub first_rate : ℕ → ℕ
first_rate n = 30 + ((n / 3) % 10)

-- Into each junction i leads a main link, which has this number.
abbrev pub main_number : ℕ → ℕ
main_number i = 2 * i - 1

-- Into each junction i leads a side link, which has this number.
abbrev pub side_number : ℕ → ℕ
side_number i = 2 * i

-- From junction i both roads lead through to the next main link, which has this number.
abbrev pub next_number : ℕ → ℕ
next_number i = 2 * i + 1

-- The main link into junction 1 has a burst of 5 and the first rate, and the others are not fed.
abbrev pub main_link : ℕ → ℕ → Link
main_link rate i = record { name = codes "m" ++ decimal i; burst = if i == 1 then 5 else 0; rate = if i == 1 then rate else 0 }

-- The side link into each junction has a burst of 5 and a rate of 10.
abbrev pub side_link : ℕ → Link
side_link i = record { name = codes "s" ++ decimal i; burst = 5; rate = 10 }

-- These are the two links into junction i.
abbrev pub links_into : ℕ → ℕ → List Link
links_into rate i = main_link rate i ∷ side_link i ∷ []

-- This is the movement of a road at junction i, whose name is the letter of the road, the number and the letter of the way.
abbrev pub road_movement : List ℕ → ℕ → List ℕ → ℕ → Option ℕ → ℕ → ℕ → Movement
road_movement road i way from to share flow = record { name = road ++ decimal i ++ way; from = from; to = to; share = share; flow = flow; start = 0 }

-- At a junction before the last, both roads lead through to the next main link and out: of 10 on the main road 8 go through, and on the side road 5; the flow is 8 on the main road and 4 on the side road.
abbrev pub through_movements : ℕ → List Movement
through_movements i =
    road_movement (codes "m") i (codes "t") (main_number i) (Some (next_number i)) 8 8
    ∷ road_movement (codes "m") i (codes "x") (main_number i) None 2 8
    ∷ road_movement (codes "s") i (codes "t") (side_number i) (Some (next_number i)) 5 4
    ∷ road_movement (codes "s") i (codes "x") (side_number i) None 5 4
    ∷ []

-- At the last junction both roads lead out.
abbrev pub last_movements : ℕ → List Movement
last_movements i =
    road_movement (codes "m") i (codes "x") (main_number i) None 10 8 ∷ road_movement (codes "s") i (codes "x") (side_number i) None 10 4 ∷ []

-- A junction before the last has a stage with the two movements of the main road, and one with the two of the side road.
abbrev pub through_junction : ℕ → Junction
through_junction i = record { name = codes "j" ++ decimal i; stages = ((4 * i - 3) ∷ (4 * i - 2) ∷ []) ∷ ((4 * i - 1) ∷ (4 * i) ∷ []) ∷ [] }

-- The last junction has a stage with the movement of the main road, and one with that of the side road.
abbrev pub last_junction : ℕ → Junction
last_junction i = record { name = codes "j" ++ decimal i; stages = ((4 * i - 3) ∷ []) ∷ ((4 * i - 2) ∷ []) ∷ [] }

-- These are the movements of a road through so many junctions.
abbrev pub road_movements : ℕ → List Movement
road_movements count = flat_map through_movements (numbers_to (count - 1)) ++ last_movements count

-- These are its junctions.
abbrev pub road_junctions : ℕ → List Junction
road_junctions count = map through_junction (numbers_to (count - 1)) ++ last_junction count ∷ []

-- This is the road through so many junctions, which begins at this rate: in 10 parts, with rates in 20 periods, without start queues or old reports.
abbrev pub road_network : ℕ → ℕ → Network
road_network count rate = record {
  shares = 10;
  per = 20;
  delay = 0;
  links = flat_map (links_into rate) (numbers_to count);
  movements = road_movements count;
  junctions = road_junctions count;
}

-- This is the demonstration network n.
abbrev pub demo_network : ℕ → Network
demo_network n = road_network (junction_count n) (first_rate n)

-- Each demonstration network can be accepted.
abbrev pub DemoNetworkLaw : Type 0
DemoNetworkLaw = (n : ℕ) → IsAcceptable (demo_network n)
