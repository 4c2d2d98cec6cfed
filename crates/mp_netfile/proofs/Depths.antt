-- The tree of a network is not deep.
use Rattle.std.proofs.Common.{◌≡◌, ℕ, ◌≤◌, List, [], ◌∷◌, map, true, refl, arith}
use Rattle.toml.specs.Data.{Data, string, depth, items_depth, members_depth, has_valid_dates, items_have_valid_dates, members_have_valid_dates}
use Rattle.toml.specs.View.{items_of}
use Rattle.mp_model.specs.Network.{Movement, Junction, Network, movement_at}
use Rattle.mp_netfile.specs.Printed.{link_tree, movement_tree, stage_tree, junction_tree, undelayed_members, network_tree}
use Rattle.mp_netfile.proofs.Starts.{by_start}
use Rattle.mp_netfile.proofs.Delays.{by_delay}

items_depth-map : {A : Type 0} (f : A → Data) (n : ℕ) → ((x : A) → depth (f x) ≤ n) → (xs : List A) → items_depth (items_of (map f xs)) ≤ n
items_depth-map f n h [] = omega arith
items_depth-map f n h (x ∷ xs) = omega (arith, h x, items_depth-map f n h xs)

depth-stage_tree : (net : Network) (ks : List ℕ) → depth (stage_tree net ks) ≤ 1
depth-stage_tree net ks = omega (arith, items_depth-map (λ (k : ℕ). string (movement_at net k).name) 0 (λ k. omega arith) ks)

depth-junction_tree : (net : Network) (j : Junction) → depth (junction_tree net j) ≤ 3
depth-junction_tree net j = omega (arith, items_depth-map (stage_tree net) 1 (depth-stage_tree net) j.stages)

depth-movement_tree : (net : Network) (m : Movement) → depth (movement_tree net m) ≤ 1
depth-movement_tree net m = by_start (λ m. depth (movement_tree net m) ≤ 1) m (omega arith) (λ n. omega arith)

members_depth-undelayed : (net : Network) → members_depth (undelayed_members net) ≤ 79
members_depth-undelayed net =
    omega (
      arith,
      items_depth-map (junction_tree net) 3 (depth-junction_tree net) net.junctions,
      items_depth-map link_tree 1 (λ l. omega arith) net.links,
      items_depth-map (movement_tree net) 1 (depth-movement_tree net) net.movements,
    )

items-valid : {A : Type 0} (f : A → Data) → ((x : A) → has_valid_dates (f x) ≡ true) → (xs : List A) → items_have_valid_dates (items_of (map f xs)) ≡ true
items-valid f h [] = refl
items-valid f h (x ∷ xs) = rw (h x, items-valid f h xs) refl

stage-valid : (net : Network) (ks : List ℕ) → has_valid_dates (stage_tree net ks) ≡ true
stage-valid net ks = items-valid (λ (k : ℕ). string (movement_at net k).name) (λ k. refl) ks

junction-valid : (net : Network) (j : Junction) → has_valid_dates (junction_tree net j) ≡ true
junction-valid net j = rw (items-valid (stage_tree net) (stage-valid net) j.stages) refl

movement-valid : (net : Network) (m : Movement) → has_valid_dates (movement_tree net m) ≡ true
movement-valid net m = by_start (λ m. has_valid_dates (movement_tree net m) ≡ true) m refl (λ n. refl)

pub members_depth-network_tree : (net : Network) → members_depth (network_tree net) ≤ 80
members_depth-network_tree net =
    by_delay (λ n. members_depth (network_tree n) ≤ 80) net (omega (arith, members_depth-undelayed net)) (λ n. omega (arith, members_depth-undelayed net))

dates-undelayed : (net : Network) → members_have_valid_dates (undelayed_members net) ≡ true
dates-undelayed net =
    rw (items-valid (junction_tree net) (junction-valid net) net.junctions, items-valid link_tree (λ l. refl) net.links, items-valid (movement_tree net) (movement-valid net) net.movements) refl

-- it has no date-time
pub dates-network_tree : (net : Network) → members_have_valid_dates (network_tree net) ≡ true
dates-network_tree net = by_delay (λ n. members_have_valid_dates (network_tree n) ≡ true) net (dates-undelayed net) (λ n. dates-undelayed net)
