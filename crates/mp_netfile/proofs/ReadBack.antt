-- The tree of a network reads as the network.
use Rattle.std.proofs.Common.{◌≡◌, ℕ, zero, suc, pos, true, false, List, [], ◌∷◌, map, Option, Some, None, codes, refl, ap}
use Rattle.std.specs.List.{list_all, AllByRecursion}
use Rattle.toml.specs.Data.{Data, string, table}
use Rattle.toml.specs.View.{items_of}
use Rattle.mp_model.specs.Network.{Link, Movement, Junction, Network, link_at, movement_at}
use Rattle.mp_model.specs.Names.{is_out}
use Rattle.mp_netfile.specs.Numbered.{IsLink, IsMovement, IsTarget}
use Rattle.mp_tree.specs.Tree.{items, items_list, is_table, section, text_or_empty}
use Rattle.mp_netfile.specs.Meaning.{number_of, names_of, name_at, texts_of, link_from, target_from, movement_from, junction_from, network_from}
use Rattle.mp_netfile.specs.Values.{integer_or_zero}
use Rattle.mp_netfile.proofs.Joined.{map-map}
use Rattle.mp_netfile.specs.Printed.{link_tree, target_name, movement_tree, stage_tree, junction_tree, undelayed_members, network_tree}
use Rattle.mp_netfile.proofs.Starts.{by_start}
use Rattle.mp_netfile.proofs.Delays.{delayed, by_delay}

-- a movement goes from a link to a target
abbrev pub HasEnds : Network → Movement → Type 0
HasEnds net m = IsLink net m.from × IsTarget net m.to

-- what reading back asks of a network: that each name in use is found at its number
pub record IsPrintable (net : Network) : Type 0 where
  pub links : (l : ℕ) → IsLink net l → (number_of (map (λ link. link.name) net.links) (link_at net l).name ≡ l) × (is_out (link_at net l).name ≡ false)
  pub movements : (k : ℕ) → IsMovement net k → number_of (map (λ m. m.name) net.movements) (movement_at net k).name ≡ k
  pub ends : AllByRecursion (HasEnds net) net.movements
  pub stages : AllByRecursion (λ j. AllByRecursion (AllByRecursion (IsMovement net)) j.stages) net.junctions

pub items_list-of : (ds : List Data) → items_list (items_of ds) ≡ ds
items_list-of [] = refl
items_list-of (d ∷ ds) = ap (λ x. d ∷ x) (items_list-of ds)

pub all_tables : {A : Type 0} (f : A → Data) (xs : List A) → ((x : A) → is_table (f x) ≡ true) → list_all is_table (map f xs) ≡ true
all_tables f [] h = refl
all_tables f (x ∷ xs) h = rw (h x, all_tables f xs h)

-- what a function gives of each element, where it is the element
map_same : {A : Type 0} (P : A → Type 0) (f : A → A) (xs : List A) → ((x : A) → P x → f x ≡ x) → AllByRecursion P xs → map f xs ≡ xs
map_same P f [] h all = refl
map_same P f (x ∷ xs) h all = rw (h x all.0, map_same P f xs h all.1)

-- a table says the numbers and the tables of a network
pub record Says (net : Network) (d : Data) : Type 0 where
  pub shares : integer_or_zero (codes "shares") d ≡ pos net.shares
  pub per : integer_or_zero (codes "per") d ≡ pos net.per
  pub delay : integer_or_zero (codes "delay") d ≡ pos net.delay
  pub links : section (codes "link") d ≡ map link_tree net.links
  pub movements : section (codes "movement") d ≡ map (movement_tree net) net.movements
  pub junctions : section (codes "junction") d ≡ map (junction_tree net) net.junctions

pub says-tree : (net : Network) → Says net (table (network_tree net))
says-tree net = by_delay (λ n. Says n (table (network_tree n))) net (with_delay 0) (λ n. with_delay (suc n))
  where
    links : section (codes "link") (table (undelayed_members net)) ≡ map link_tree net.links
    links = rw (items_list-of (map link_tree net.links), all_tables link_tree net.links (λ l. refl))

    movements : section (codes "movement") (table (undelayed_members net)) ≡ map (movement_tree net) net.movements
    movements = rw (items_list-of (map (movement_tree net) net.movements), all_tables (movement_tree net) net.movements (λ m. refl))

    junctions : section (codes "junction") (table (undelayed_members net)) ≡ map (junction_tree net) net.junctions
    junctions = rw (items_list-of (map (junction_tree net) net.junctions), all_tables (junction_tree net) net.junctions (λ j. refl))

    with_delay : (n : ℕ) → Says (delayed net n) (table (network_tree (delayed net n)))
    with_delay zero = record { shares = refl; per = refl; delay = refl; links = links; movements = movements; junctions = junctions }
    with_delay (suc n) = record { shares = refl; per = refl; delay = refl; links = links; movements = movements; junctions = junctions }

link_from-tree : (link : Link) → link_from (link_tree link) ≡ link
link_from-tree link = refl

target_from-tree : (net : Network) (p : IsPrintable net) (to : Option ℕ) → IsTarget net to → target_from (map (λ link. link.name) net.links) (target_name net to) ≡ to
target_from-tree net p None there = refl
target_from-tree net p (Some l) there = let known = p.links l there in rw (known.1, known.0)

-- what a movement's table reads as, before its names are looked up
movement_printed : (net : Network) (names : List (List ℕ)) (m : Movement)
    → movement_from names (movement_tree net m) ≡ record { name = m.name; from = number_of names (link_at net m.from).name; to = target_from names (target_name net m.to); share = m.share; flow = m.flow; start = m.start }
movement_printed net names m =
    by_start (λ m. movement_from names (movement_tree net m) ≡ record { name = m.name; from = number_of names (link_at net m.from).name; to = target_from names (target_name net m.to); share = m.share; flow = m.flow; start = m.start })
    m refl (λ n. refl)

movement_from-tree : (net : Network) (p : IsPrintable net) (m : Movement) → HasEnds net m → movement_from (map (λ link. link.name) net.links) (movement_tree net m) ≡ m
movement_from-tree net p m there =
    let from = (p.links m.from there.0).0 in
    let to = target_from-tree net p m.to there.1 in
    rw (movement_printed net (map (λ link. link.name) net.links) m, from, to) refl

movement_names : (net : Network) (ms : List Movement) → names_of (map (movement_tree net) ms) ≡ map (λ m. m.name) ms
movement_names net [] = refl
movement_names net (m ∷ ms) = rw (by_start (λ m. name_at (codes "name") (movement_tree net m) ≡ m.name) m refl (λ n. refl), movement_names net ms) refl

junction_from-tree : (net : Network) (p : IsPrintable net) (j : Junction) → AllByRecursion (AllByRecursion (IsMovement net)) j.stages
    → junction_from (map (λ m. m.name) net.movements) (junction_tree net j) ≡ j
junction_from-tree net p j there =
    rw (
      items_list-of (map (stage_tree net) j.stages),
      map-map (stage_tree net) (λ stage. texts_of (items stage)) j.stages,
      map-map (λ ks. map text_or_empty (items (stage_tree net ks))) (map num) j.stages,
      map_same (AllByRecursion (IsMovement net)) (λ ks. map num (map text_or_empty (items (stage_tree net ks)))) j.stages stage_same there,
    )
  where
    num : List ℕ → ℕ
    num = number_of (map (λ m. m.name) net.movements)

    stage_same : (ks : List ℕ) → AllByRecursion (IsMovement net) ks → map num (map text_or_empty (items (stage_tree net ks))) ≡ ks
    stage_same ks inside =
        rw (items_list-of (map (λ k. string (movement_at net k).name) ks), map-map (λ k. string (movement_at net k).name) text_or_empty ks, map-map (λ k. (movement_at net k).name) num ks)
        (map_same (IsMovement net) (λ k. num (movement_at net k).name) ks p.movements inside)

map_each : {A B : Type 0} (P : A → Type 0) (f : A → B) (g : B → A) (xs : List A) → ((x : A) → P x → g (f x) ≡ x) → AllByRecursion P xs → map g (map f xs) ≡ xs
map_each P f g [] h all = refl
map_each P f g (x ∷ xs) h all = rw (h x all.0, map_each P f g xs h all.1)

map_any : {A B : Type 0} (f : A → B) (g : B → A) (xs : List A) → ((x : A) → g (f x) ≡ x) → map g (map f xs) ≡ xs
map_any f g [] h = refl
map_any f g (x ∷ xs) h = rw (h x, map_any f g xs h)

pub network_from-tree : (net : Network) → IsPrintable net → network_from (table (network_tree net)) ≡ net
network_from-tree net p =
    let s = says-tree net in
    let links : map link_from (map link_tree net.links) ≡ net.links = map_any link_tree link_from net.links link_from-tree in
    let link_names : names_of (map link_tree net.links) ≡ map (λ link. link.name) net.links = map-map link_tree (name_at (codes "name")) net.links in
    let movements : map (movement_from (map (λ link. link.name) net.links)) (map (movement_tree net) net.movements) ≡ net.movements =
    map_each (HasEnds net) (movement_tree net) (movement_from (map (λ link. link.name) net.links)) net.movements (movement_from-tree net p) p.ends in
    let junctions : map (junction_from (map (λ m. m.name) net.movements)) (map (junction_tree net) net.junctions) ≡ net.junctions =
    map_each (λ j. AllByRecursion (AllByRecursion (IsMovement net)) j.stages) (junction_tree net) (junction_from (map (λ m. m.name) net.movements)) net.junctions (junction_from-tree net p) p.stages in
    rw (s.shares, s.per, s.delay, s.links, s.movements, s.junctions, links, link_names, movement_names net net.movements, movements, junctions)
