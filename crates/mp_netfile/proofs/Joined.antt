-- The parts of a tree, joined from those of its sections.
use Rattle.std.proofs.Common.{◌≡◌, ℕ, ◌≤◌, List, [], ◌∷◌, length, map, Some, codes, refl, ap, sym, ◌∙◌, arith}
use Rattle.toml.specs.Data.{Data, Members, table}
use Rattle.toml.specs.Parse.{parse_document}
use Rattle.mp_model.specs.Network.{Link, Movement, Junction, Network}
use Rattle.mp_net.specs.declared.parts.LinkPart.{LinkPart}
use Rattle.mp_net.specs.declared.parts.MovementPart.{MovementPart}
use Rattle.mp_net.specs.declared.parts.JunctionPart.{JunctionPart}
use Rattle.mp_net.specs.Parts.{link_of, movement_of, junction_of}
use Rattle.mp_tree.specs.Tree.{section}
use Rattle.mp_tree.proofs.Widths.{section-few}
use Rattle.mp_netfile.specs.Values.{number_at}
use Rattle.mp_netfile.specs.Meaning.{names_of, link_from, movement_from, junction_from, network_from}
use Rattle.mp_netfile.specs.Faults.{HasFewTables}

pub map-map : {A B C : Type 0} (f : A → B) (g : B → C) (xs : List A) → map g (map f xs) ≡ map (λ x. g (f x)) xs
map-map f g [] = refl
map-map f g (x ∷ xs) = ap (λ ys. g (f x) ∷ ys) (map-map f g xs)

link_names : (links : List LinkPart) (ls : List Data) → map link_of links ≡ map link_from ls → map (λ link. link.name) links ≡ names_of ls
link_names links ls same = sym (map-map link_of (λ (l : Link). l.name) links) ∙ ap (map (λ (l : Link). l.name)) same ∙ map-map link_from (λ (l : Link). l.name) ls

movement_names : (names : List (List ℕ)) (movements : List MovementPart) (ms : List Data) → map movement_of movements ≡ map (movement_from names) ms → map (λ movement. movement.name) movements ≡ names_of ms
movement_names names movements ms same =
    sym (map-map movement_of (λ (m : Movement). m.name) movements) ∙ ap (map (λ (m : Movement). m.name)) same ∙ map-map (movement_from names) (λ (m : Movement). m.name) ms

abbrev pub the_network : ℕ → ℕ → ℕ → List Link → List Movement → List Junction → Network
the_network shares per delay links movements junctions = record { shares = shares; per = per; delay = delay; links = links; movements = movements; junctions = junctions }

pub parts_joined : (d : Data) (shares per delay : ℕ) (links : List LinkPart) (movements : List MovementPart) (junctions : List JunctionPart) (ls ms js : List Data)
    → ls ≡ section (codes "link") d → ms ≡ section (codes "movement") d → js ≡ section (codes "junction") d → shares ≡ number_at (codes "shares") d → per ≡ number_at (codes "per") d → delay ≡ number_at (codes "delay") d
    → map link_of links ≡ map link_from ls → map movement_of movements ≡ map (movement_from (map (λ link. link.name) links)) ms → map junction_of junctions ≡ map (junction_from (map (λ movement. movement.name) movements)) js
    → the_network shares per delay (map link_of links) (map movement_of movements) (map junction_of junctions) ≡ network_from d
parts_joined d shares per delay links movements junctions ls ms js l m j s p w links_are movements_are junctions_are =
    let names = link_names links ls links_are in
    let calls = movement_names (map (λ link. link.name) links) movements ms movements_are in
    rw (links_are, movements_are, junctions_are, names, calls, s, p, w, l, m, j) refl

-- a text of a file has few tables in each section
pub few_tables : (bytes text : List ℕ) (ms : Members) → length bytes ≤ 1048576 → text ≡ bytes → parse_document text ≡ Some ms → HasFewTables (table ms)
few_tables bytes text ms short same read =
    let size : length text ≤ 1048576 = omega (arith, ap length same) in
    record {
      links = omega (arith, section-few text ms (codes "link") read);
      movements = omega (arith, section-few text ms (codes "movement") read);
      junctions = omega (arith, section-few text ms (codes "junction") read);
    }
