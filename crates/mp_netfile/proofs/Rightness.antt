-- What a right tree gives: its parts can be read, and they break no rule on numbers and names.
use Rattle.std.proofs.Common.{◌≡◌, ℕ, ◌≤◌, ◌*◌, Bool, false, ◌||◌, List, length, map, Option, Some, None, Result, Ok, Err, IfErr, codes, refl, ap, sym, ◌∙◌, arith}
use Rattle.std.specs.List.{position_from, AllByRecursion}
use Rattle.std.proofs.lemmas.List.{length-map}
use Rattle.toml.specs.Data.{Data}
use Rattle.mp_model.specs.Network.{Link as LinkPart, Movement as MovementPart, Junction as JunctionPart, Network, no_link, no_movement, no_junction}
use Rattle.mp_model.specs.Names.{is_out}
use Rattle.mp_net.specs.Spots.{first_spot, or_later, first_broken}
use Rattle.mp_net.specs.NumberRules.{outside, top_has_bad_number, bad_number, bad_link_name}
use Rattle.mp_net.specs.Rules.{later_rules, part_rules}
use Rattle.mp_net.specs.Refused.{IsFirst}
use Rattle.mp_net.specs.declared.fault.NetFault.{NetFault}
use Rattle.mp_net.specs.declared.fault.NetFault.TheVariants.{Rule, NoMemory}
use Rattle.mp_net.specs.declared.fault.NetRule.{NetRule}
use Rattle.mp_net.specs.declared.fault.Spot.{Spot}
use Rattle.mp_net.specs.declared.fault.Section.TheVariants.{Top, Link, Movement, Junction}
use Rattle.mp_tree.specs.Tree.{section, items}
use Rattle.mp_netfile.specs.Values.{number_at}
use Rattle.mp_netfile.specs.Meaning.{names_of, items_at, stage_texts, link_from, movement_from, junction_from, network_from, number_of, texts_of, has_bad_number, has_bad_name, tree_rules, tree_meaning, unless}
use Rattle.mp_netfile.specs.Right.{IsRight, HasName, IsLinkTable, IsMovementTable, HasParts}
use Rattle.mp_netfile.specs.Faults.{IsFaultOf}
use Rattle.mp_netfile.proofs.Spotless.{spotless, or_none, not_false, none_placed, each, both, mapped, none_numbered}
use Rattle.mp_netfile.proofs.Small.{IsTopInRange, top_in_range, link_in_range, movement_in_range, at_most}

-- what a right tree says of each of its tables
record IsEachRight (d : Data) : Type 0 where
  top : IsTopInRange d
  links : AllByRecursion (λ x. has_bad_number (number_at (codes "shares") d) (number_at (codes "per") d) Link x ≡ false) (section (codes "link") d)
  movements : AllByRecursion (λ x. has_bad_number (number_at (codes "shares") d) (number_at (codes "per") d) Movement x ≡ false) (section (codes "movement") d)
  junctions : AllByRecursion (λ x. has_bad_number (number_at (codes "shares") d) (number_at (codes "per") d) Junction x ≡ false) (section (codes "junction") d)
  link_names : AllByRecursion (λ x. has_bad_name Link x ≡ false) (section (codes "link") d)
  movement_names : AllByRecursion (λ x. has_bad_name Movement x ≡ false) (section (codes "movement") d)
  junction_names : AllByRecursion (λ x. has_bad_name Junction x ≡ false) (section (codes "junction") d)

each_right : (d : Data) → IsRight d → IsEachRight d
each_right d right =
    let shares = number_at (codes "shares") d in
    let per = number_at (codes "per") d in
    let numbers = spotless (has_bad_number shares per Top d) (position_from (has_bad_number shares per Link) 1 (section (codes "link") d)) (position_from (has_bad_number shares per Movement) 1 (section (codes "movement") d))
    (position_from (has_bad_number shares per Junction) 1 (section (codes "junction") d)) right.numbers in
    let names = spotless false (position_from (has_bad_name Link) 1 (section (codes "link") d)) (position_from (has_bad_name Movement) 1 (section (codes "movement") d)) (position_from (has_bad_name Junction) 1 (section (codes "junction") d)) right.names in
    record {
      top = top_in_range (number_at (codes "shares") d) (number_at (codes "per") d) d numbers.top;
      links = none_placed (has_bad_number shares per Link) 1 (section (codes "link") d) numbers.links;
      movements = none_placed (has_bad_number shares per Movement) 1 (section (codes "movement") d) numbers.movements;
      junctions = none_placed (has_bad_number shares per Junction) 1 (section (codes "junction") d) numbers.junctions;
      link_names = none_placed (has_bad_name Link) 1 (section (codes "link") d) names.links;
      movement_names = none_placed (has_bad_name Movement) 1 (section (codes "movement") d) names.movements;
      junction_names = none_placed (has_bad_name Junction) 1 (section (codes "junction") d) names.junctions;
    }

link_table : (shares per : ℕ) (x : Data) → per ≤ 3600 → has_bad_number shares per Link x ≡ false → has_bad_name Link x ≡ false → IsLinkTable x
link_table shares per x few numbers names =
    let range = link_in_range shares per x numbers in
    record {
      name = not_false _ (or_none _ _ names).0;
      burst = omega (arith, at_most 0 10000 (number_at (codes "burst") x) range.burst);
      rate = omega (arith, at_most 0 (1000 * per) (number_at (codes "rate") x) range.rate);
    }

movement_table : (shares per : ℕ) (x : Data) → shares ≤ 1000 → has_bad_number shares per Movement x ≡ false → has_bad_name Movement x ≡ false → IsMovementTable x
movement_table shares per x few numbers names =
    let range = movement_in_range shares per x numbers in
    record {
      name = not_false _ (or_none _ _ (or_none _ _ (or_none _ _ names).0).0).0;
      share = omega (arith, at_most 1 shares (number_at (codes "share") x) range.share);
      flow = omega (arith, at_most 1 1000 (number_at (codes "flow") x) range.flow);
      start = omega (arith, at_most 0 1000000 (number_at (codes "start") x) range.start);
    }

pub parts_there : (d : Data) → IsRight d → HasParts d
parts_there d right =
    let h = each_right d right in
    let shares = at_most 1 1000 (number_at (codes "shares") d) h.top.shares in
    let per = at_most 1 3600 (number_at (codes "per") d) h.top.per in
    let delay = at_most 0 60 (number_at (codes "delay") d) h.top.delay in
    record {
      shares = omega arith;
      per = omega arith;
      delay = omega arith;
      few_links = at_most 1 128 (length (section (codes "link") d)) h.top.links;
      few_movements = at_most 1 512 (length (section (codes "movement") d)) h.top.movements;
      links = both _ _ IsLinkTable (section (codes "link") d) (λ x numbers names. link_table (number_at (codes "shares") d) (number_at (codes "per") d) x per numbers names) h.links h.link_names;
      movements = both _ _ IsMovementTable (section (codes "movement") d) (λ x numbers names. movement_table (number_at (codes "shares") d) (number_at (codes "per") d) x shares numbers names) h.movements h.movement_names;
      junctions = each _ HasName (section (codes "junction") d) (λ x names. not_false _ (or_none _ _ names).0) h.junction_names;
    }

or_false : (a b : Bool) → a ≡ false → b ≡ false → (a || b) ≡ false
or_false a b ha hb = rw (ha, hb) refl

nowhere : (top : Bool) (l k j : Option ℕ) → top ≡ false → l ≡ None → k ≡ None → j ≡ None → first_spot top l k j ≡ None
nowhere top l k j t hl hk hj = rw (t, hl, hk, hj) refl

same_length : {A B : Type 0} (low high : ℕ) (f : A → B) (xs : List A) → outside low high (length xs) ≡ false → outside low high (length (map f xs)) ≡ false
same_length low high f xs h = rw (length-map xs f) h

-- no number of the parts is out of range
numbers_hold : (d : Data) → IsEachRight d → bad_number (network_from d) ≡ None
numbers_hold d h =
    let per = number_at (codes "per") d in
    let shares = number_at (codes "shares") d in
    let links = section (codes "link") d in
    let movements = section (codes "movement") d in
    let junctions = section (codes "junction") d in
    let to_link = link_from in
    let to_movement = movement_from (names_of links) in
    let to_junction = junction_from (names_of movements) in
    let top : top_has_bad_number (network_from d) ≡ false =
    or_false _ _ (or_false _ _ (or_false _ _ (or_false _ _ (or_false _ _ h.top.shares h.top.per) h.top.delay) (same_length 1 128 to_link links h.top.links)) (same_length 1 512 to_movement movements h.top.movements)) (same_length 1 64 to_junction junctions h.top.junctions) in
    let bad_link : LinkPart → Bool = λ link. outside 0 10000 link.burst || outside 0 (1000 * per) link.rate in
    let bad_movement : MovementPart → Bool = λ movement. outside 1 shares movement.share || outside 1 1000 movement.flow || outside 0 1000000 movement.start in
    let bad_junction : JunctionPart → Bool = λ junction. outside 1 16 (length junction.stages) in
    let all_links : AllByRecursion (λ link. bad_link link ≡ false) (map to_link links) =
    mapped _ (λ link. bad_link link ≡ false) to_link links (λ x bad. let range = link_in_range shares per x bad in or_false _ _ range.burst range.rate) h.links in
    let all_movements : AllByRecursion (λ movement. bad_movement movement ≡ false) (map to_movement movements) =
    mapped _ (λ movement. bad_movement movement ≡ false) to_movement movements (λ x bad. let range = movement_in_range shares per x bad in or_false _ _ (or_false _ _ range.share range.flow) range.start) h.movements in
    let all_junctions : AllByRecursion (λ junction. bad_junction junction ≡ false) (map to_junction junctions) =
    mapped _ (λ junction. bad_junction junction ≡ false) to_junction junctions (λ x bad. rw (length-map (stage_texts x) (map (number_of (names_of movements))), length-map (items_at (codes "stages") x) (λ stage. texts_of (items stage))) bad) h.junctions in
    nowhere _ _ _ _ top (none_numbered bad_link (map to_link links) no_link all_links) (none_numbered bad_movement (map to_movement movements) no_movement all_movements) (none_numbered bad_junction (map to_junction junctions) no_junction all_junctions)

-- no link of the parts is named `out`
names_hold : (d : Data) → IsEachRight d → bad_link_name (network_from d) ≡ None
names_hold d h =
    let links = section (codes "link") d in
    let named_out : LinkPart → Bool = λ link. is_out link.name in
    let all_links : AllByRecursion (λ link. named_out link ≡ false) (map link_from links) = mapped _ (λ link. named_out link ≡ false) link_from links (λ x bad. (or_none _ _ bad).1) h.link_names in
    nowhere false _ None None refl (none_numbered named_out (map link_from links) no_link all_links) refl refl

parts_hold : (d : Data) → IsRight d → first_broken (part_rules (network_from d)) ≡ first_broken (later_rules (network_from d))
parts_hold d right = let h = each_right d right in rw (numbers_hold d h, names_hold d h) refl

tree_holds : (d : Data) → IsRight d → first_broken (tree_rules d) ≡ first_broken (part_rules (network_from d))
tree_holds d right = rw (right.keys, right.types, right.version, right.numbers, right.names) (sym (parts_hold d right))

-- ---- the meaning, from what a reader found

pub means_network : (meaning : Result Network (NetRule × Spot)) (d : Data) (net : Network) → meaning ≡ tree_meaning d → IsRight d → net ≡ network_from d → first_broken (part_rules net) ≡ None → meaning ≡ Ok net
means_network meaning d net is right same holds =
    let none : first_broken (tree_rules d) ≡ None = tree_holds d right ∙ ap (λ n. first_broken (part_rules n)) (sym same) ∙ holds in
    is ∙ ap (unless (network_from d)) none ∙ ap Ok (sym same)

pub means_refusal : (meaning : Result Network (NetRule × Spot)) (d : Data) (fault : NetFault) → meaning ≡ tree_meaning d → IsFirst (first_broken (tree_rules d)) fault → IsFaultOf meaning fault
means_refusal meaning d (Rule rule spot) is first = is ∙ ap (unless (network_from d)) first
means_refusal meaning d NoMemory is first = tt

first_same : (a b : Option (NetRule × Spot)) (fault : NetFault) → a ≡ b → IsFirst b fault → IsFirst a fault
first_same a b (Rule rule spot) same first = same ∙ first
first_same a b NoMemory same first = tt

pub means_part_refusal : (meaning : Result Network (NetRule × Spot)) (d : Data) (net : Network) (fault : NetFault) → meaning ≡ tree_meaning d → IsRight d → net ≡ network_from d → IsFirst (first_broken (part_rules net)) fault → IsFaultOf meaning fault
means_part_refusal meaning d net fault is right same first =
    means_refusal meaning d fault is (first_same (first_broken (tree_rules d)) (first_broken (part_rules net)) fault (tree_holds d right ∙ ap (λ n. first_broken (part_rules n)) (sym same)) first)

-- ---- one rule after another

pub first_here : (name : NetRule) (spot : Option Spot) (later : Option (NetRule × Spot)) (fault : NetFault) → IsFirst (or_later name spot None) fault → IsFirst (or_later name spot later) fault
first_here name (Some spot) later fault first = first
first_here name None later (Rule rule spot) first = cc
first_here name None later NoMemory first = tt

pub if_refused : {A : Type 0} (P Q : NetFault → Type 0) (r : Result A NetFault) → ((fault : NetFault) → P fault → Q fault) → IfErr r P → IfErr r Q
if_refused P Q (Ok x) h refused = tt
if_refused P Q (Err fault) h refused = h fault refused
