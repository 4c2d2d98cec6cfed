-- The tree of a network means the network.
use Rattle.std.proofs.Common.{◌≡◌, ℕ, ◌+◌, ◌-◌, ◌*◌, ◌<◌, zero, suc, Bool, true, false, cond, not, ◌||◌, List, [], ◌∷◌, length, map, get_or, Option, Some, None, Ok, codes, refl, ap, sym, ◌∙◌, arith}
use Rattle.std.specs.List.{position_from, find, range_with_len, AllByRecursion, list_all}
use Rattle.std.specs.Str.{IsUtf8}
use Rattle.std.proofs.lemmas.List.{length-map}
use Rattle.std.proofs.lemmas.Str.{is_utf8-from_IsUtf8}
use Rattle.toml.specs.Data.{Data, string, table}
use Rattle.toml.specs.Parse.{parse_document}
use Rattle.mp_model.specs.Network.{Link as LinkPart, Movement as MovementPart, Junction as JunctionPart, Network, no_link, no_movement, no_junction, link_at, movement_at}
use Rattle.mp_model.specs.NetworkRules.{IsAcceptable, HasStages}
use Rattle.mp_model.specs.Names.{is_name, is_out}
use Rattle.mp_net.specs.Spots.{first_spot, or_later, first_broken}
use Rattle.mp_net.specs.NumberRules.{outside, bad_number, top_has_bad_number, link_has_bad_number, movement_has_bad_number, junction_has_bad_number}
use Rattle.mp_net.specs.Rules.{later_rules, part_rules}
use Rattle.mp_net.specs.declared.fault.NetRule.{NetRule}
use Rattle.mp_net.specs.declared.fault.Spot.{Spot}
use Rattle.mp_net.specs.declared.fault.Section.TheVariants.{Top, Link, Movement, Junction}
use Rattle.mp_tree.specs.Tree.{items, section, text_or_empty}
use Rattle.mp_netfile.specs.Keys.{unknown_key, missing_key}
use Rattle.mp_netfile.specs.Meaning.{tree_meaning, tree_rules, tree_of, bad_version, bad_number_in, bad_name_in, has_bad_integer, has_bad_number, has_bad_name, network_from, texts_of, unless}
use Rattle.mp_netfile.specs.Values.{is_version, natural}
use Rattle.mp_netfile.specs.Printed.{link_tree, movement_tree, stage_tree, junction_tree, network_tree, target_name, has_start_queue, first_version}
use Rattle.mp_netfile.specs.Numbered.{IsLink, IsMovement, IsTarget}
use Rattle.mp_netfile.proofs.Spotless.{spotless, or_none, each, both, at}
use Rattle.mp_netfile.proofs.Inside.{between_links, has_stages}
use Rattle.mp_netfile.proofs.Joined.{map-map}
use Rattle.mp_netfile.proofs.Known.{link_known, movement_known}
use Rattle.mp_netfile.proofs.Listed.{unknown_key-tree, missing_key-tree}
use Rattle.mp_netfile.proofs.ReadBack.{HasEnds, IsPrintable, network_from-tree, says-tree, items_list-of}
use Rattle.mp_netfile.proofs.Small.{bad_number-below}
use Rattle.mp_netfile.proofs.Starts.{by_start}
use Rattle.mp_netfile.proofs.Delays.{by_delay}

-- ---- no rule of the parts is broken

none_of : (name : NetRule) (spot : Option Spot) (later : Option (NetRule × Spot)) → or_later name spot later ≡ None → (spot ≡ None) × (later ≡ None)
none_of name (Some spot) later h = cc
none_of name None later h = (refl, h)

find_hit : (p : ℕ → Bool) (a n i : ℕ) → find p (range_with_len a n) ≡ None → i < n → p (a + i) ≡ false
find_hit p a zero i h below = absurd (omega arith)
find_hit p a (suc n) i h below = split (p a) (find p (range_with_len (a + 1) n)) i refl h below (find_hit p (a + 1) n)
  where
    split : (b : Bool) (rest : Option ℕ) (i : ℕ) → p a ≡ b → cond b (Some a) rest ≡ None → i < suc n → ((i : ℕ) → rest ≡ None → i < n → p (a + 1 + i) ≡ false) → p (a + i) ≡ false
    split true rest i e h below more = cc
    split false rest zero e h below more = let same : a + 0 ≡ a = omega arith in rw same e
    split false rest (suc i) e h below more = let same : a + suc i ≡ a + 1 + i = omega arith in rw same (more i h (omega arith))

-- what holds at each place holds of each entry
every : {A : Type 0} (P : A → Type 0) (xs : List A) (d : A) → ((i : ℕ) → i < length xs → P (get_or xs i d)) → AllByRecursion P xs
every P [] d h = tt
every P (x ∷ xs) d h = (h 0 (omega arith), every P xs d (λ i below. h (suc i) (omega arith)))

none_entry : {A : Type 0} (test : A → Bool) (xs : List A) (d : A) → find (λ l. test (get_or xs (l - 1) d)) (range_with_len 1 (length xs)) ≡ None → AllByRecursion (λ x. test x ≡ false) xs
none_entry test xs d h =
    every (λ x. test x ≡ false) xs d (λ i below. let e : 1 + i - 1 ≡ i = omega arith in rw e at (find_hit (λ l. test (get_or xs (l - 1) d)) 1 (length xs) i h below))

none_placed : {A : Type 0} (test : Data → Bool) (tree : A → Data) (P : A → Type 0) (i : ℕ) (xs : List A) → ((x : A) → P x → test (tree x) ≡ false) → AllByRecursion P xs → position_from test i (map tree xs) ≡ None
none_placed test tree P i [] h all = refl
none_placed test tree P i (x ∷ xs) h all = rw (h x all.0, none_placed test tree P (i + 1) xs h all.1) refl

nowhere : (top : Bool) (l k j : Option ℕ) → top ≡ false → l ≡ None → k ≡ None → j ≡ None → first_spot top l k j ≡ None
nowhere top l k j t hl hk hj = rw (t, hl, hk, hj) refl

-- ---- numbers

same_length : {A : Type 0} (low high : ℕ) (tree : A → Data) (xs : List A) (ds : List Data) → ds ≡ map tree xs → outside low high (length xs) ≡ false → outside low high (length ds) ≡ false
same_length low high tree xs ds e h = rw (e, length-map xs tree) h

or_false : (a b : Bool) → a ≡ false → b ≡ false → (a || b) ≡ false
or_false a b ha hb = rw (ha, hb) refl

numbers-tree : (net : Network) → bad_number net ≡ None → bad_number_in (table (network_tree net)) ≡ None
numbers-tree net none =
    let s = says-tree net in
    let h = spotless (top_has_bad_number net) (find (link_has_bad_number net) (range_with_len 1 (length net.links))) (find (movement_has_bad_number net) (range_with_len 1 (length net.movements)))
    (find (junction_has_bad_number net) (range_with_len 1 (length net.junctions))) none in
    let j = or_none _ _ h.top in
    let m = or_none _ _ j.0 in
    let l = or_none _ _ m.0 in
    let d = or_none _ _ l.0 in
    let p = or_none _ _ d.0 in
    let bad_link : LinkPart → Bool = λ link. outside 0 10000 link.burst || outside 0 (1000 * net.per) link.rate in
    let bad_movement : MovementPart → Bool = λ movement. outside 1 net.shares movement.share || outside 1 1000 movement.flow || outside 0 1000000 movement.start in
    let bad_junction : JunctionPart → Bool = λ junction. outside 1 16 (length junction.stages) in
    let integers : has_bad_integer (table (network_tree net)) ≡ false = rw (s.shares, s.per, s.delay) (or_false (outside 1 1000 net.shares || outside 1 3600 net.per) (outside 0 60 net.delay) (or_false (outside 1 1000 net.shares) (outside 1 3600 net.per) p.0 p.1) d.1) in
    let top : has_bad_number net.shares net.per Top (table (network_tree net)) ≡ false =
    or_false _ _ (or_false _ _ (or_false _ _ integers (same_length 1 128 link_tree net.links _ s.links l.1)) (same_length 1 512 (movement_tree net) net.movements _ s.movements m.1)) (same_length 1 64 (junction_tree net) net.junctions _ s.junctions j.1) in
    let links : position_from (has_bad_number net.shares net.per Link) 1 (section (codes "link") (table (network_tree net))) ≡ None =
    rw s.links (none_placed (has_bad_number net.shares net.per Link) link_tree (λ link. bad_link link ≡ false) 1 net.links (λ link bad. bad) (none_entry bad_link net.links no_link h.links)) in
    let movements : position_from (has_bad_number net.shares net.per Movement) 1 (section (codes "movement") (table (network_tree net))) ≡ None =
    rw s.movements (none_placed (has_bad_number net.shares net.per Movement) (movement_tree net) (λ movement. bad_movement movement ≡ false) 1 net.movements
    (λ movement. by_start (λ m. bad_movement m ≡ false → has_bad_number net.shares net.per Movement (movement_tree net m) ≡ false) movement (λ bad. bad) (λ n bad. bad)) (none_entry bad_movement net.movements no_movement h.movements)) in
    let junctions : position_from (has_bad_number net.shares net.per Junction) 1 (section (codes "junction") (table (network_tree net))) ≡ None =
    rw s.junctions (none_placed (has_bad_number net.shares net.per Junction) (junction_tree net) (λ junction. bad_junction junction ≡ false) 1 net.junctions (λ junction bad. rw (items_list-of (map (stage_tree net) junction.stages), length-map junction.stages (stage_tree net)) bad)
    (none_entry bad_junction net.junctions no_junction h.junctions)) in
    sym (bad_number-below (table (network_tree net)) net.shares net.per (sym (ap natural s.shares)) (sym (ap natural s.per))) ∙ nowhere _ _ _ _ top links movements junctions

-- ---- names

is_name_not : (name : List ℕ) → is_name name ≡ true → not (is_name name) ≡ false
is_name_not name h = rw h refl

-- a link has a name that may stand in a file
abbrev IsLinkName : Network → ℕ → Type 0
IsLinkName net l = (is_name (link_at net l).name ≡ true) × (is_out (link_at net l).name ≡ false)

link_named : (net : Network) (l : ℕ) → IsAcceptable net → IsLink net l → IsLinkName net l
link_named net l a there = at (λ (link : LinkPart). (is_name link.name ≡ true) × (is_out link.name ≡ false)) net.links (l - 1) no_link a.names.links (omega (arith, there.0, there.1))

target_named : (net : Network) (to : Option ℕ) → IsAcceptable net → IsTarget net to → is_name (target_name net to) ≡ true
target_named net None a there = refl
target_named net (Some l) a there = (link_named net l a there).0

movement_named : (net : Network) (k : ℕ) → IsAcceptable net → IsMovement net k → is_name (movement_at net k).name ≡ true
movement_named net k a there = at (λ (movement : MovementPart). is_name movement.name ≡ true) net.movements (k - 1) no_movement a.names.movements (omega (arith, there.0, there.1))

-- each movement of the list has its ends
ends : (net : Network) → IsAcceptable net → AllByRecursion (HasEnds net) net.movements
ends net a = every (HasEnds net) net.movements no_movement (λ i below.
    let between = between_links net (i + 1) a.network (omega arith, omega arith) in
    let there : HasEnds net (get_or net.movements (i + 1 - 1) no_movement) = (between.from, between.to) in
    let e : i + 1 - 1 ≡ i = omega arith in
    rw e at there)

stages_named : (net : Network) (stages : List (List ℕ)) → IsAcceptable net → AllByRecursion (AllByRecursion (IsMovement net)) stages → list_all (list_all is_name) (map (λ stage. texts_of (items stage)) (map (stage_tree net) stages)) ≡ true
stages_named net [] a all = refl
stages_named net (stage ∷ stages) a all = rw (items_list-of (map (λ k. string (movement_at net k).name) stage), map-map (λ k. string (movement_at net k).name) text_or_empty stage, names stage all.0, stages_named net stages a all.1) refl
  where
    names : (stage : List ℕ) → AllByRecursion (IsMovement net) stage → list_all is_name (map (λ k. (movement_at net k).name) stage) ≡ true
    names [] all = refl
    names (k ∷ ks) all = rw (movement_named net k a all.0, names ks all.1) refl

bad_movement_name : (net : Network) (movement : MovementPart) → IsAcceptable net → is_name movement.name ≡ true → HasEnds net movement → has_bad_name Movement (movement_tree net movement) ≡ false
bad_movement_name net movement a name there =
    let from = link_named net movement.from a there.0 in
    let named = or_false _ _ (or_false _ _ (or_false _ _ (is_name_not movement.name name) (is_name_not (link_at net movement.from).name from.0)) from.1) (is_name_not (target_name net movement.to) (target_named net movement.to a there.1)) in
    by_start (λ m. has_bad_name Movement (movement_tree net m) ≡ false) movement named (λ n. named)

bad_junction_name : (net : Network) (junction : JunctionPart) → IsAcceptable net → is_name junction.name ≡ true → AllByRecursion (AllByRecursion (IsMovement net)) junction.stages → has_bad_name Junction (junction_tree net junction) ≡ false
bad_junction_name net junction a name all =
    or_false _ _ (is_name_not junction.name name) (rw (items_list-of (map (stage_tree net) junction.stages), stages_named net junction.stages a all) refl)

all_stages : (net : Network) → IsAcceptable net → AllByRecursion (λ (j : JunctionPart). AllByRecursion (AllByRecursion (IsMovement net)) j.stages) net.junctions
all_stages net a = each (HasStages net) (λ (j : JunctionPart). AllByRecursion (AllByRecursion (IsMovement net)) j.stages) net.junctions (has_stages net) a.network.stages

names-tree : (net : Network) → IsAcceptable net → bad_name_in (table (network_tree net)) ≡ None
names-tree net a =
    let s = says-tree net in
    let links : position_from (has_bad_name Link) 1 (section (codes "link") (table (network_tree net))) ≡ None =
    rw s.links (none_placed (has_bad_name Link) link_tree (λ link. (is_name link.name ≡ true) × (is_out link.name ≡ false)) 1 net.links (λ link named. or_false _ _ (is_name_not link.name named.0) named.1) a.names.links) in
    let movements : position_from (has_bad_name Movement) 1 (section (codes "movement") (table (network_tree net))) ≡ None =
    rw s.movements (none_placed (has_bad_name Movement) (movement_tree net) (λ movement. (is_name movement.name ≡ true) × HasEnds net movement) 1 net.movements (λ movement h. bad_movement_name net movement a h.0 h.1)
    (both (λ movement. is_name movement.name ≡ true) (HasEnds net) (λ movement. (is_name movement.name ≡ true) × HasEnds net movement) net.movements (λ movement name there. (name, there)) a.names.movements (ends net a))) in
    let junctions : position_from (has_bad_name Junction) 1 (section (codes "junction") (table (network_tree net))) ≡ None =
    rw s.junctions (none_placed (has_bad_name Junction) (junction_tree net) (λ j. (is_name j.name ≡ true) × AllByRecursion (AllByRecursion (IsMovement net)) j.stages) 1 net.junctions (λ j h. bad_junction_name net j a h.0 h.1)
    (both (λ j. is_name j.name ≡ true) (λ j. AllByRecursion (AllByRecursion (IsMovement net)) j.stages) (λ j. (is_name j.name ≡ true) × AllByRecursion (AllByRecursion (IsMovement net)) j.stages) net.junctions (λ j name all. (name, all)) a.names.junctions (all_stages net a))) in
    nowhere false _ _ _ refl links movements junctions

-- ---- the meaning

printable : (net : Network) → IsAcceptable net → IsPrintable net
printable net a = record {
  links = λ l there. (link_known net l a.names.links_differ there, (link_named net l a there).1);
  movements = λ k there. movement_known net k a.names.movements_differ there;
  ends = ends net a;
  stages = all_stages net a;
}

version_known : (net : Network) → bad_version (table (network_tree net)) ≡ None
version_known net = by_delay (λ n. bad_version (table (network_tree n)) ≡ None) net (split (has_start_queue net)) (λ n. refl)
  where
    split : (b : Bool) → first_spot (not (is_version (first_version 0 b))) None None None ≡ None
    split true = refl
    split false = refl

-- a tree that breaks no rule means what it says
joined : (d : Data) (net : Network) → unknown_key d ≡ None → missing_key d ≡ None → bad_version d ≡ None → bad_number_in d ≡ None → bad_name_in d ≡ None
    → network_from d ≡ net → first_broken (later_rules net) ≡ None → tree_meaning d ≡ Ok net
joined d net keys missing version numbers names same later =
    let hold : first_broken (later_rules (network_from d)) ≡ None = ap (λ (n : Network). first_broken (later_rules n)) same ∙ later in
    let all : first_broken (tree_rules d) ≡ None = rw (keys, missing, version, numbers, names) hold in
    ap (unless (network_from d)) all ∙ ap (λ (n : Network). unless n None) same

pub tree_meaning-tree : (net : Network) → IsAcceptable net → first_broken (part_rules net) ≡ None → tree_meaning (table (network_tree net)) ≡ Ok net
tree_meaning-tree net a sound =
    let number = none_of _ _ _ sound in
    let name = none_of _ _ _ number.1 in
    joined (table (network_tree net)) net (unknown_key-tree net) (missing_key-tree net) (version_known net) (numbers-tree net number.0) (names-tree net a) (network_from-tree net (printable net a)) name.1

pub tree_read : (net : Network) (bytes : List ℕ) → IsUtf8 bytes → parse_document bytes ≡ Some (network_tree net) → tree_of bytes ≡ Some (network_tree net)
tree_read net bytes utf8 read = rw (is_utf8-from_IsUtf8 bytes utf8, read) refl
