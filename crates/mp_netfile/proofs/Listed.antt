-- The tree of a network breaks no rule on keys and types.
use Rattle.std.proofs.Common.{◌≡◌, ℕ, suc, Bool, true, false, List, [], ◌∷◌, map, None, ◌+◌, refl, arith}
use Rattle.std.specs.List.{position_from, list_all, AllByRecursion}
use Rattle.toml.specs.Data.{Data, string, table}
use Rattle.mp_model.specs.Network.{Movement as MovementRow, Junction as JunctionRow, Network, movement_at}
use Rattle.mp_net.specs.declared.fault.Section.TheVariants.{Top, Link, Movement, Junction}
use Rattle.mp_tree.specs.Tree.{is_text}
use Rattle.mp_netfile.specs.Keys.{unknown_key, missing_key, has_unlisted_key, lacks_key, is_array_of_texts}
use Rattle.mp_netfile.specs.Printed.{link_tree, movement_tree, stage_tree, junction_tree, undelayed_members, network_tree, has_start_queue, first_version, version_for}
use Rattle.mp_netfile.proofs.Starts.{by_start, starts, none_starts, not_above}
use Rattle.mp_netfile.specs.Values.{version_of}
use Rattle.mp_netfile.proofs.Delays.{delayed, by_delay}
use Rattle.mp_netfile.proofs.ReadBack.{items_list-of, all_tables, says-tree}

no_place : {A : Type 0} (test : Data → Bool) (f : A → Data) (i : ℕ) (xs : List A) → ((x : A) → test (f x) ≡ false) → position_from test i (map f xs) ≡ None
no_place test f i [] h = refl
no_place test f i (x ∷ xs) h = rw (h x, no_place test f (i + 1) xs h)

-- where no movement has a start queue, no table has the key of one
none_listed : (net : Network) (i : ℕ) (ms : List MovementRow) → AllByRecursion (λ m. starts m ≡ false) ms → position_from (has_unlisted_key 1 Movement) i (map (movement_tree net) ms) ≡ None
none_listed net i [] all = refl
none_listed net i (m ∷ ms) all = rw (by_start (λ m. starts m ≡ false → has_unlisted_key 1 Movement (movement_tree net m) ≡ false) m (λ e. refl) (λ n e. absurd (omega (arith, not_above (suc n) e))) all.0, none_listed net (i + 1) ms all.1) refl

-- the files of a version list the keys of a network's table, which names that version
record Lists (net : Network) (n : ℕ) : Type 0 where
  version : version_of (table (network_tree net)) ≡ n
  top : has_unlisted_key n Top (table (network_tree net)) ≡ false
  movements : position_from (has_unlisted_key n Movement) 1 (map (movement_tree net) net.movements) ≡ None

listed : (net : Network) → Lists net (version_for net)
listed net = by_delay (λ n. Lists n (version_for n)) net (split (has_start_queue net) refl) (λ n. record { version = refl; top = refl; movements = each 3 (λ m. by_start (λ m. has_unlisted_key 3 Movement (movement_tree net m) ≡ false) m refl (λ n. refl)) })
  where
    each : (version : ℕ) → ((m : MovementRow) → has_unlisted_key version Movement (movement_tree net m) ≡ false) → position_from (has_unlisted_key version Movement) 1 (map (movement_tree net) net.movements) ≡ None
    each version = no_place (has_unlisted_key version Movement) (movement_tree net) 1 net.movements

    split : (b : Bool) → has_start_queue net ≡ b → Lists (delayed net 0) (first_version 0 b)
    split true e = record { version = rw e refl; top = refl; movements = each 2 (λ m. by_start (λ m. has_unlisted_key 2 Movement (movement_tree net m) ≡ false) m refl (λ n. refl)) }
    split false e = record { version = rw e refl; top = refl; movements = none_listed net 1 net.movements (none_starts net.movements e) }

pub unknown_key-tree : (net : Network) → unknown_key (table (network_tree net)) ≡ None
unknown_key-tree net =
    let s = says-tree net in
    let l = listed net in
    rw (
      l.version,
      l.top,
      s.links,
      s.movements,
      s.junctions,
      no_place (has_unlisted_key (version_for net) Link) link_tree 1 net.links (λ l. refl),
      l.movements,
      no_place (has_unlisted_key (version_for net) Junction) (junction_tree net) 1 net.junctions (λ j. refl),
    ) refl

all_pass : {A : Type 0} (test : Data → Bool) (f : A → Data) (xs : List A) → ((x : A) → test (f x) ≡ true) → list_all test (map f xs) ≡ true
all_pass test f [] h = refl
all_pass test f (x ∷ xs) h = rw (h x, all_pass test f xs h)

texts : (net : Network) (ks : List ℕ) → is_array_of_texts (stage_tree net ks) ≡ true
texts net ks = rw (items_list-of (map (λ k. string (movement_at net k).name) ks)) (all_pass is_text (λ (k : ℕ). string (movement_at net k).name) ks (λ k. refl))

lacks_key-junction : (net : Network) (j : JunctionRow) → lacks_key Junction (junction_tree net j) ≡ false
lacks_key-junction net j = rw (items_list-of (map (stage_tree net) j.stages), all_pass is_array_of_texts (stage_tree net) j.stages (texts net))

lacks_key-movement : (net : Network) (m : MovementRow) → lacks_key Movement (movement_tree net m) ≡ false
lacks_key-movement net m = by_start (λ m. lacks_key Movement (movement_tree net m) ≡ false) m refl (λ n. refl)

-- the table of a network but for its delay has each key that must be there
top_whole : (net : Network) → lacks_key Top (table (undelayed_members net)) ≡ false
top_whole net =
    rw (
      items_list-of (map link_tree net.links),
      all_tables link_tree net.links (λ l. refl),
      items_list-of (map (movement_tree net) net.movements),
      all_tables (movement_tree net) net.movements (λ m. refl),
      items_list-of (map (junction_tree net) net.junctions),
      all_tables (junction_tree net) net.junctions (λ j. refl),
    ) refl

pub missing_key-tree : (net : Network) → missing_key (table (network_tree net)) ≡ None
missing_key-tree net =
    let s = says-tree net in
    let top : lacks_key Top (table (network_tree net)) ≡ false = by_delay (λ n. lacks_key Top (table (network_tree n)) ≡ false) net (top_whole net) (λ n. top_whole net) in
    rw (
      top,
      s.links,
      s.movements,
      s.junctions,
      no_place (lacks_key Link) link_tree 1 net.links (λ l. refl),
      no_place (lacks_key Movement) (movement_tree net) 1 net.movements (lacks_key-movement net),
      no_place (lacks_key Junction) (junction_tree net) 1 net.junctions (lacks_key-junction net),
    ) refl
