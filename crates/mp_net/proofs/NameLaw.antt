-- What the rules on names say of a network.
use Rattle.std.proofs.Common.{◌≡◌, ℕ, ◌+◌, ◌-◌, ◌<◌, Bool, true, false, List, [], length, get_or, map, None, refl, arith}
use Rattle.std.specs.List.{AllByRecursion, IsDistinct, list_any, find, range_with_len}
use Rattle.std.specs.Str.{bytes_eq}
use Rattle.std.proofs.lemmas.List.{length-map, get_or-map}
use Rattle.mp_model.specs.Names.{is_out}
use Rattle.mp_model.specs.Network.{Network, Link, Movement, Junction, junction_at, no_link, no_movement, no_junction, link_numbers, movement_numbers, junction_numbers, has}
use Rattle.mp_net.specs.NumberRules.{is_named_out, bad_link_name}
use Rattle.mp_net.specs.RepeatRules.{link_is_repeated, movement_is_repeated, junction_is_repeated, junction_name_is_repeated, repeats_movement, repeated}
use Rattle.mp_net.proofs.Broken.{no_spot, spot_none}
use Rattle.mp_net.proofs.Lists.{none_passes, none_asked, nothing_found, nothing_asked, in_range, of_range, or_none}
use Rattle.mp_net.proofs.Places.{entries_from_numbers, entry_at, distinct_from_places, places_from_distinct}

pub not_out : (net : Network) → bad_link_name net ≡ None → AllByRecursion (λ (link : Link). is_out link.name ≡ false) net.links
not_out net none =
    entries_from_numbers (λ (link : Link). is_out link.name ≡ false) net.links no_link
    (λ l h. none_passes (is_named_out net) (link_numbers net) l (no_spot false (find (is_named_out net) (link_numbers net)) None None none).1 h)

pub no_bad_name : (net : Network) → AllByRecursion (λ (link : Link). is_out link.name ≡ false) net.links → bad_link_name net ≡ None
no_bad_name net all =
    spot_none false (find (is_named_out net) (link_numbers net)) None None refl
    (nothing_found (is_named_out net) (link_numbers net) (λ l h. entry_at (λ (link : Link). is_out link.name ≡ false) net.links no_link l all h))
    refl refl

-- ---- distinct names, of entries of one kind

module _ {X : Type 0} (name : X → List ℕ) (xs : List X) (d : X) where
  -- the name of the entry with this number
  abbrev name_at : ℕ → List ℕ
  name_at k = name (get_or xs (k - 1) d)

  -- an earlier entry has the name
  abbrev is_taken : ℕ → Bool
  is_taken k = list_any (λ i. bytes_eq (name_at i) (name_at k)) (range_with_len 1 (k - 1))

  pub names_differ : ((k : ℕ) → has (range_with_len 1 (length xs)) k ≡ true → is_taken k ≡ false) → IsDistinct bytes_eq (map name xs)
  names_differ free = distinct_from_places bytes_eq (map name xs) [] (λ i j below within.
      let high : j < length xs = omega (arith, within, length-map xs name) in
      let at : (n : ℕ) → n < length xs → get_or (map name xs) n [] ≡ name (get_or xs n d) = λ n h. get_or-map name xs n d [] h in
      let first : i + 1 - 1 ≡ i = omega arith in
      let second : j + 1 - 1 ≡ j = omega arith in
      let none = free (j + 1) (of_range 1 (length xs) (j + 1) (omega arith) (omega (arith, high))) in
      let apart = none_asked (λ i'. bytes_eq (name_at i') (name_at (j + 1))) (range_with_len 1 (j + 1 - 1)) (i + 1) none (of_range 1 (j + 1 - 1) (i + 1) (omega arith) (omega (arith, below))) in
      rw (at i (omega (arith, below, high)), at j high) (rw (first, second) at apart))

  pub names_free : IsDistinct bytes_eq (map name xs) → (k : ℕ) → has (range_with_len 1 (length xs)) k ≡ true → is_taken k ≡ false
  names_free distinct k h =
      let r = in_range 1 (length xs) k h in
      nothing_asked (λ i. bytes_eq (name_at i) (name_at k)) (range_with_len 1 (k - 1)) (λ i g.
      let s = in_range 1 (k - 1) i g in
      let at : (n : ℕ) → n < length xs → get_or (map name xs) n [] ≡ name (get_or xs n d) = λ n b. get_or-map name xs n d [] b in
      let apart = places_from_distinct bytes_eq (map name xs) [] (i - 1) (k - 1) distinct (omega (arith, s.0, s.1, r.0)) (omega (arith, length-map xs name, r.0, r.1)) in
      rw (at (i - 1) (omega (arith, s.0, s.1, r.1)), at (k - 1) (omega (arith, r.0, r.1))) at apart)

-- ---- what repeats

module _ (net : Network) where
  pub link_names_differ : repeated net ≡ None → IsDistinct bytes_eq (map (λ (link : Link). link.name) net.links)
  link_names_differ none =
      names_differ (λ (link : Link). link.name) net.links no_link (none_passes_all
      (no_spot false (find (link_is_repeated net) (link_numbers net)) (find (movement_is_repeated net) (movement_numbers net)) (find (junction_is_repeated net) (junction_numbers net)) none).1)
    where
      none_passes_all : find (link_is_repeated net) (link_numbers net) ≡ None → (k : ℕ) → has (link_numbers net) k ≡ true → link_is_repeated net k ≡ false
      none_passes_all e k h = none_passes (link_is_repeated net) (link_numbers net) k e h

  pub movement_names_differ : repeated net ≡ None → IsDistinct bytes_eq (map (λ (movement : Movement). movement.name) net.movements)
  movement_names_differ none =
      names_differ (λ (movement : Movement). movement.name) net.movements no_movement
      (λ k h. none_passes (movement_is_repeated net) (movement_numbers net) k
      (no_spot false (find (link_is_repeated net) (link_numbers net)) (find (movement_is_repeated net) (movement_numbers net)) (find (junction_is_repeated net) (junction_numbers net)) none).2 h)

  -- the names and the stages of junctions repeat nothing
  junction_free : repeated net ≡ None → (j : ℕ) → has (junction_numbers net) j ≡ true → (junction_name_is_repeated net j ≡ false) × (list_any (repeats_movement net) (junction_at net j).stages ≡ false)
  junction_free none j h = or_none (junction_name_is_repeated net j) (list_any (repeats_movement net) (junction_at net j).stages) (none_passes (junction_is_repeated net) (junction_numbers net) j
      (no_spot false (find (link_is_repeated net) (link_numbers net)) (find (movement_is_repeated net) (movement_numbers net)) (find (junction_is_repeated net) (junction_numbers net)) none).3 h)

  pub junction_names_differ : repeated net ≡ None → IsDistinct bytes_eq (map (λ (j : Junction). j.name) net.junctions)
  junction_names_differ none = names_differ (λ (j : Junction). j.name) net.junctions no_junction (λ j h. (junction_free none j h).0)

  pub stages_repeat_nothing : repeated net ≡ None → (j : ℕ) → has (junction_numbers net) j ≡ true → list_any (repeats_movement net) (junction_at net j).stages ≡ false
  stages_repeat_nothing none j h = (junction_free none j h).1

  pub no_repeat : IsDistinct bytes_eq (map (λ (link : Link). link.name) net.links) → IsDistinct bytes_eq (map (λ (movement : Movement). movement.name) net.movements) → IsDistinct bytes_eq (map (λ (j : Junction). j.name) net.junctions)
      → ((j : ℕ) → has (junction_numbers net) j ≡ true → list_any (repeats_movement net) (junction_at net j).stages ≡ false) → repeated net ≡ None
  no_repeat links movements junctions stages =
      spot_none false (find (link_is_repeated net) (link_numbers net)) (find (movement_is_repeated net) (movement_numbers net)) (find (junction_is_repeated net) (junction_numbers net)) refl
      (nothing_found (link_is_repeated net) (link_numbers net) (names_free (λ (link : Link). link.name) net.links no_link links))
      (nothing_found (movement_is_repeated net) (movement_numbers net) (names_free (λ (movement : Movement). movement.name) net.movements no_movement movements))
      (nothing_found (junction_is_repeated net) (junction_numbers net) (λ j h. rw (names_free (λ (j' : Junction). j'.name) net.junctions no_junction junctions j h) (stages j h)))
