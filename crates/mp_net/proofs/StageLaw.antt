-- What the rules on stages say of a network.
use Rattle.std.proofs.Common.{◌≡◌, ◌==◌, ◌&&◌, ◌||◌, not, ℕ, ◌+◌, ◌-◌, ◌≤◌, ◌<◌, Bool, true, false, cond, nat_le, nat_lt, List, [], ◌∷◌, length, get_or, None, sum_by, refl, sym, ◌∙◌, ap, subst, inl, inr, arith}
use Rattle.std.specs.List.{AllByRecursion, IsDistinct, list_any, find, range_with_len}
use Rattle.std.proofs.lemmas.Bool.{false≢true, and_parts, cases_Bool, cases_lt}
use Rattle.std.proofs.lemmas.Bool.Decides.{nat_tests}
use Rattle.mp_model.specs.Network.{Network, Junction, junction_at, from_of, out_of, own, stands_in, no_junction, link_numbers, movement_numbers, junction_numbers, junction_of_movement, has}
use Rattle.mp_model.specs.NetworkRules.{HasStages, IsTogether}
use Rattle.mp_net.specs.RepeatRules.{movement_is_there, repeats_movement}
use Rattle.mp_net.specs.StageRules.{names_unknown_movement, leaves_link, serves_link, is_served_twice, has_bad_stage, bad_stage, is_unserved, unserved}
use Rattle.mp_net.specs.Marks.{HasItsLinks}
use Rattle.mp_net.proofs.Broken.{no_spot}
use Rattle.mp_net.proofs.LinkLaw.{not_false}
use Rattle.mp_net.proofs.Lists.{none_passes, none_asked, passing, passes, all_each, each_all, in_range, of_range, in_filter, or_none, none_in, in_none, all_more, all_both, any_more}
use Rattle.mp_net.proofs.Places.{entries_from_numbers, holder_at, once_counted}

-- ---- movements that are there

pub is_there : (net : Network) (k : ℕ) → movement_is_there net k ≡ true → has (movement_numbers net) k ≡ true
is_there net k h = let p = and_parts (nat_le 1 k) (nat_le k (length net.movements)) h in of_range 1 (length net.movements) k (grind (arith, nat_tests)) (grind (arith, nat_tests))

pub of_there : (net : Network) (k : ℕ) → has (movement_numbers net) k ≡ true → movement_is_there net k ≡ true
of_there net k h = let r = in_range 1 (length net.movements) k h in let low : 1 ≤ k = r.0 in let high : k ≤ length net.movements = omega (arith, r.1) in grind (arith, nat_tests)

-- ---- stages of movements that are there, none twice

other_way : (k x : ℕ) → (x == k) ≡ false → (k == x) ≡ false
other_way k x h = grind (arith, nat_tests)

distinct_stage : (net : Network) (ks : List ℕ) → repeats_movement net ks ≡ false → AllByRecursion (λ k. movement_is_there net k ≡ true) ks → IsDistinct ◌==◌ ks
unfolding IsDistinct
distinct_stage net [] h there = tt
distinct_stage net (k ∷ ks) h there =
    let p = or_none (movement_is_there net k && has ks k) (repeats_movement net ks) h in
    let once : has ks k ≡ false = second (movement_is_there net k) (has ks k) there.0 p.0 in
    (all_more (λ x. (x == k) ≡ false) (λ x. (k == x) ≡ false) ks (λ x e. other_way k x e) (none_in (λ x. x == k) ks once), distinct_stage net ks p.1 there.1)
  where
    second : (a b : Bool) → a ≡ true → (a && b) ≡ false → b ≡ false
    second true b e h = h
    second false b e h = absurd (false≢true e)

pub no_repeat_in : (net : Network) (ks : List ℕ) → IsDistinct ◌==◌ ks → repeats_movement net ks ≡ false
unfolding IsDistinct
no_repeat_in net [] h = refl
no_repeat_in net (k ∷ ks) h =
    let once : has ks k ≡ false = in_none (λ x. x == k) ks (all_more (λ x. (k == x) ≡ false) (λ x. (x == k) ≡ false) ks (λ x e. other_way x k e) h.0) in
    rw once (neither (movement_is_there net k) (repeats_movement net ks) (no_repeat_in net ks h.1))
  where
    neither : (a b : Bool) → b ≡ false → ((a && false) || b) ≡ false
    neither true b e = e
    neither false b e = e

-- ---- junctions that are not bad

module _ (net : Network) where
  abbrev junction : ℕ → Junction
  junction j = junction_at net j

  -- a junction that is not bad
  record IsGood (j : ℕ) : Type 0 where
    pub known : names_unknown_movement net (junction j) ≡ false
    pub apart : list_any (is_served_twice net j) (link_numbers net) ≡ false
    pub few : nat_lt 24 (length (own net (junction j))) ≡ false

  good : bad_stage net ≡ None → (j : ℕ) → has (junction_numbers net) j ≡ true → IsGood j
  good none j h =
      let p = or_none (names_unknown_movement net (junction j) || list_any (is_served_twice net j) (link_numbers net)) (nat_lt 24 (length (own net (junction j))))
      (none_passes (has_bad_stage net) (junction_numbers net) j (no_spot false None None (find (has_bad_stage net) (junction_numbers net)) none).3 h) in
      let q = or_none (names_unknown_movement net (junction j)) (list_any (is_served_twice net j) (link_numbers net)) p.0 in
      record { known = q.0; apart = q.1; few = p.1 }

  pub few_own : bad_stage net ≡ None → AllByRecursion (λ j. length (own net j) ≤ 24) net.junctions
  few_own none = entries_from_numbers (λ (j : Junction). length (own net j) ≤ 24) net.junctions no_junction (λ j h. let f = (good none j h).few in few_is (length (own net (junction j))) f)
    where
      few_is : (n : ℕ) → nat_lt 24 n ≡ false → n ≤ 24
      few_is n f = grind (arith, nat_tests)

  stage_there : (stage : List ℕ) → list_any (λ k. not (movement_is_there net k)) stage ≡ false → AllByRecursion (λ k. movement_is_there net k ≡ true) stage
  stage_there stage h = all_more (λ k. not (movement_is_there net k) ≡ false) (λ k. movement_is_there net k ≡ true) stage (λ k e. not_false (movement_is_there net k) e) (none_in (λ k. not (movement_is_there net k)) stage h)

  pub its_stages : bad_stage net ≡ None → ((j : ℕ) → has (junction_numbers net) j ≡ true → list_any (repeats_movement net) (junction_at net j).stages ≡ false) → AllByRecursion (HasStages net) net.junctions
  its_stages none once = entries_from_numbers (HasStages net) net.junctions no_junction (λ j h.
      all_more (λ stage. (list_any (λ k. not (movement_is_there net k)) stage ≡ false) × (repeats_movement net stage ≡ false)) (λ stage. IsDistinct ◌==◌ stage × AllByRecursion (λ k. has (movement_numbers net) k ≡ true) stage) (junction j).stages
      (λ stage p. let there = stage_there stage p.0 in (distinct_stage net stage p.1 there, all_more (λ k. movement_is_there net k ≡ true) (λ k. has (movement_numbers net) k ≡ true) stage (λ k e. is_there net k e) there))
      (all_both (λ stage. list_any (λ k. not (movement_is_there net k)) stage ≡ false) (λ stage. repeats_movement net stage ≡ false) (junction j).stages
      (none_in (list_any (λ k. not (movement_is_there net k))) (junction j).stages (good none j h).known) (none_in (repeats_movement net) (junction j).stages (once j h))))

  -- ---- a link is served at one junction

  -- a junction with a movement out of a link serves the link
  serving : (J : Junction) (k : ℕ) → has (movement_numbers net) k ≡ true → stands_in J k ≡ true → serves_link net (from_of net k) J ≡ true
  serving J k there stands =
      let leaves : leaves_link net (from_of net k) k ≡ true = leaving (movement_is_there net k) (from_of net k) (of_there net k there) in
      any_more (λ stage. has stage k) (list_any (leaves_link net (from_of net k))) J.stages (λ stage h. passes (leaves_link net (from_of net k)) stage k h leaves) stands
    where
      leaving : (b : Bool) (l : ℕ) → b ≡ true → (b && (l == l)) ≡ true
      leaving b l e = rw e (grind (arith, nat_tests))

  -- no two junctions have movements out of one link
  apart : bad_stage net ≡ None → (i j l : ℕ) → 1 ≤ i → i < j → has (junction_numbers net) j ≡ true → has (link_numbers net) l ≡ true → serves_link net l (junction i) ≡ true → serves_link net l (junction j) ≡ true → ⊥
  apart none i j l low below there link first second =
      let twice = none_asked (is_served_twice net j) (link_numbers net) l (good none j there).apart link in
      let before : list_any (λ m. serves_link net l (junction m)) (range_with_len 1 (j - 1)) ≡ true = passes (λ m. serves_link net l (junction m)) (range_with_len 1 (j - 1)) i (of_range 1 (j - 1) i low (omega arith)) first in
      false≢true (sym twice ∙ rw (second, before))

  -- the junction at a place, from 0
  abbrev at : ℕ → Junction
  at i = get_or net.junctions i no_junction

  one_place : bad_stage net ≡ None → (i j k k' : ℕ) → i < j → j < length net.junctions → has (link_numbers net) (from_of net k) ≡ true → from_of net k ≡ from_of net k' → has (movement_numbers net) k ≡ true → has (movement_numbers net) k' ≡ true
      → stands_in (at i) k ≡ true → stands_in (at j) k' ≡ true → ⊥
  one_place none i j k k' below within link same there there' first second =
      let l = from_of net k in
      let a : i ≡ i + 1 - 1 = omega arith in
      let b : j ≡ j + 1 - 1 = omega arith in
      apart none (i + 1) (j + 1) l (omega arith) (omega arith) (of_range 1 (length net.junctions) (j + 1) (omega arith) (omega arith)) link
      (subst (λ m. serves_link net l (at m) ≡ true) a (serving (at i) k there first))
      (subst (λ m. serves_link net l (at m) ≡ true) b (subst (λ l'. serves_link net l' (at j) ≡ true) (sym same) (serving (at j) k' there' second)))

  place : unserved net ≡ None → (k : ℕ) → has (movement_numbers net) k ≡ true → (m : ℕ) × (m < length net.junctions) × (stands_in (at m) k ≡ true)
  place none k h =
      let p = passing (λ j. stands_in (junction j) k) (junction_numbers net)
      (not_false (list_any (λ j. stands_in (junction j) k) (junction_numbers net)) (none_passes (is_unserved net) (movement_numbers net) k (no_spot false None (find (is_unserved net) (movement_numbers net)) None none).2 h)) in
      let r = in_range 1 (length net.junctions) p.0 p.1 in
      (p.0 - 1, omega (arith, r.0, r.1), p.2)

  -- a movement stands at its place alone
  not_later : bad_stage net ≡ None → (k : ℕ) → has (link_numbers net) (from_of net k) ≡ true → has (movement_numbers net) k ≡ true → (i j : ℕ) → i < j → j < length net.junctions → stands_in (at i) k ≡ true → stands_in (at j) k ≡ false
  not_later none k link there i j below within first =
      elim (cases_Bool (stands_in (at j) k)) [
        | inl one ↦ absurd (one_place none i j k k below within link refl there there first one)
        | inr other ↦ other
      ]

  not_earlier : bad_stage net ≡ None → (k : ℕ) → has (link_numbers net) (from_of net k) ≡ true → has (movement_numbers net) k ≡ true → (j : ℕ) → j < length net.junctions → stands_in (at j) k ≡ true → (i : ℕ) → i < j → stands_in (at i) k ≡ false
  not_earlier none k link there j within second i below =
      elim (cases_Bool (stands_in (at i) k)) [
        | inl one ↦ absurd (one_place none i j k k below within link refl there there one second)
        | inr other ↦ other
      ]

  -- each movement stands in one junction
  abbrev pub IsPlaced : ℕ → Type 0
  IsPlaced k = sum_by (λ j. cond (stands_in j k) 1 0) net.junctions ≡ 1

  pub its_places : bad_stage net ≡ None → unserved net ≡ None → HasItsLinks net → AllByRecursion IsPlaced (movement_numbers net)
  its_places none served links = each_all IsPlaced (movement_numbers net) (λ k h.
      let link = all_each (λ i. has (link_numbers net) (from_of net i) ≡ true) (movement_numbers net) k links.from h in
      let p = place served k h in
      once_counted (λ j. stands_in j k) net.junctions no_junction p.0 p.1 p.2 (not_later none k link h))

  same_place : bad_stage net ≡ None → unserved net ≡ None → (l k i : ℕ) → has (link_numbers net) l ≡ true → has (out_of net l) k ≡ true → has (out_of net l) i ≡ true → junction_of_movement net i ≡ junction_of_movement net k
  same_place none served l k i link outk outi =
      let a = in_filter (λ x. from_of net x == l) (movement_numbers net) k outk in
      let b = in_filter (λ x. from_of net x == l) (movement_numbers net) i outi in
      let from_k : from_of net k ≡ l = let t = a.1 in same_number (from_of net k) l t in
      let from_i : from_of net i ≡ l = let t = b.1 in same_number (from_of net i) l t in
      let link_k : has (link_numbers net) (from_of net k) ≡ true = rw from_k link in
      let link_i : has (link_numbers net) (from_of net i) ≡ true = rw from_i link in
      let p = place served k a.0 in
      let q = place served i b.0 in
      let holder_k = holder_at 1 net.junctions k p.0 p.1 p.2 (not_earlier none k link_k a.0 p.0 p.1 p.2) in
      let holder_i = holder_at 1 net.junctions i q.0 q.1 q.2 (not_earlier none i link_i b.0 q.0 q.1 q.2) in
      elim (cases_lt p.0 q.0) [
        | inl below ↦ absurd (one_place none p.0 q.0 k i below q.1 link_k (from_k ∙ sym from_i) a.0 b.0 p.2 q.2)
        | inr above ↦ elim (cases_lt q.0 p.0) [
          | inl below ↦ absurd (one_place none q.0 p.0 i k below p.1 link_i (from_i ∙ sym from_k) b.0 a.0 q.2 p.2)
          | inr level ↦ let same : q.0 ≡ p.0 = omega (arith, above, level) in holder_i ∙ ap (λ m. 1 + m) same ∙ sym holder_k
        ]
      ]
    where
      same_number : (m n : ℕ) → (m == n) ≡ true → m ≡ n
      same_number m n t = grind (arith, nat_tests)

  pub its_junctions : bad_stage net ≡ None → unserved net ≡ None → AllByRecursion (IsTogether net) (link_numbers net)
  its_junctions none served = each_all (IsTogether net) (link_numbers net) (λ l link.
      each_all (λ k. AllByRecursion (λ i. junction_of_movement net i ≡ junction_of_movement net k) (out_of net l)) (out_of net l)
      (λ k outk. each_all (λ i. junction_of_movement net i ≡ junction_of_movement net k) (out_of net l) (λ i outi. same_place none served l k i link outk outi)))
