-- A network that meets the rules breaks none on its stages.
use Rattle.std.proofs.Common.{◌≡◌, ◌==◌, ◌||◌, not, ℕ, ◌+◌, ◌-◌, ◌≤◌, ◌<◌, Bool, true, false, nat_lt, length, get_or, None, refl, sym, ◌∙◌, subst, inl, inr, arith}
use Rattle.std.specs.List.{AllByRecursion, IsDistinct, list_any, find, range_with_len}
use Rattle.std.proofs.lemmas.Bool.{and_parts, cases_Bool}
use Rattle.std.proofs.lemmas.Bool.Decides.{nat_tests}
use Rattle.mp_model.specs.Network.{Network, Junction, junction_at, from_of, out_of, own, stands_in, no_junction, link_numbers, movement_numbers, junction_numbers, junction_of_movement, has}
use Rattle.mp_model.specs.NetworkRules.{HasStages, IsTogether}
use Rattle.mp_net.specs.RepeatRules.{movement_is_there, repeats_movement}
use Rattle.mp_net.specs.StageRules.{names_unknown_movement, leaves_link, serves_link, is_served_twice, has_bad_stage, bad_stage, is_unserved, unserved}
use Rattle.mp_net.proofs.Broken.{spot_none}
use Rattle.mp_net.proofs.Lists.{nothing_found, nothing_asked, passing, passes, passing_in, all_each, in_range, of_range, of_filter, in_none, all_more}
use Rattle.mp_net.proofs.Places.{entry_at, holder_at, apart_from_count, counted_place}
use Rattle.mp_net.proofs.StageLaw.{is_there, of_there, no_repeat_in, IsPlaced}

module _ (net : Network) where
  abbrev at : ℕ → Junction
  at i = get_or net.junctions i no_junction

  abbrev junction : ℕ → Junction
  junction j = junction_at net j

  pub stages_once : AllByRecursion (HasStages net) net.junctions → (j : ℕ) → has (junction_numbers net) j ≡ true → list_any (repeats_movement net) (junction j).stages ≡ false
  stages_once stages j h =
      in_none (repeats_movement net) (junction j).stages
      (all_more (λ stage. IsDistinct ◌==◌ stage × AllByRecursion (λ k. has (movement_numbers net) k ≡ true) stage) (λ stage. repeats_movement net stage ≡ false) (junction j).stages (λ stage p. no_repeat_in net stage p.0)
      (entry_at (HasStages net) net.junctions no_junction j stages h))

  all_known : AllByRecursion (HasStages net) net.junctions → (j : ℕ) → has (junction_numbers net) j ≡ true → names_unknown_movement net (junction j) ≡ false
  all_known stages j h =
      in_none (list_any (λ k. not (movement_is_there net k))) (junction j).stages
      (all_more (λ stage. IsDistinct ◌==◌ stage × AllByRecursion (λ k. has (movement_numbers net) k ≡ true) stage) (λ stage. list_any (λ k. not (movement_is_there net k)) stage ≡ false) (junction j).stages
      (λ stage p. in_none (λ k. not (movement_is_there net k)) stage (all_more (λ k. has (movement_numbers net) k ≡ true) (λ k. not (movement_is_there net k) ≡ false) stage (λ k e. rw (of_there net k e)) p.1))
      (entry_at (HasStages net) net.junctions no_junction j stages h))

  -- the junction of a movement is the one where it stands
  pub holder_of : AllByRecursion (IsPlaced net) (movement_numbers net) → (k m : ℕ) → has (movement_numbers net) k ≡ true → m < length net.junctions → stands_in (at m) k ≡ true → junction_of_movement net k ≡ 1 + m
  holder_of placed k m there within stands =
      let once = all_each (IsPlaced net) (movement_numbers net) k placed there in
      holder_at 1 net.junctions k m within stands (λ i below. elim (cases_Bool (stands_in (at i) k)) [
        | inl one ↦ absurd (apart_from_count (λ j. stands_in j k) net.junctions no_junction i m once below within one stands)
        | inr other ↦ other
      ])

  -- a movement out of the link, in the junction that serves it
  served_by : (l j : ℕ) → serves_link net l (junction j) ≡ true → (k : ℕ) × (stands_in (junction j) k ≡ true) × (has (movement_numbers net) k ≡ true) × (has (out_of net l) k ≡ true)
  served_by l j h =
      let p = passing_in (leaves_link net l) (junction j).stages h in
      let (there, leaves) = and_parts (movement_is_there net p.0) (from_of net p.0 == l) p.2 in
      let known = is_there net p.0 there in
      (p.0, p.1, known, of_filter (λ x. from_of net x == l) (movement_numbers net) p.0 known leaves)

  served_once : AllByRecursion (IsPlaced net) (movement_numbers net) → AllByRecursion (IsTogether net) (link_numbers net) → (i j l : ℕ) → 1 ≤ i → i < j → j < length net.junctions + 1 → has (link_numbers net) l ≡ true
      → serves_link net l (junction i) ≡ true → serves_link net l (junction j) ≡ true → ⊥
  served_once placed together i j l low below within link first second =
      let p = served_by l i first in
      let q = served_by l j second in
      let a = holder_of placed p.0 (i - 1) p.2 (omega arith) p.1 in
      let b = holder_of placed q.0 (j - 1) q.2 (omega arith) q.1 in
      let all = all_each (IsTogether net) (link_numbers net) l together link in
      let those = all_each (λ k. AllByRecursion (λ x. junction_of_movement net x ≡ junction_of_movement net k) (out_of net l)) (out_of net l) q.0 all q.3 in
      let same = all_each (λ x. junction_of_movement net x ≡ junction_of_movement net q.0) (out_of net l) p.0 those p.3 in
      let level : 1 + (i - 1) ≡ 1 + (j - 1) = sym a ∙ same ∙ b in
      omega (arith, level)

  not_twice : AllByRecursion (IsPlaced net) (movement_numbers net) → AllByRecursion (IsTogether net) (link_numbers net) → (j : ℕ) → has (junction_numbers net) j ≡ true → list_any (is_served_twice net j) (link_numbers net) ≡ false
  not_twice placed together j h = nothing_asked (is_served_twice net j) (link_numbers net) (λ l link.
      elim (cases_Bool (serves_link net l (junction j))) [
        | inl here ↦ elim (cases_Bool (list_any (λ i. serves_link net l (junction i)) (range_with_len 1 (j - 1)))) [
          | inl before ↦
              let p = passing (λ i. serves_link net l (junction i)) (range_with_len 1 (j - 1)) before in
              let r = in_range 1 (j - 1) p.0 p.1 in
              let s = in_range 1 (length net.junctions) j h in
              absurd (served_once placed together p.0 j l r.0 (omega (arith, r.1, s.0)) (omega (arith, s.1)) link p.2 here)
          | inr never ↦ rw (here, never)
        ]
        | inr other ↦ rw other
      ])

  few_is : (n : ℕ) → n ≤ 24 → nat_lt 24 n ≡ false
  few_is n h = grind (arith, nat_tests)

  pub no_bad_stage : AllByRecursion (HasStages net) net.junctions → AllByRecursion (IsPlaced net) (movement_numbers net) → AllByRecursion (IsTogether net) (link_numbers net) → AllByRecursion (λ j. length (own net j) ≤ 24) net.junctions → bad_stage net ≡ None
  no_bad_stage stages placed together few =
      spot_none false None None (find (has_bad_stage net) (junction_numbers net)) refl refl refl
      (nothing_found (has_bad_stage net) (junction_numbers net) (λ j h.
      let known = all_known stages j h in
      let once = not_twice placed together j h in
      let own_few = few_is (length (own net (junction j))) (entry_at (λ (j' : Junction). length (own net j') ≤ 24) net.junctions no_junction j few h) in
      none_of (names_unknown_movement net (junction j)) (list_any (is_served_twice net j) (link_numbers net)) (nat_lt 24 (length (own net (junction j)))) known once own_few))
    where
      none_of : (a b c : Bool) → a ≡ false → b ≡ false → c ≡ false → (a || b || c) ≡ false
      none_of a b c x y z = rw (x, y, z)

  pub no_unserved : AllByRecursion (IsPlaced net) (movement_numbers net) → unserved net ≡ None
  no_unserved placed =
      spot_none false None (find (is_unserved net) (movement_numbers net)) None refl refl
      (nothing_found (is_unserved net) (movement_numbers net) (λ k h.
      let once = all_each (IsPlaced net) (movement_numbers net) k placed h in
      let p = counted_place (λ j. stands_in j k) net.junctions no_junction (omega (arith, once)) in
      let e : p.0 ≡ p.0 + 1 - 1 = omega arith in
      let some : list_any (λ j. stands_in (junction j) k) (junction_numbers net) ≡ true =
      passes (λ j. stands_in (junction j) k) (junction_numbers net) (p.0 + 1) (of_range 1 (length net.junctions) (p.0 + 1) (omega arith) (omega (arith, p.1))) (subst (λ m. stands_in (at m) k ≡ true) e p.2) in
      rw some))
      refl
