-- The movements out of a link stand in the stages of one junction, and so are few.
use Rattle.std.proofs.Common.{◌≡◌, ◌==◌, ◌≤◌, ◌<◌, ℕ, ◌+◌, Bool, true, false, cond, List, [], ◌∷◌, length, get_or, filter, sum_by, arith, refl, ◌∙◌, ap, subst, inl, inr, ◌||◌, eq-eqb}
use Rattle.std.specs.List.{AllByRecursion}
use Rattle.std.proofs.lemmas.Bool.{cases_Bool}
use Rattle.mp_laws.proofs.Lists.{at_in, each_in, filter_sub, has_filter}
use Rattle.mp_model.specs.Network.{Network, from_of, has, junction_of_movement, link_numbers, movement_numbers, no_junction, out_of, own, stands_in}
use Rattle.mp_model.specs.NetworkRules.{IsAcceptable, IsNetwork, IsTogether}
use Rattle.mp_net.proofs.Entries.{all_at}
use Rattle.mp_net.proofs.Places.{apart_from_count, counted_place, holder_at}
use Rattle.mp_press.proofs.Known.{has_numbers}
use Rattle.mp_press.specs.Written.{IsAmong}

fewer_kept : (p q : ℕ → Bool) (xs : List ℕ) → AllByRecursion (λ x. p x ≡ true → q x ≡ true) xs → length (filter p xs) ≤ length (filter q xs)
fewer_kept p q [] h = omega arith
fewer_kept p q (x ∷ xs) h = go (p x) (q x) h.0 (fewer_kept p q xs h.1)
  where
    go : (b c : Bool) → (b ≡ true → c ≡ true) → length (filter p xs) ≤ length (filter q xs) → length (cond b (x ∷ filter p xs) (filter p xs)) ≤ length (cond c (x ∷ filter q xs) (filter q xs))
    go true true e le = omega arith
    go true false e le = let t : false ≡ true = e refl in cc
    go false true e le = omega arith
    go false false e le = le

module _ (net : Network) (ok : IsNetwork net) where
  holder : (k : ℕ) → has (movement_numbers net) k ≡ true → (n : ℕ) × (n < length net.junctions) × (stands_in (get_or net.junctions n no_junction) k ≡ true) × (junction_of_movement net k ≡ 1 + n)
  holder k there =
      let once : sum_by (λ j. cond {A = ℕ} (stands_in j k) 1 0) net.junctions ≡ 1 = at_in (λ k. sum_by (λ j. cond {A = ℕ} (stands_in j k) 1 0) net.junctions ≡ 1) k (movement_numbers net) there ok.placed in
      let p = counted_place (λ j. stands_in j k) net.junctions no_junction (omega (arith, once)) in (
        p.0,
        p.1,
        p.2,
        holder_at 1 net.junctions k p.0 p.1 p.2 (λ i below. elim (cases_Bool (stands_in (get_or net.junctions i no_junction) k)) [
          | inl one ↦ absurd (apart_from_count (λ j. stands_in j k) net.junctions no_junction i p.0 once below p.1 one p.2)
          | inr other ↦ other
        ]),
      )

  -- each movement out of a link stands at the junction of any other
  of_one : (l : ℕ) → has (link_numbers net) l ≡ true → (k : ℕ) → has (out_of net l) k ≡ true → (n : ℕ) × (n < length net.junctions) × (length (out_of net l) ≤ length (own net (get_or net.junctions n no_junction)))
  of_one l link k here =
      let ks = movement_numbers net in
      let there = filter_sub (λ k. from_of net k == l) ks k here in
      let p = holder k there in
      let together = at_in (IsTogether net) l (link_numbers net) link ok.together in
      let same = at_in (λ k. AllByRecursion (λ i. junction_of_movement net i ≡ junction_of_movement net k) (out_of net l)) k (out_of net l) here together in (
        p.0,
        p.1,
        fewer_kept (λ k. from_of net k == l) (stands_in (get_or net.junctions p.0 no_junction)) ks (each_in _ ks (λ x known leaves.
            let q = holder x known in
            let one = at_in (λ i. junction_of_movement net i ≡ junction_of_movement net k) x (out_of net l) (has_filter (λ k. from_of net k == l) x ks known leaves) same in
            let place : q.0 ≡ p.0 = omega (arith, one, p.3, q.3) in
            subst (λ (n : ℕ). stands_in (get_or net.junctions n no_junction) x ≡ true) place q.2)),
      )

pub few_out : (net : Network) → IsAcceptable net → (l : ℕ) → IsAmong (length net.links) l → length (out_of net l) ≤ 24
few_out net ok l known = go (out_of net l) refl
  where
    go : (ks : List ℕ) → out_of net l ≡ ks → length ks ≤ 24
    go [] e = omega arith
    go (k ∷ ks) e =
        let first : has (out_of net l) k ≡ true = ap (λ xs. has xs k) e ∙ here k ks in
        let p = of_one net ok.network l (has_numbers (length net.links) l known) k first in
        omega (arith, ap {B = ℕ} (λ xs. length xs) e, p.2, all_at (λ j. length (own net j) ≤ 24) net.junctions p.0 no_junction ok.range.own p.1)
      where
        here : (k : ℕ) (ks : List ℕ) → has (k ∷ ks) k ≡ true
        here k ks = ap (λ b. b || has ks k) (eq-eqb k k refl)
