-- The marks of a round, and those after some rounds.
use Rattle.std.proofs.Common.{◌≡◌, ◌==◌, ◌&&◌, ◌||◌, ℕ, ◌+◌, ◌-◌, ◌≤◌, ◌<◌, Bool, true, false, List, [], length, not, replicate, refl, ap, sym, ◌∙◌, inl, inr, add-one, arith, ◌≢◌, get_or-set_same, get_or-set_other}
use Rattle.std.specs.List.{find, list_any, range_with_len, slice_set}
use Rattle.std.proofs.lemmas.Bool.{cases_Bool}
use Rattle.std.proofs.lemmas.Bool.Decides.{nat_tests}
use Rattle.std.proofs.lemmas.List.{length-replicate, get_or-replicate}
use Rattle.std.proofs.Math.ListN.{length-set}
use Rattle.mp_model.specs.Network.{Network, from_of, to_of, link_numbers, movement_numbers, has}
use Rattle.mp_net.specs.WayRules.{goes_on, leads, has_way, has_way_out}
use Rattle.mp_net.specs.Marks.{is_marked, HasItsLinks, IsNextRound}
use Rattle.mp_net.proofs.Lists.{in_range, of_range, all_each, list_any-range_more}
use Rattle.mp_net.proofs.Ways.{Agree, leads_on-agree, find_agree}

-- the link that a movement leaves is there
pub from_is_there : (net : Network) (k : ℕ) → HasItsLinks net → 1 ≤ k → k < length net.movements + 1 → (1 ≤ from_of net k) × (from_of net k ≤ length net.links)
from_is_there net k there low high =
    let h = in_range 1 (length net.links) (from_of net k)
    (all_each (λ i. has (link_numbers net) (from_of net i) ≡ true) (movement_numbers net) k there.from (of_range 1 (length net.movements) k low (omega arith))) in
    (h.0, omega (arith, h.1))

-- links are marked where a movement below k leads on from them
pub record MarkedBelow (net : Network) (way : ℕ → Bool) (k : ℕ) (next : List Bool) : Type 0 where
  pub length_is : length next ≡ length net.links
  pub marked : (l : ℕ) → 1 ≤ l → l ≤ length net.links → is_marked next l ≡ list_any (leads net way l) (range_with_len 1 (k - 1))

pub marking-start : (net : Network) (way : ℕ → Bool) (n : ℕ) (next : List Bool) → next ≡ replicate n false → n ≡ length net.links → MarkedBelow net way 1 next
marking-start net way n next same count = record {
  length_is = rw same (length-replicate n false ∙ count);
  marked = λ l low high. rw same (get_or-replicate n (l - 1) false false (omega arith));
}

-- the question about the numbers below k + 1
asked_more : (net : Network) (way : ℕ → Bool) (l k : ℕ) → 1 ≤ k → list_any (leads net way l) (range_with_len 1 (k + 1 - 1)) ≡ (list_any (leads net way l) (range_with_len 1 (k - 1)) || leads net way l k)
asked_more net way l k low =
    let e : k + 1 - 1 ≡ k - 1 + 1 = omega arith in
    let at : 1 + (k - 1) ≡ k = omega arith in
    rw e (list_any-range_more (leads net way l) 1 (k - 1) ∙ ap (λ i. list_any (leads net way l) (range_with_len 1 (k - 1)) || leads net way l i) at)

or_false : (a b : Bool) → b ≡ false → (a || b) ≡ a
or_false true b e = refl
or_false false b e = e

or_true : (a b : Bool) → b ≡ true → (a || b) ≡ true
or_true true b e = refl
or_true false b e = e

and_false : (a b : Bool) → b ≡ false → (a && b) ≡ false
and_false true b e = e
and_false false b e = refl

pub marking-miss : (net : Network) (way : ℕ → Bool) (k : ℕ) (next : List Bool) → MarkedBelow net way k next → 1 ≤ k → goes_on way (to_of net k) ≡ false → MarkedBelow net way (k + 1) next
marking-miss net way k next h low other = record {
  length_is = h.length_is;
  marked = λ l a b. h.marked l a b ∙ sym (asked_more net way l k low ∙ or_false (list_any (leads net way l) (range_with_len 1 (k - 1))) (leads net way l k) (and_false (from_of net k == l) (goes_on way (to_of net k)) other));
}

pub marking-hit : (net : Network) (way : ℕ → Bool) (k : ℕ) (next after : List Bool) → MarkedBelow net way k next → 1 ≤ k → k < length net.movements + 1 → HasItsLinks net → goes_on way (to_of net k) ≡ true
    → after ≡ slice_set next (from_of net k - 1) true → MarkedBelow net way (k + 1) after
marking-hit net way k next after h low high there goes same =
    let (first, last) = from_is_there net k there low high in
    record {
      length_is = rw same (length-set next (from_of net k - 1) true ∙ h.length_is);
      marked = λ l a b. rw same (elim (cases_Bool (from_of net k == l)) [
        | inl here ↦
            let e : from_of net k ≡ l = grind (arith, nat_tests) in
            let within : l - 1 < length next = omega (arith, h.length_is) in
            let leads_l : leads net way l k ≡ true = rw (here, goes) in
            rw e (get_or-set_same next (l - 1) true false within) ∙ sym (asked_more net way l k low ∙ or_true (list_any (leads net way l) (range_with_len 1 (k - 1))) (leads net way l k) leads_l)
        | inr other ↦
            let apart : l - 1 ≢ from_of net k - 1 = grind (arith, nat_tests) in
            let stays_l : leads net way l k ≡ false = rw other in
            get_or-set_other next (from_of net k - 1) (l - 1) true false apart ∙ h.marked l a b ∙ sym (asked_more net way l k low ∙ or_false (list_any (leads net way l) (range_with_len 1 (k - 1))) (leads net way l k) stays_l)
      ]);
    }

pub marking-end : (net : Network) (marks : List Bool) (k : ℕ) (next : List Bool) → MarkedBelow net (is_marked marks) k next → k ≡ length net.movements + 1 → IsNextRound net marks next
marking-end net marks k next h all =
    let e : k - 1 ≡ length net.movements = omega arith in
    record { length_is = h.length_is; marked = λ l a b. rw e at (h.marked l a b) }

-- ---- rounds

-- the marks after n rounds
pub record MarksAfter (net : Network) (n : ℕ) (marks : List Bool) : Type 0 where
  pub agree : Agree (is_marked marks) (has_way net n) (link_numbers net)

pub marks-start : (net : Network) (marks : List Bool) → marks ≡ [] → MarksAfter net 0 marks
marks-start net marks none = record { agree = λ l h. rw none }

pub marks-more : (net : Network) (n : ℕ) (marks next : List Bool) → HasItsLinks net → MarksAfter net n marks → IsNextRound net marks next → MarksAfter net (n + 1) next
marks-more net n marks next there h round =
    record {
      agree = λ l i. let r = in_range 1 (length net.links) l i in rw add-one (round.marked l r.0 (omega (arith, r.1)) ∙ leads_on-agree net (is_marked marks) (has_way net n) l there h.agree);
    }

pub marks-end : (net : Network) (n m : ℕ) (marks : List Bool) → MarksAfter net n marks → n ≡ length net.links → m ≡ n
    → find (λ l. not (is_marked marks l)) (range_with_len 1 m) ≡ find (λ l. not (has_way_out net l)) (link_numbers net)
marks-end net n m marks h all same =
    rw (same, all) (find_agree (λ l. not (is_marked marks l)) (λ l. not (has_way_out net l)) (link_numbers net) (λ l i. ap not (rw all at (h.agree l i))))
