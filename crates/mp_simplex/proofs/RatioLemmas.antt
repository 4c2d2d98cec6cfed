-- what the ratio test and the choice of a variable say
use Rattle.std.proofs.Common.{◌≡◌, ℕ, ◌+◌, ◌<◌, ◌≤◌, List, Option, Some, None, ℤ, pos, ◌*ℤ◌, ◌≤ℤ◌, Bool, true, false, ◌||◌, ◌&&◌, refl, sym, ◌∙◌, subst, arith, inl, inr, int_lt, int_eq, nat_lt}
use Rattle.std.proofs.lemmas.Int.{ints}
use Rattle.std.proofs.lemmas.Bool.{cases_eq}
use Rattle.std.proofs.lemmas.Option.{option_and_then_some, same_Some}
use Rattle.mp_num.specs.Checked.{within}
use Rattle.mp_num.specs.Row.{entry}
use Rattle.mp_num.proofs.CheckedLemmas.{within_some}
use Rattle.mp_num.proofs.OutcomeLemmas.{option_map_some, bool_cases, run_keeps}
use Rattle.mp_num.proofs.OrderLemmas.{cases_le, times_le, cancel_le}
use Rattle.mp_num.proofs.Ring.{diff_of, differences, diff-eq}
use Rattle.mp_simplex.specs.Pivoting.{better, better_by, kept, against, looked, leaving}
use Rattle.mp_simplex.specs.Tableau.{row_of, basic_of}
use Rattle.mp_simplex.proofs.TableauFacts.{IsLeast}

-- ---- which of two rows is better
pub record Compared (j right : ℕ) (rows : List (List ℤ)) (i b : ℕ) (flag : Bool) : Type 0 where
  pub first : flag ≡ true → (entry (row_of rows i) right *ℤ entry (row_of rows b) j) ≤ℤ (entry (row_of rows b) right *ℤ entry (row_of rows i) j)
  pub second : flag ≡ false → (entry (row_of rows b) right *ℤ entry (row_of rows i) j) ≤ℤ (entry (row_of rows i) right *ℤ entry (row_of rows b) j)

by_true : (lower : Bool) (u v : ℤ) → better_by lower u v ≡ true → u ≤ℤ v
by_true lower u v e = elim (cases_le u v) [
  | inl fine ↦ fine
  | inr above ↦ (let less : int_lt u v ≡ false = grind (arith, ints) in let same : int_eq u v ≡ false = grind (arith, ints) in absurd (refuted lower (int_lt u v) (int_eq u v) less same e))
]
  where
    refuted : (lower a b : Bool) → a ≡ false → b ≡ false → (a || (b && lower)) ≡ true → ⊥
    refuted lower a b p q e = elim a as (λ a. a ≡ false → (a || (b && lower)) ≡ true → ⊥) [ true ↦ λ p e. cc | false ↦ λ p e. (elim b as (λ b. b ≡ false → (b && lower) ≡ true → ⊥) [ true ↦ λ q e. cc | false ↦ λ q e. cc ] q e) ] p e

by_false : (lower : Bool) (u v : ℤ) → better_by lower u v ≡ false → v ≤ℤ u
by_false lower u v e = elim (cases_le v u) [
  | inl fine ↦ fine
  | inr above ↦ (let less : int_lt u v ≡ true = grind (arith, ints) in absurd (refuted (int_lt u v) (int_eq u v && lower) less e))
]
  where
    refuted : (a b : Bool) → a ≡ true → (a || b) ≡ false → ⊥
    refuted a b p e = elim a as (λ a. a ≡ true → (a || b) ≡ false → ⊥) [ true ↦ λ p e. cc | false ↦ λ p e. cc ] p e

pub better_some : (j right : ℕ) (rows : List (List ℤ)) (basis : List ℕ) (i b : ℕ) (flag : Bool) → better j right rows basis i b ≡ Some flag → Compared j right rows i b flag
unfolding better
better_some j right rows basis i b flag e =
    option_and_then_some _ (within (entry (row_of rows i) right *ℤ entry (row_of rows b) j)) flag e (λ u hu e'.
    option_map_some _ (within (entry (row_of rows b) right *ℤ entry (row_of rows i) j)) flag e' (λ v hv e''.
    (let eu : u ≡ entry (row_of rows i) right *ℤ entry (row_of rows b) j = within_some _ u hu in
    let ev : v ≡ entry (row_of rows b) right *ℤ entry (row_of rows i) j = within_some _ v hv in
    record {
      first = λ f. subst (λ (t : ℤ). t ≤ℤ (entry (row_of rows b) right *ℤ entry (row_of rows i) j)) eu (subst (λ (t : ℤ). u ≤ℤ t) ev (by_true (nat_lt (basic_of basis i) (basic_of basis b)) u v (sym e'' ∙ f)));
      second = λ f. subst (λ (t : ℤ). t ≤ℤ (entry (row_of rows i) right *ℤ entry (row_of rows b) j)) ev (subst (λ (t : ℤ). v ≤ℤ t) eu (by_false (nat_lt (basic_of basis i) (basic_of basis b)) u v (sym e'' ∙ f)));
    })))

-- ---- the rows looked at so far
abbrev pub LeastBelow : ℕ → ℕ → List (List ℤ) → ℕ → Option ℕ → Type 0
LeastBelow j right rows height None = (r : ℕ) → 1 ≤ r → r < height → entry (row_of rows r) j ≤ℤ pos 0
LeastBelow j right rows height (Some i) = IsLeast height right j rows i

order_law : (a b c : ℤ) → a *ℤ (b *ℤ c) ≡ c *ℤ (b *ℤ a)
order_law a b c = rw (diff_of a, diff_of b, diff_of c) (simp differences (diff-eq _ _ _ _ (omega arith)))

-- of three rows with positive entries xb, xi, xr and right sides cb, ci, cr
ratio_trans : (cb xb ci xi cr xr : ℤ) → pos 1 ≤ℤ xb → pos 1 ≤ℤ xi → pos 1 ≤ℤ xr → (ci *ℤ xb) ≤ℤ (cb *ℤ xi) → (cb *ℤ xr) ≤ℤ (cr *ℤ xb) → (ci *ℤ xr) ≤ℤ (cr *ℤ xi)
ratio_trans cb xb ci xi cr xr hb hi hr h k =
    let one : (xr *ℤ (ci *ℤ xb)) ≤ℤ (xr *ℤ (cb *ℤ xi)) = times_le xr (ci *ℤ xb) (cb *ℤ xi) (omega (arith, ints)) h in
    let two : (xi *ℤ (cb *ℤ xr)) ≤ℤ (xi *ℤ (cr *ℤ xb)) = times_le xi (cb *ℤ xr) (cr *ℤ xb) (omega (arith, ints)) k in
    cancel_le xb (ci *ℤ xr) (cr *ℤ xi) hb (joined (xr *ℤ (ci *ℤ xb)) (xr *ℤ (cb *ℤ xi)) (xi *ℤ (cb *ℤ xr)) (xi *ℤ (cr *ℤ xb)) (xb *ℤ (ci *ℤ xr)) (xb *ℤ (cr *ℤ xi)) one two (order_law xr cb xi) (order_law xr ci xb) (order_law xi cr xb))
  where
    joined : (s t u v a b : ℤ) → s ≤ℤ t → u ≤ℤ v → t ≡ u → s ≡ a → v ≡ b → a ≤ℤ b
    joined s t u v a b h k e f g = omega (arith, ints)

refl_le : (x : ℤ) → x ≤ℤ x
refl_le x = omega (arith, ints)

positive_from : (x : ℤ) → int_lt (pos 0) x ≡ true → pos 1 ≤ℤ x
positive_from x e = omega (arith, ints, e)

low_from : (x : ℤ) → int_lt (pos 0) x ≡ false → x ≤ℤ pos 0
low_from x e = omega (arith, ints, e)

not_both : (x : ℤ) → x ≤ℤ pos 0 → pos 1 ≤ℤ x → ⊥
not_both x h l = omega (arith, ints)

-- row i has no positive entry
low_more : (j right : ℕ) (rows : List (List ℤ)) (i : ℕ) (best : Option ℕ) → LeastBelow j right rows i best → entry (row_of rows i) j ≤ℤ pos 0 → LeastBelow j right rows (i + 1) best
low_more j right rows i None s l = λ r one h. (elim (cases_eq r i) [ inl same ↦ rw same l | inr other ↦ s r one (omega arith) ])
low_more j right rows i (Some b) s l = record {
  above = s.above;
  inside = omega (arith, s.inside);
  positive = s.positive;
  least = λ r one h up. (elim (cases_eq r i) [
    | inl same ↦ absurd (not_both (entry (row_of rows i) j) l (subst (λ (m : ℕ). pos 1 ≤ℤ entry (row_of rows m) j) same up))
    | inr other ↦ s.least r one (omega arith) up
  ]);
}

first_found : (j right : ℕ) (rows : List (List ℤ)) (i : ℕ) → 1 ≤ i → LeastBelow j right rows i None → pos 1 ≤ℤ entry (row_of rows i) j → IsLeast (i + 1) right j rows i
first_found j right rows i one s p = record {
  above = one;
  inside = omega arith;
  positive = p;
  least = λ r lr h up. (elim (cases_eq r i) [ inl same ↦ rw same (refl_le (entry (row_of rows i) right *ℤ entry (row_of rows i) j)) | inr other ↦ absurd (not_both (entry (row_of rows r) j) (s r lr (omega arith)) up) ]);
}

better_found : (j right : ℕ) (rows : List (List ℤ)) (i b : ℕ) → 1 ≤ i → IsLeast i right j rows b → pos 1 ≤ℤ entry (row_of rows i) j →
    (entry (row_of rows i) right *ℤ entry (row_of rows b) j) ≤ℤ (entry (row_of rows b) right *ℤ entry (row_of rows i) j) → IsLeast (i + 1) right j rows i
better_found j right rows i b one s p h = record {
  above = one;
  inside = omega arith;
  positive = p;
  least = λ r lr l up. (elim (cases_eq r i) [
    | inl same ↦ rw same (refl_le (entry (row_of rows i) right *ℤ entry (row_of rows i) j))
    | inr other ↦ ratio_trans (entry (row_of rows b) right) (entry (row_of rows b) j) (entry (row_of rows i) right) (entry (row_of rows i) j) (entry (row_of rows r) right) (entry (row_of rows r) j) s.positive p up h (s.least r lr (omega arith) up)
  ]);
}

better_stays : (j right : ℕ) (rows : List (List ℤ)) (i b : ℕ) → IsLeast i right j rows b →
    (entry (row_of rows b) right *ℤ entry (row_of rows i) j) ≤ℤ (entry (row_of rows i) right *ℤ entry (row_of rows b) j) → IsLeast (i + 1) right j rows b
better_stays j right rows i b s h = record {
  above = s.above;
  inside = omega (arith, s.inside);
  positive = s.positive;
  least = λ r lr l up. (elim (cases_eq r i) [ inl same ↦ rw same h | inr other ↦ s.least r lr (omega arith) up ]);
}

compared_more : (j right : ℕ) (rows : List (List ℤ)) (i b : ℕ) (flag : Bool) → 1 ≤ i → IsLeast i right j rows b → pos 1 ≤ℤ entry (row_of rows i) j → Compared j right rows i b flag → LeastBelow j right rows (i + 1) (kept i b flag)
compared_more j right rows i b true one s p c = better_found j right rows i b one s p (c.first refl)
compared_more j right rows i b false one s p c = better_stays j right rows i b s (c.second refl)

against_more : (j right : ℕ) (rows : List (List ℤ)) (basis : List ℕ) (i : ℕ) (best next : Option ℕ) → 1 ≤ i → LeastBelow j right rows i best → pos 1 ≤ℤ entry (row_of rows i) j →
    against j right rows basis i best ≡ Some next → LeastBelow j right rows (i + 1) next
against_more j right rows basis i None next one s p e = subst (LeastBelow j right rows (i + 1)) (same_Some _ _ e) (first_found j right rows i one s p)
against_more j right rows basis i (Some b) next one s p e =
    option_map_some (kept i b) (better j right rows basis i b) next e (λ flag h q.
    subst (LeastBelow j right rows (i + 1)) (sym q) (compared_more j right rows i b flag one s p (better_some j right rows basis i b flag h)))

looked_more : (j right : ℕ) (rows : List (List ℤ)) (basis : List ℕ) (i : ℕ) (best next : Option ℕ) → 1 ≤ i → LeastBelow j right rows i best → looked j right rows basis best i ≡ Some next → LeastBelow j right rows (i + 1) next
unfolding looked
looked_more j right rows basis i best next one s e = elim (bool_cases (int_lt (pos 0) (entry (row_of rows i) j))) [
  | inl up ↦ against_more j right rows basis i best next one s (positive_from _ up) (rw up at e)
  | inr down ↦ subst (LeastBelow j right rows (i + 1)) (same_Some _ _ (rw down at e)) (low_more j right rows i best s (low_from _ down))
]

-- the row that leaves, or that no row has a positive entry
pub leaving_some : (j right count : ℕ) (rows : List (List ℤ)) (basis : List ℕ) (best : Option ℕ) → leaving j right count rows basis ≡ Some best → LeastBelow j right rows (1 + count) best
unfolding leaving
leaving_some j right count rows basis best e =
    run_keeps (looked j right rows basis) (LeastBelow j right rows) count 1 None best (λ r one h. absurd (omega arith)) (λ k u v l m s h. looked_more j right rows basis k u v l s h) e
