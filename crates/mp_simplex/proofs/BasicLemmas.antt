-- the basic solutions of a table
use Rattle.std.proofs.Common.{◌≡◌, ◌≢◌, ℕ, zero, suc, ◌+◌, ◌<◌, List, length, Option, Some, None, ℤ, pos, ◌+ℤ◌, ◌-ℤ◌, ◌*ℤ◌, ◌≤ℤ◌, Bool, true, false, refl, ap, ap₂, sym, ◌∙◌, subst, arith, inl, inr, nat_eq, cond, position}
use Rattle.std.proofs.lemmas.Int.{ints}
use Rattle.std.proofs.lemmas.Bool.{cases_eq}
use Rattle.std.proofs.lemmas.List.Quantifiers.{position-Some}
use Rattle.mp_num.specs.Sums.{total}
use Rattle.mp_num.specs.Row.{entry, applied}
use Rattle.mp_num.proofs.Ring.{diff_of, differences, diff-eq, pos_diff}
use Rattle.mp_num.proofs.RowLemmas.{positive_product}
use Rattle.mp_num.proofs.SumLemmas.{total-same, total-one, total-plus}
use Rattle.mp_simplex.specs.Tableau.{row_of, basic_of}
use Rattle.mp_simplex.proofs.TurnLemmas.{position_none}
use Rattle.mp_simplex.proofs.TableauFacts.{IsTableau}

eq_true : (a b : ℕ) → a ≡ b → nat_eq a b ≡ true
eq_true a b e = grind (arith, e)

eq_false : (a b : ℕ) → a ≢ b → nat_eq a b ≡ false
eq_false a b e = grind (arith, e)

from_eq : (a b : ℕ) → nat_eq a b ≡ true → a ≡ b
from_eq a b e = grind (arith, e)

-- two values that are not 0
pub total-two : (n i j : ℕ) (f : ℕ → ℤ) → i < n → j < n → i ≢ j → ((k : ℕ) → k < n → k ≢ i → k ≢ j → f k ≡ pos 0) → total n f ≡ f i +ℤ f j
total-two n i j f hi hj apart h =
    let g : ℕ → ℤ = λ k. cond {A = ℤ} (nat_eq k i) (f k) (pos 0) in
    let r : ℕ → ℤ = λ k. cond {A = ℤ} (nat_eq k i) (pos 0) (f k) in
    let split : total n f ≡ total n g +ℤ total n r = total-same n f (λ k. g k +ℤ r k) (λ k l. parts (nat_eq k i) (f k)) ∙ total-plus n g r in
    let one : total n g ≡ f i = total-one n i g hi (λ k l e. rw (eq_false k i e) refl) ∙ rw (eq_true i i refl) refl in
    let two : total n r ≡ f j = total-one n j r hj (λ k l e. rest k l e) ∙ rw (eq_false j i (λ e. apart (sym e))) refl in
    split ∙ ap₂ (λ s t. s +ℤ t) one two
  where
    parts : (b : Bool) (x : ℤ) → x ≡ cond {A = ℤ} b x (pos 0) +ℤ cond {A = ℤ} b (pos 0) x
    parts true x = omega (arith, ints)
    parts false x = omega (arith, ints)

    rest : (k : ℕ) → k < n → k ≢ j → cond {A = ℤ} (nat_eq k i) (pos 0) (f k) ≡ pos 0
    rest k l e = elim (cases_eq k i) [ inl same ↦ rw (eq_true k i same) refl | inr other ↦ rw (eq_false k i other) (h k l other e) ]

-- ---- a common multiple of positive numbers
pub record IsScale (height : ℕ) (e : ℕ → ℤ) (whole : ℤ) (part : ℕ → ℤ) : Type 0 where
  pub positive : pos 1 ≤ℤ whole
  pub parts : (r : ℕ) → r < height → whole ≡ e r *ℤ part r
  pub part_positive : (r : ℕ) → r < height → pos 1 ≤ℤ part r

commutes : (a b : ℤ) → a *ℤ b ≡ b *ℤ a
commutes a b = rw (diff_of a, diff_of b) (simp differences (diff-eq _ _ _ _ (omega arith)))

associates : (a b c : ℤ) → (a *ℤ b) *ℤ c ≡ a *ℤ (b *ℤ c)
associates a b c = rw (diff_of a, diff_of b, diff_of c) (simp differences (diff-eq _ _ _ _ (omega arith)))

abbrev grown_part : ℕ → ℤ → ℤ → (ℕ → ℤ) → ℕ → ℤ
grown_part h next whole part r = cond {A = ℤ} (nat_eq r h) whole (part r *ℤ next)

pub scale_of : (height : ℕ) (e : ℕ → ℤ) → ((r : ℕ) → r < height → pos 1 ≤ℤ e r) → (whole : ℤ) × (part : ℕ → ℤ) × IsScale height e whole part
scale_of zero e h = (pos 1, λ r. pos 1, record { positive = omega (arith, ints); parts = λ r l. absurd (omega arith); part_positive = λ r l. absurd (omega arith) })
scale_of (suc n) e h =
    let s = scale_of n e (λ r l. h r (omega arith)) in
    let top : pos 1 ≤ℤ e n = h n (omega arith) in (
      s.0 *ℤ e n,
      grown_part n (e n) s.0 s.1,
      record {
        positive = positive_product s.0 (e n) s.2.positive top;
        parts = λ r l. (elim (cases_eq r n) [
          | inl same ↦ rw (eq_true r n same, same) (commutes s.0 (e n))
          | inr other ↦ rw (eq_false r n other) (ap (λ t. t *ℤ e n) (s.2.parts r (omega arith)) ∙ associates (e r) (s.1 r) (e n))
        ]);
        part_positive = λ r l. (elim (cases_eq r n) [
          | inl same ↦ rw (eq_true r n same) s.2.positive
          | inr other ↦ rw (eq_false r n other) (positive_product (s.1 r) (e n) (s.2.part_positive r (omega arith)) top)
        ]);
      },
    )

-- ---- the row of a basic variable
pub found_row : (height right : ℕ) (initial rows : List (List ℤ)) (basis : List ℕ) → IsTableau height right initial rows basis → (r : ℕ) → r < height → position (λ b. nat_eq b (basic_of basis r)) basis ≡ Some r
found_row height right initial rows basis t r l = at (position (λ b. nat_eq b (basic_of basis r)) basis) refl
  where
    at : (o : Option ℕ) → position (λ b. nat_eq b (basic_of basis r)) basis ≡ o → o ≡ Some r
    at None e = absurd (refuted (nat_eq (basic_of basis r) (basic_of basis r)) (eq_true _ _ refl) (position_none (λ b. nat_eq b (basic_of basis r)) basis r 0 e (omega (arith, t.basis_length))))
      where
        refuted : (b : Bool) → b ≡ true → b ≡ false → ⊥
        refuted b p q = cc
    at (Some s) e = let f = position-Some (λ b. nat_eq b (basic_of basis r)) basis s 0 e in
        let same : basic_of basis s ≡ basic_of basis r = from_eq _ _ f.1 in
        let inside : s < height = omega (arith, t.basis_length, f.0) in
        elim (cases_eq r s) [
          | inl here ↦ ap Some (sym here)
          | inr apart ↦ absurd (both (entry (row_of rows s) (basic_of basis r)) (t.clear r s l inside apart) (subst (λ (k : ℕ). pos 1 ≤ℤ entry (row_of rows s) k) same (t.positive s inside)))
        ]
      where
        both : (x : ℤ) → x ≡ pos 0 → pos 1 ≤ℤ x → ⊥
        both x e h = omega (arith, ints)

pub found_basic : (basis : List ℕ) (k r : ℕ) → position (λ b. nat_eq b k) basis ≡ Some r → (r < length basis) × (basic_of basis r ≡ k)
found_basic basis k r e = let f = position-Some (λ b. nat_eq b k) basis r 0 e in (f.0, from_eq _ _ f.1)

-- ---- the solution that belongs to place t
abbrev pub solution_at : ℕ → List (List ℤ) → ℤ → (ℕ → ℤ) → ℕ → Option ℕ → ℤ
solution_at t rows whole part k None = cond {A = ℤ} (nat_eq k t) (pos 0 -ℤ whole) (pos 0)
solution_at t rows whole part k (Some r) = entry (row_of rows r) t *ℤ part r

abbrev pub solution : ℕ → List (List ℤ) → List ℕ → ℤ → (ℕ → ℤ) → ℕ → ℤ
solution t rows basis whole part k = solution_at t rows whole part k (position (λ b. nat_eq b k) basis)

balance_law : (e x p : ℤ) → e *ℤ (x *ℤ p) +ℤ x *ℤ (pos 0 -ℤ e *ℤ p) ≡ pos 0
balance_law e x p = rw (pos_diff 0, diff_of e, diff_of x, diff_of p) (simp differences (diff-eq _ _ _ _ (omega arith)))

-- a place that is not basic
pub record IsFree (height : ℕ) (basis : List ℕ) (t : ℕ) : Type 0 where
  pub apart : (r : ℕ) → r < height → basic_of basis r ≢ t

pub free_position : (height : ℕ) (basis : List ℕ) (t : ℕ) → length basis ≡ height → IsFree height basis t → position (λ b. nat_eq b t) basis ≡ None
free_position height basis t n f = at (position (λ b. nat_eq b t) basis) refl
  where
    at : (o : Option ℕ) → position (λ b. nat_eq b t) basis ≡ o → o ≡ None
    at None e = refl
    at (Some r) e = let g = found_basic basis t r e in absurd (f.apart r (omega (arith, n, g.0)) g.1)

pub record IsBasicSolution (height right t : ℕ) (initial rows : List (List ℤ)) (basis : List ℕ) (whole : ℤ) (part : ℕ → ℤ) : Type 0 where
  pub scale : IsScale height (λ r. entry (row_of rows r) (basic_of basis r)) whole part
  pub here : solution t rows basis whole part t ≡ pos 0 -ℤ whole
  pub first : solution t rows basis whole part 0 ≡ entry (row_of rows 0) t *ℤ part 0
  pub solves : (r : ℕ) → r < height → applied (right + 1) (row_of initial r) (solution t rows basis whole part) ≡ pos 0

zero_times : (y : ℤ) → pos 0 *ℤ y ≡ pos 0
zero_times y = omega (arith, ints)

times_zero : (y : ℤ) → y *ℤ pos 0 ≡ pos 0
times_zero y = omega (arith, ints)

solved_row : (height right t : ℕ) (initial rows : List (List ℤ)) (basis : List ℕ) (whole : ℤ) (part : ℕ → ℤ) → IsTableau height right initial rows basis → IsFree height basis t → t < right + 1 → 0 < right →
    IsScale height (λ r. entry (row_of rows r) (basic_of basis r)) whole part → (r : ℕ) → r < height → applied (right + 1) (row_of rows r) (solution t rows basis whole part) ≡ pos 0
solved_row height right t initial rows basis whole part b f low some s r l =
    let y : ℕ → ℤ = solution t rows basis whole part in
    let k : ℕ = basic_of basis r in
    let inside : k < right + 1 = elim (cases_eq r 0) [ inl same ↦ omega (arith, ap (basic_of basis) same, b.first) | inr other ↦ omega (arith, b.inside r (omega arith) l) ] in
    let at_basic : y k ≡ entry (row_of rows r) t *ℤ part r = rw (found_row height right initial rows basis b r l) refl in
    let at_free : y t ≡ pos 0 -ℤ whole = rw (free_position height basis t b.basis_length f, eq_true t t refl) refl in
    let sum : applied (right + 1) (row_of rows r) y ≡ entry (row_of rows r) k *ℤ y k +ℤ entry (row_of rows r) t *ℤ y t = total-two (right + 1) k t (λ k. entry (row_of rows r) k *ℤ y k) inside low (f.apart r l) (λ q h p1 p2. others q p1 p2 (position (λ b. nat_eq b q) basis) refl) in
    sum ∙ ap₂ (λ u v. entry (row_of rows r) k *ℤ u +ℤ entry (row_of rows r) t *ℤ v) at_basic (at_free ∙ ap (λ w. pos 0 -ℤ w) (s.parts r l)) ∙ balance_law (entry (row_of rows r) k) (entry (row_of rows r) t) (part r)
  where
    others : (q : ℕ) → q ≢ basic_of basis r → q ≢ t → (o : Option ℕ) → position (λ b. nat_eq b q) basis ≡ o → entry (row_of rows r) q *ℤ solution t rows basis whole part q ≡ pos 0
    others q p1 p2 None e = rw (e, eq_false q t p2) (times_zero (entry (row_of rows r) q))
    others q p1 p2 (Some i) e = let g = found_basic basis q i e in
        let apart : i ≢ r = λ same. p1 (sym (ap (basic_of basis) (sym same) ∙ g.1)) in
        let none : entry (row_of rows r) q ≡ pos 0 = ap (entry (row_of rows r)) (sym g.1) ∙ b.clear i r (omega (arith, b.basis_length, g.0)) l apart in
        ap (λ x. x *ℤ solution t rows basis whole part q) none ∙ zero_times (solution t rows basis whole part q)

pub basic_solution : (height right t : ℕ) (initial rows : List (List ℤ)) (basis : List ℕ) → IsTableau height right initial rows basis → IsFree height basis t → t < right + 1 → 0 < right → 0 < height →
    (whole : ℤ) × (part : ℕ → ℤ) × IsBasicSolution height right t initial rows basis whole part
basic_solution height right t initial rows basis b f low some high =
    let s = scale_of height (λ r. entry (row_of rows r) (basic_of basis r)) b.positive in
    let zero_found : position (λ b. nat_eq b 0) basis ≡ Some 0 = subst (λ (k : ℕ). position (λ b. nat_eq b k) basis ≡ Some 0) b.first (found_row height right initial rows basis b 0 high) in (
      s.0,
      s.1,
      record {
        scale = s.2;
        here = rw (free_position height basis t b.basis_length f, eq_true t t refl) refl;
        first = rw zero_found refl;
        solves = b.back (solution t rows basis s.0 s.1) (solved_row height right t initial rows basis s.0 s.1 b f low some s.2);
      },
    )
