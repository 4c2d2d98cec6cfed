-- what the end without a bound gives
use Rattle.std.proofs.Common.{◌≡◌, ℕ, ◌+◌, ◌*◌, ◌<◌, ◌≤◌, List, length, Option, Some, None, ℤ, pos, ◌+ℤ◌, ◌-ℤ◌, ◌*ℤ◌, ◌≤ℤ◌, ◌<ℤ◌, true, false, refl, ap, ap₂, sym, ◌∙◌, subst, arith, inl, inr, nat_eq, cond, position}
use Rattle.std.proofs.lemmas.Int.{ints}
use Rattle.std.proofs.lemmas.Bool.{cases_eq}
use Rattle.mp_num.specs.Sums.{total}
use Rattle.mp_num.specs.Row.{entry}
use Rattle.mp_num.proofs.Ring.{diff_of, differences, diff-eq, pos_diff}
use Rattle.mp_num.proofs.RowLemmas.{positive_product}
use Rattle.mp_num.proofs.OrderLemmas.{cases_le, product_not_negative, times_le, cancel_le, not_negative_factor}
use Rattle.mp_num.proofs.SumLemmas.{total-same}
use Rattle.mp_simplex.specs.Tableau.{row_of, basic_of}
use Rattle.mp_simplex.specs.Optimal.{row_sum, product, IsRay}
use Rattle.mp_simplex.proofs.BasicLemmas.{IsScale, IsFree, basic_solution, solution, solution_at, found_basic, free_position}
use Rattle.mp_simplex.proofs.PartLemmas.{times_zero, initial_row, initial_costs, total-minus}
use Rattle.mp_simplex.proofs.OptimumLemmas.{sum_scaled, right_free}
use Rattle.mp_simplex.proofs.TableauFacts.{IsTableau, IsEndless, IsInitial}

abbrev pub Change : ℕ → ℤ → List (List ℤ) → ℕ → ℤ → Option ℕ → Type 0
Change j q rows k v None = v ≡ cond {A = ℤ} (nat_eq k j) q (pos 0)
Change j q rows k v (Some r) = (u : ℤ) × (v ≡ pos 0 -ℤ entry (row_of rows r) j *ℤ u) × (q ≡ entry (row_of rows r) k *ℤ u)

pub record IsChange (n j : ℕ) (q : ℤ) (rows : List (List ℤ)) (basis : List ℕ) (x : List ℤ) : Type 0 where
  pub size : length x ≡ n
  pub positive : pos 1 ≤ℤ q
  pub at : (k : ℕ) → k < n → Change j q rows (1 + k) (entry x k) (position (λ b. nat_eq b (1 + k)) basis)

turned_share : (e p s u : ℤ) → (e *ℤ p) *ℤ (pos 0 -ℤ s *ℤ u) ≡ (e *ℤ u) *ℤ (pos 0 -ℤ s *ℤ p)
turned_share e p s u = rw (pos_diff 0, diff_of e, diff_of p, diff_of s, diff_of u) (simp differences (diff-eq _ _ _ _ (omega arith)))

twice : (q w : ℤ) → w *ℤ q ≡ q *ℤ (pos 0 -ℤ (pos 0 -ℤ w))
twice q w = rw (pos_diff 0, diff_of q, diff_of w) (simp differences (diff-eq _ _ _ _ (omega arith)))

nothing : (w q : ℤ) → w *ℤ pos 0 ≡ q *ℤ (pos 0 -ℤ pos 0)
nothing w q = omega (arith, ints)

change_scaled : (height j : ℕ) (rows : List (List ℤ)) (basis : List ℕ) (whole q : ℤ) (part : ℕ → ℤ) (v : ℤ) (k : ℕ) → IsScale height (λ r. entry (row_of rows r) (basic_of basis r)) whole part → length basis ≡ height →
    (o : Option ℕ) → position (λ b. nat_eq b k) basis ≡ o → Change j q rows k v o → whole *ℤ v ≡ q *ℤ (pos 0 -ℤ solution_at j rows whole part k o)
change_scaled height j rows basis whole q part v k s l None e h = elim (cases_eq k j) [
  | inl same ↦ (let t : nat_eq k j ≡ true = grind (arith, same) in ap (λ x. whole *ℤ x) (h ∙ rw t refl) ∙ twice q whole ∙ rw t refl)
  | inr other ↦ (let t : nat_eq k j ≡ false = grind (arith, other) in ap (λ x. whole *ℤ x) (h ∙ rw t refl) ∙ nothing whole q ∙ rw t refl)
]
change_scaled height j rows basis whole q part v k s l (Some r) e h =
    let f = found_basic basis k r e in
    let at : whole ≡ entry (row_of rows r) k *ℤ part r = s.parts r (omega (arith, l, f.0)) ∙ ap (λ m. entry (row_of rows r) m *ℤ part r) f.1 in
    ap₂ (λ a b. a *ℤ b) at h.1 ∙ turned_share (entry (row_of rows r) k) (part r) (entry (row_of rows r) j) h.0 ∙ ap (λ a. a *ℤ (pos 0 -ℤ entry (row_of rows r) j *ℤ part r)) (sym h.2)

-- the change of a variable is not negative
not_below : (height right j : ℕ) (initial rows : List (List ℤ)) (basis : List ℕ) (whole : ℤ) (part : ℕ → ℤ) (k : ℕ) → IsTableau height right initial rows basis → IsEndless height right j rows → IsScale height (λ r. entry (row_of rows r) (basic_of basis r)) whole part →
    1 ≤ k → (o : Option ℕ) → position (λ b. nat_eq b k) basis ≡ o → pos 0 ≤ℤ (pos 0 -ℤ solution_at j rows whole part k o)
not_below height right j initial rows basis whole part k t d s one None e = elim (cases_eq k j) [
  | inl same ↦ (let q : nat_eq k j ≡ true = grind (arith, same) in rw q (omega (arith, ints, s.positive)))
  | inr other ↦ (let q : nat_eq k j ≡ false = grind (arith, other) in rw q (omega (arith, ints)))
]
not_below height right j initial rows basis whole part k t d s one (Some r) e =
    let f = found_basic basis k r e in
    let inside : r < height = omega (arith, t.basis_length, f.0) in
    elim (cases_eq r 0) [
      | inl same ↦ absurd (refuted (basic_of basis r) k (ap (basic_of basis) same ∙ t.first) f.1 one)
      | inr later ↦ turned (entry (row_of rows r) j) (part r) (d.free r (omega arith) inside) (s.part_positive r inside)
    ]
  where
    refuted : (b k : ℕ) → b ≡ 0 → b ≡ k → 1 ≤ k → ⊥
    refuted b k e f h = omega arith

    law : (x p : ℤ) → (pos 0 -ℤ x) *ℤ p ≡ pos 0 -ℤ x *ℤ p
    law x p = rw (pos_diff 0, diff_of x, diff_of p) (simp differences (diff-eq _ _ _ _ (omega arith)))

    turned : (x p : ℤ) → x ≤ℤ pos 0 → pos 1 ≤ℤ p → pos 0 ≤ℤ (pos 0 -ℤ x *ℤ p)
    turned x p h l = subst (λ (u : ℤ). pos 0 ≤ℤ u) (law x p) (product_not_negative (pos 0 -ℤ x) p (omega (arith, ints)) (omega (arith, ints)))

pub endless_free : (height right j : ℕ) (initial rows : List (List ℤ)) (basis : List ℕ) → 0 < height → IsTableau height right initial rows basis → IsEndless height right j rows → IsFree height basis j
endless_free height right j initial rows basis some t d = record {
  apart = λ r l e. (elim (cases_eq r 0) [
    | inl same ↦ refuted (basic_of basis r) j (ap (basic_of basis) same ∙ t.first) e d.above
    | inr later ↦ both (entry (row_of rows 0) j) (subst (λ (k : ℕ). entry (row_of rows 0) k ≡ pos 0) e (t.clear r 0 l some later)) d.gains
  ]);
}
  where
    refuted : (b k : ℕ) → b ≡ 0 → b ≡ k → 1 ≤ k → ⊥
    refuted b k e f h = omega arith

    both : (x : ℤ) → x ≡ pos 0 → x <ℤ pos 0 → ⊥
    both x e h = omega (arith, ints)

positive_part : (w p : ℤ) → pos 1 ≤ℤ w → pos 1 ≤ℤ (w *ℤ p) → pos 0 <ℤ p
positive_part w p h l = elim (cases_le p (pos 0)) [
  | inl low ↦ absurd (refuted (w *ℤ p) (w *ℤ pos 0) (times_le w p (pos 0) (omega (arith, ints)) low) (times_zero w) l)
  | inr high ↦ high
]
  where
    refuted : (s t : ℤ) → s ≤ℤ t → t ≡ pos 0 → pos 1 ≤ℤ s → ⊥
    refuted s t h e l = omega (arith, ints)

turned_terms : (n : ℕ) (f z : ℕ → ℤ) → total n (λ k. f k *ℤ (pos 0 -ℤ z k)) ≡ pos 0 -ℤ total n (λ k. f k *ℤ z k)
turned_terms n f z = total-same n (λ k. f k *ℤ (pos 0 -ℤ z k)) (λ k. pos 0 -ℤ f k *ℤ z k) (λ k h. law (f k) (z k)) ∙ total-minus n (λ k. f k *ℤ z k)
  where
    law : (w a : ℤ) → w *ℤ (pos 0 -ℤ a) ≡ pos 0 -ℤ w *ℤ a
    law w a = rw (pos_diff 0, diff_of w, diff_of a) (simp differences (diff-eq _ _ _ _ (omega arith)))

pub endless_ray : (m n j : ℕ) (a b c : List ℤ) (initial rows : List (List ℤ)) (basis : List ℕ) (q : ℤ) (x : List ℤ) → IsInitial m n a b c initial → IsTableau (1 + m) (1 + n + m) initial rows basis → IsEndless (1 + m) (1 + n + m) j rows →
    IsChange n j q rows basis x → IsRay m n a c x
endless_ray m n j a b c initial rows basis q x i t d s =
    let right : ℕ = 1 + n + m in
    let free : IsFree (1 + m) basis j = endless_free (1 + m) right j initial rows basis (omega arith) t d in
    let y = basic_solution (1 + m) right j initial rows basis t free (omega (arith, d.inside)) (omega arith) (omega arith) in
    let whole : ℤ = y.0 in
    let part : ℕ → ℤ = y.1 in
    let z : ℕ → ℤ = solution j rows basis whole part in
    let scale : IsScale (1 + m) (λ r. entry (row_of rows r) (basic_of basis r)) whole part = y.2.scale in
    let same : (k : ℕ) → k < n → whole *ℤ entry x k ≡ q *ℤ (pos 0 -ℤ z (1 + k)) = λ k h.
    change_scaled (1 + m) j rows basis whole q part (entry x k) (1 + k) scale t.basis_length (position (λ b. nat_eq b (1 + k)) basis) refl (s.at k h) in
    let low : (k : ℕ) → 1 ≤ k → pos 0 ≤ℤ (pos 0 -ℤ z k) = λ k one. not_below (1 + m) right j initial rows basis whole part k t d scale one (position (λ b. nat_eq b k) basis) refl in
    let apart : nat_eq right j ≡ false = grind (arith, d.inside) in
    let none : z right ≡ pos 0 = rw (free_position (1 + m) basis right t.basis_length (right_free (1 + m) right initial rows basis (omega arith) t), apart) refl in
    record {
      size = s.size;
      not_negative = λ k h. not_negative_factor whole (entry x k) scale.positive (subst (λ (u : ℤ). pos 0 ≤ℤ u) (sym (same k h)) (product_not_negative q (pos 0 -ℤ z (1 + k)) (weaker q s.positive) (low (1 + k) (omega arith))));
      rows = λ l h. (
          let sum : ℤ = total n (λ k. entry a (l * n + k) *ℤ z (1 + k)) in
          let balanced : (sum +ℤ z (1 + n + l)) +ℤ entry b l *ℤ z right ≡ pos 0 = sym (initial_row m n a b c initial z l i h) ∙ y.2.solves (1 + l) (omega arith) in
          let turned : pos 0 -ℤ sum ≡ pos 0 -ℤ (pos 0 -ℤ z (1 + n + l)) = opposite sum (z (1 + n + l)) (entry b l *ℤ z right) balanced (ap (λ u. entry b l *ℤ u) none ∙ times_zero (entry b l)) in
          let scaled : whole *ℤ row_sum n a x l ≡ pos 0 -ℤ q *ℤ (pos 0 -ℤ z (1 + n + l)) =
          sum_scaled n whole q (λ k. entry a (l * n + k)) (entry x) (λ k. pos 0 -ℤ z (1 + k)) same ∙ ap (λ u. q *ℤ u) (turned_terms n (λ k. entry a (l * n + k)) (λ k. z (1 + k)) ∙ turned) ∙ pulled q (pos 0 -ℤ z (1 + n + l)) in
          cancel_le whole (row_sum n a x l) (pos 0) scale.positive
          (below (whole *ℤ row_sum n a x l) (q *ℤ (pos 0 -ℤ z (1 + n + l))) (whole *ℤ pos 0) scaled (product_not_negative q (pos 0 -ℤ z (1 + n + l)) (weaker q s.positive) (low (1 + n + l) (omega arith))) (times_zero whole)));
      gains =
          (let costs : ℤ = total n (λ k. entry c k *ℤ z (1 + k)) in
          let first : z 0 ≡ costs = same_from_difference (z 0) costs (sym (initial_costs m n a b c initial z i) ∙ y.2.solves 0 (omega arith)) in
          let scaled : whole *ℤ product n c x ≡ q *ℤ (pos 0 -ℤ entry (row_of rows 0) j *ℤ part 0) =
          sum_scaled n whole q (entry c) (entry x) (λ k. pos 0 -ℤ z (1 + k)) same ∙ ap (λ u. q *ℤ u) (turned_terms n (entry c) (λ k. z (1 + k)) ∙ ap (λ u. pos 0 -ℤ u) (sym first ∙ y.2.first)) in
          positive_part whole (product n c x) scale.positive (subst (λ (u : ℤ). pos 1 ≤ℤ u) (sym scaled) (positive_product q (pos 0 -ℤ entry (row_of rows 0) j *ℤ part 0) s.positive (gain (entry (row_of rows 0) j) (part 0) d.gains (scale.part_positive 0 (omega arith))))));
    }
  where
    weaker : (x : ℤ) → pos 1 ≤ℤ x → pos 0 ≤ℤ x
    weaker x h = omega (arith, ints)

    opposite : (s y u : ℤ) → (s +ℤ y) +ℤ u ≡ pos 0 → u ≡ pos 0 → pos 0 -ℤ s ≡ pos 0 -ℤ (pos 0 -ℤ y)
    opposite s y u e f = omega (arith, ints)

    pulled : (q y : ℤ) → q *ℤ (pos 0 -ℤ y) ≡ pos 0 -ℤ q *ℤ y
    pulled q y = rw (pos_diff 0, diff_of q, diff_of y) (simp differences (diff-eq _ _ _ _ (omega arith)))

    below : (s v w : ℤ) → s ≡ pos 0 -ℤ v → pos 0 ≤ℤ v → w ≡ pos 0 → s ≤ℤ w
    below s v w e h f = omega (arith, ints)

    same_from_difference : (u v : ℤ) → u -ℤ v ≡ pos 0 → u ≡ v
    same_from_difference u v e = omega (arith, ints)

    gain : (x p : ℤ) → x <ℤ pos 0 → pos 1 ≤ℤ p → pos 1 ≤ℤ (pos 0 -ℤ x *ℤ p)
    gain x p h l = subst (λ (u : ℤ). pos 1 ≤ℤ u) (law x p) (positive_product (pos 0 -ℤ x) p (omega (arith, ints)) l)
      where
        law : (x p : ℤ) → (pos 0 -ℤ x) *ℤ p ≡ pos 0 -ℤ x *ℤ p
        law x p = rw (pos_diff 0, diff_of x, diff_of p) (simp differences (diff-eq _ _ _ _ (omega arith)))
