-- what the end of the turns gives: a primal and a dual of one value, or a ray
use Rattle.std.proofs.Common.{◌≡◌, ◌≢◌, ℕ, zero, suc, ◌+◌, ◌*◌, ◌<◌, ◌≤◌, List, length, Option, Some, None, ℤ, pos, ◌+ℤ◌, ◌-ℤ◌, ◌*ℤ◌, ◌≤ℤ◌, true, false, refl, ap, ap₂, sym, ◌∙◌, subst, arith, inl, inr, nat_eq, cond, position}
use Rattle.std.proofs.lemmas.Int.{ints}
use Rattle.std.proofs.lemmas.Bool.{cases_eq}
use Rattle.mp_num.specs.Sums.{total}
use Rattle.mp_num.specs.Row.{entry, applied}
use Rattle.mp_num.proofs.Ring.{diff_of, differences, diff-eq, pos_diff}
use Rattle.mp_num.proofs.OrderLemmas.{product_not_negative, cancel_le, cancel_same, not_negative_factor}
use Rattle.mp_num.proofs.SumLemmas.{total-same, total-one, total-zero, total-scale}
use Rattle.mp_simplex.specs.Tableau.{row_of, basic_of}
use Rattle.mp_simplex.specs.Optimal.{row_sum, column_sum, product, IsPrimal, IsDual}
use Rattle.mp_simplex.proofs.BasicLemmas.{IsScale, IsFree, basic_solution, solution, solution_at, found_basic}
use Rattle.mp_simplex.proofs.PartLemmas.{times_zero, times_one, initial_row, initial_costs, parts, applied-parts, initial_row-parts, initial_costs-parts, total-minus}
use Rattle.mp_simplex.proofs.TableauFacts.{IsTableau, IsBest, IsInitial}

-- ---- the values of the columns, read off at place t
abbrev pub Share : ℕ → ℤ → List (List ℤ) → ℕ → ℤ → Option ℕ → Type 0
Share t q rows k v None = v ≡ pos 0
Share t q rows k v (Some r) = (u : ℤ) × (v ≡ entry (row_of rows r) t *ℤ u) × (q ≡ entry (row_of rows r) k *ℤ u)

pub record IsShared (n t : ℕ) (q : ℤ) (rows : List (List ℤ)) (basis : List ℕ) (x : List ℤ) : Type 0 where
  pub size : length x ≡ n
  pub positive : pos 1 ≤ℤ q
  pub at : (k : ℕ) → k < n → Share t q rows (1 + k) (entry x k) (position (λ b. nat_eq b (1 + k)) basis)

share_law : (e p s u : ℤ) → (e *ℤ p) *ℤ (s *ℤ u) ≡ (e *ℤ u) *ℤ (s *ℤ p)
share_law e p s u = rw (diff_of e, diff_of p, diff_of s, diff_of u) (simp differences (diff-eq _ _ _ _ (omega arith)))

swap_law : (w f x : ℤ) → w *ℤ (f *ℤ x) ≡ f *ℤ (w *ℤ x)
swap_law w f x = rw (diff_of w, diff_of f, diff_of x) (simp differences (diff-eq _ _ _ _ (omega arith)))

pub sum_scaled : (n : ℕ) (w q : ℤ) (f x z : ℕ → ℤ) → ((k : ℕ) → k < n → w *ℤ x k ≡ q *ℤ z k) → w *ℤ total n (λ k. f k *ℤ x k) ≡ q *ℤ total n (λ k. f k *ℤ z k)
sum_scaled n w q f x z h =
    sym (total-scale n w (λ k. f k *ℤ x k))
    ∙ total-same n (λ k. w *ℤ (f k *ℤ x k)) (λ k. q *ℤ (f k *ℤ z k)) (λ k l. swap_law w (f k) (x k) ∙ ap (λ t. f k *ℤ t) (h k l) ∙ sym (swap_law q (f k) (z k)))
    ∙ total-scale n q (λ k. f k *ℤ z k)

-- ---- the primal
-- what a basic solution's values on the right side come to
shared_scaled : (height right n t : ℕ) (rows : List (List ℤ)) (basis : List ℕ) (whole q : ℤ) (part : ℕ → ℤ) (v : ℤ) (k : ℕ) → IsScale height (λ r. entry (row_of rows r) (basic_of basis r)) whole part → length basis ≡ height →
    k ≢ t → (o : Option ℕ) → position (λ b. nat_eq b k) basis ≡ o → Share t q rows k v o → whole *ℤ v ≡ q *ℤ solution_at t rows whole part k o
shared_scaled height right n t rows basis whole q part v k s l apart None e h =
    let other : nat_eq k t ≡ false = grind (arith, apart) in
    ap (λ x. whole *ℤ x) h ∙ times_zero whole ∙ sym (rw other (times_zero q))
shared_scaled height right n t rows basis whole q part v k s l apart (Some r) e h =
    let f = found_basic basis k r e in
    let at : whole ≡ entry (row_of rows r) k *ℤ part r = s.parts r (omega (arith, l, f.0)) ∙ ap (λ m. entry (row_of rows r) m *ℤ part r) f.1 in
    ap₂ (λ a b. a *ℤ b) at h.1 ∙ share_law (entry (row_of rows r) k) (part r) (entry (row_of rows r) t) h.0 ∙ ap (λ a. a *ℤ (entry (row_of rows r) t *ℤ part r)) (sym h.2)

-- a value of the basic solution on the right side is not negative
value_at_right : (height right : ℕ) (initial rows : List (List ℤ)) (basis : List ℕ) (whole : ℤ) (part : ℕ → ℤ) (k : ℕ) → IsTableau height right initial rows basis → IsScale height (λ r. entry (row_of rows r) (basic_of basis r)) whole part →
    1 ≤ k → k ≢ right → (o : Option ℕ) → position (λ b. nat_eq b k) basis ≡ o → pos 0 ≤ℤ solution_at right rows whole part k o
value_at_right height right initial rows basis whole part k t s one apart None e = let other : nat_eq k right ≡ false = grind (arith, apart) in rw other (omega (arith, ints))
value_at_right height right initial rows basis whole part k t s one apart (Some r) e =
    let f = found_basic basis k r e in
    let inside : r < height = omega (arith, t.basis_length, f.0) in
    elim (cases_eq r 0) [
      | inl same ↦ absurd (refuted (basic_of basis r) k (ap (basic_of basis) same ∙ t.first) f.1 one)
      | inr later ↦ product_not_negative (entry (row_of rows r) right) (part r) (t.right_sides r (omega arith) inside) (weaker (part r) (s.part_positive r inside))
    ]
  where
    refuted : (b k : ℕ) → b ≡ 0 → b ≡ k → 1 ≤ k → ⊥
    refuted b k e f h = omega arith

    weaker : (x : ℤ) → pos 1 ≤ℤ x → pos 0 ≤ℤ x
    weaker x h = omega (arith, ints)

row_law : (w q s y b : ℤ) → (s +ℤ y) +ℤ b *ℤ (pos 0 -ℤ w) ≡ pos 0 → q *ℤ s ≡ w *ℤ (b *ℤ q) -ℤ q *ℤ y
row_law w q s y b e = rw (solved s y (b *ℤ (pos 0 -ℤ w)) (b *ℤ w) e (opposite b w)) (spread w q y b)
  where
    opposite : (b w : ℤ) → b *ℤ (pos 0 -ℤ w) ≡ pos 0 -ℤ b *ℤ w
    opposite b w = rw (pos_diff 0, diff_of b, diff_of w) (simp differences (diff-eq _ _ _ _ (omega arith)))

    solved : (s y u v : ℤ) → (s +ℤ y) +ℤ u ≡ pos 0 → u ≡ pos 0 -ℤ v → s ≡ v -ℤ y
    solved s y u v e f = omega (arith, ints)

    spread : (w q y b : ℤ) → q *ℤ (b *ℤ w -ℤ y) ≡ w *ℤ (b *ℤ q) -ℤ q *ℤ y
    spread w q y b = rw (diff_of w, diff_of q, diff_of y, diff_of b) (simp differences (diff-eq _ _ _ _ (omega arith)))

value_law : (o p q v s w : ℤ) → w *ℤ s ≡ q *ℤ (v *ℤ p) → w ≡ o *ℤ p → p *ℤ (s *ℤ o) ≡ p *ℤ (v *ℤ q)
value_law o p q v s w e f = turned o p s ∙ ap (λ t. t *ℤ s) (sym f) ∙ e ∙ gathered q v p
  where
    turned : (o p s : ℤ) → p *ℤ (s *ℤ o) ≡ (o *ℤ p) *ℤ s
    turned o p s = rw (diff_of o, diff_of p, diff_of s) (simp differences (diff-eq _ _ _ _ (omega arith)))

    gathered : (q v p : ℤ) → q *ℤ (v *ℤ p) ≡ p *ℤ (v *ℤ q)
    gathered q v p = rw (diff_of q, diff_of v, diff_of p) (simp differences (diff-eq _ _ _ _ (omega arith)))

same_from_difference : (u v : ℤ) → u -ℤ v ≡ pos 0 → u ≡ v
same_from_difference u v e = omega (arith, ints)

weaker : (x : ℤ) → pos 1 ≤ℤ x → pos 0 ≤ℤ x
weaker x h = omega (arith, ints)

-- the right side is not basic
pub right_free : (height right : ℕ) (initial rows : List (List ℤ)) (basis : List ℕ) → 0 < right → IsTableau height right initial rows basis → IsFree height basis right
right_free height right initial rows basis some t = record {
  apart = λ r l e. (elim (cases_eq r 0) [
    | inl same ↦ refuted (basic_of basis r) right (ap (basic_of basis) same ∙ t.first) e some
    | inr later ↦ absurd (omega (arith, t.inside r (omega arith) l))
  ]);
}
  where
    refuted : (b k : ℕ) → b ≡ 0 → b ≡ k → 0 < k → ⊥
    refuted b k e f h = omega arith

pub record IsRead (m n : ℕ) (a b c x : List ℤ) (q v o : ℤ) : Type 0 where
  pub primal : IsPrimal m n a b x q
  pub value : product n c x *ℤ o ≡ v *ℤ q

pub best_primal : (m n : ℕ) (a b c : List ℤ) (initial rows : List (List ℤ)) (basis : List ℕ) (q : ℤ) (x : List ℤ) → IsInitial m n a b c initial → IsTableau (1 + m) (1 + n + m) initial rows basis →
    IsShared n (1 + n + m) q rows basis x → IsRead m n a b c x q (entry (row_of rows 0) (1 + n + m)) (entry (row_of rows 0) 0)
best_primal m n a b c initial rows basis q x i t s =
    let right : ℕ = 1 + n + m in
    let free : IsFree (1 + m) basis right = right_free (1 + m) right initial rows basis (omega arith) t in
    let y = basic_solution (1 + m) right right initial rows basis t free (omega arith) (omega arith) (omega arith) in
    let whole : ℤ = y.0 in
    let part : ℕ → ℤ = y.1 in
    let z : ℕ → ℤ = solution right rows basis whole part in
    let scale : IsScale (1 + m) (λ r. entry (row_of rows r) (basic_of basis r)) whole part = y.2.scale in
    let same : (k : ℕ) → k < n → whole *ℤ entry x k ≡ q *ℤ z (1 + k) = λ k h.
    shared_scaled (1 + m) right n right rows basis whole q part (entry x k) (1 + k) scale t.basis_length (omega arith) (position (λ b. nat_eq b (1 + k)) basis) refl (s.at k h) in
    let low : (k : ℕ) → 1 ≤ k → k < right → pos 0 ≤ℤ z k = λ k one h. value_at_right (1 + m) right initial rows basis whole part k t scale one (omega arith) (position (λ b. nat_eq b k) basis) refl in
    let p0 : pos 1 ≤ℤ part 0 = scale.part_positive 0 (omega arith) in
    let o_is : whole ≡ entry (row_of rows 0) 0 *ℤ part 0 = scale.parts 0 (omega arith) ∙ ap (λ k. entry (row_of rows 0) k *ℤ part 0) t.first in
    record {
      primal = record {
        size = s.size;
        positive = s.positive;
        not_negative = λ k h. not_negative_factor whole (entry x k) scale.positive (subst (λ (u : ℤ). pos 0 ≤ℤ u) (sym (same k h)) (product_not_negative q (z (1 + k)) (weaker q s.positive) (low (1 + k) (omega arith) (omega arith))));
        rows = λ l h. (
            let sum : ℤ = total n (λ k. entry a (l * n + k) *ℤ z (1 + k)) in
            let balanced : (sum +ℤ z (1 + n + l)) +ℤ entry b l *ℤ (pos 0 -ℤ whole) ≡ pos 0 =
            ap (λ u. (sum +ℤ z (1 + n + l)) +ℤ entry b l *ℤ u) (sym y.2.here) ∙ sym (initial_row m n a b c initial z l i h) ∙ y.2.solves (1 + l) (omega arith) in
            let scaled : whole *ℤ row_sum n a x l ≡ whole *ℤ (entry b l *ℤ q) -ℤ q *ℤ z (1 + n + l) =
            sum_scaled n whole q (λ k. entry a (l * n + k)) (entry x) (λ k. z (1 + k)) same ∙ row_law whole q sum (z (1 + n + l)) (entry b l) balanced in
            cancel_le whole (row_sum n a x l) (entry b l *ℤ q) scale.positive
            (below (whole *ℤ row_sum n a x l) (whole *ℤ (entry b l *ℤ q)) (q *ℤ z (1 + n + l)) scaled (product_not_negative q (z (1 + n + l)) (weaker q s.positive) (low (1 + n + l) (omega arith) (omega arith)))));
      };
      value =
          (let costs : ℤ = total n (λ k. entry c k *ℤ z (1 + k)) in
          let first : z 0 ≡ costs = same_from_difference (z 0) costs (sym (initial_costs m n a b c initial z i) ∙ y.2.solves 0 (omega arith)) in
          let scaled : whole *ℤ product n c x ≡ q *ℤ (entry (row_of rows 0) right *ℤ part 0) =
          sum_scaled n whole q (entry c) (entry x) (λ k. z (1 + k)) same ∙ ap (λ u. q *ℤ u) (sym first ∙ y.2.first) in
          cancel_same (part 0) (product n c x *ℤ entry (row_of rows 0) 0) (entry (row_of rows 0) right *ℤ q) p0 (value_law (entry (row_of rows 0) 0) (part 0) q (entry (row_of rows 0) right) (product n c x) whole scaled o_is));
    }
  where
    below : (s u v : ℤ) → s ≡ u -ℤ v → pos 0 ≤ℤ v → s ≤ℤ u
    below s u v e h = omega (arith, ints)

-- ---- the dual
abbrev indicator : ℕ → ℕ → ℤ
indicator k q = cond {A = ℤ} (nat_eq q k) (pos 1) (pos 0)

pick : (n k : ℕ) (f : ℕ → ℤ) → k < n → total n (λ q. f q *ℤ indicator k q) ≡ f k
pick n k f h =
    let here : nat_eq k k ≡ true = grind arith in
    total-one n k (λ q. f q *ℤ indicator k q) h (λ q l apart. (let other : nat_eq q k ≡ false = grind (arith, apart) in rw other (times_zero (f q)))) ∙ rw here (times_one (f k))

-- the first table's rows have this solution, and so has every later table
from_initial : (m n : ℕ) (a b c : List ℤ) (initial rows : List (List ℤ)) (basis : List ℕ) (first : ℤ) (columns slacks : ℕ → ℤ) (last : ℤ) → IsInitial m n a b c initial → IsTableau (1 + m) (1 + n + m) initial rows basis →
    first ≡ total n (λ k. entry c k *ℤ columns k) → ((i : ℕ) → i < m → (total n (λ k. entry a (i * n + k) *ℤ columns k) +ℤ slacks i) +ℤ entry b i *ℤ last ≡ pos 0) →
    ((entry (row_of rows 0) 0 *ℤ first +ℤ total n (λ k. entry (row_of rows 0) (1 + k) *ℤ columns k)) +ℤ total m (λ l. entry (row_of rows 0) (1 + n + l) *ℤ slacks l)) +ℤ entry (row_of rows 0) (1 + n + m) *ℤ last ≡ pos 0
from_initial m n a b c initial rows basis first columns slacks last i t e h =
    sym (applied-parts n m (row_of rows 0) first columns slacks last) ∙ t.forth (parts n m first columns slacks last) solved 0 (omega arith)
  where
    solved : (r : ℕ) → r < 1 + m → applied ((1 + n + m) + 1) (row_of initial r) (parts n m first columns slacks last) ≡ pos 0
    solved zero l = initial_costs-parts m n a b c initial first columns slacks last i ∙ difference first (total n (λ k. entry c k *ℤ columns k)) e
      where
        difference : (u v : ℤ) → u ≡ v → u -ℤ v ≡ pos 0
        difference u v e = omega (arith, ints)
    solved (suc r) l = let step : suc r ≡ 1 + r = omega arith in
        rw step (initial_row-parts m n a b c initial r first columns slacks last i (omega arith) ∙ h r (omega arith))

minus_times : (w a : ℤ) → w *ℤ (pos 0 -ℤ a) ≡ pos 0 -ℤ a *ℤ w
minus_times w a = rw (pos_diff 0, diff_of w, diff_of a) (simp differences (diff-eq _ _ _ _ (omega arith)))

turned_sum : (m : ℕ) (f w : ℕ → ℤ) → total m (λ l. w l *ℤ (pos 0 -ℤ f l)) ≡ pos 0 -ℤ total m (λ l. f l *ℤ w l)
turned_sum m f w = total-same m (λ l. w l *ℤ (pos 0 -ℤ f l)) (λ l. pos 0 -ℤ f l *ℤ w l) (λ l h. minus_times (w l) (f l)) ∙ total-minus m (λ l. f l *ℤ w l)

-- row 0 at a column, by the slacks' entries
dual_column : (m n : ℕ) (a b c : List ℤ) (initial rows : List (List ℤ)) (basis : List ℕ) (k : ℕ) → IsInitial m n a b c initial → IsTableau (1 + m) (1 + n + m) initial rows basis → k < n →
    entry (row_of rows 0) 0 *ℤ entry c k +ℤ entry (row_of rows 0) (1 + k) ≡ total m (λ l. entry a (l * n + k) *ℤ entry (row_of rows 0) (1 + n + l))
dual_column m n a b c initial rows basis k i t h =
    let row : List ℤ = row_of rows 0 in
    let sum : ℤ = total m (λ l. entry a (l * n + k) *ℤ entry row (1 + n + l)) in
    let whole : ((entry row 0 *ℤ entry c k +ℤ total n (λ q. entry row (1 + q) *ℤ indicator k q)) +ℤ total m (λ l. entry row (1 + n + l) *ℤ (pos 0 -ℤ entry a (l * n + k)))) +ℤ entry row (1 + n + m) *ℤ pos 0 ≡ pos 0 =
    from_initial m n a b c initial rows basis (entry c k) (indicator k) (λ l. pos 0 -ℤ entry a (l * n + k)) (pos 0) i t (sym (pick n k (entry c) h))
    (λ r l. clears (total n (λ q. entry a (r * n + q) *ℤ indicator k q)) (entry a (r * n + k)) (entry b r) (pick n k (λ q. entry a (r * n + q)) h)) in
    gathered (entry row 0 *ℤ entry c k) (total n (λ q. entry row (1 + q) *ℤ indicator k q)) (total m (λ l. entry row (1 + n + l) *ℤ (pos 0 -ℤ entry a (l * n + k)))) (entry row (1 + n + m) *ℤ pos 0) (entry row (1 + k)) sum
    whole (pick n k (λ q. entry row (1 + q)) h) (turned_sum m (λ l. entry a (l * n + k)) (λ l. entry row (1 + n + l))) (times_zero (entry row (1 + n + m)))
  where
    clears : (s a b : ℤ) → s ≡ a → (s +ℤ (pos 0 -ℤ a)) +ℤ b *ℤ pos 0 ≡ pos 0
    clears s a b e = omega (arith, ints)

    gathered : (p q r z x s : ℤ) → ((p +ℤ q) +ℤ r) +ℤ z ≡ pos 0 → q ≡ x → r ≡ pos 0 -ℤ s → z ≡ pos 0 → p +ℤ x ≡ s
    gathered p q r z x s e f g h = omega (arith, ints)

-- row 0 on the right side, by the slacks' entries
dual_right : (m n : ℕ) (a b c : List ℤ) (initial rows : List (List ℤ)) (basis : List ℕ) → IsInitial m n a b c initial → IsTableau (1 + m) (1 + n + m) initial rows basis →
    entry (row_of rows 0) (1 + n + m) ≡ total m (λ l. entry b l *ℤ entry (row_of rows 0) (1 + n + l))
dual_right m n a b c initial rows basis i t =
    let row : List ℤ = row_of rows 0 in
    let none : (f : ℕ → ℤ) → total n (λ q. f q *ℤ pos 0) ≡ pos 0 = λ f. total-zero n (λ q. f q *ℤ pos 0) (λ q h. times_zero (f q)) in
    let whole : ((entry row 0 *ℤ pos 0 +ℤ total n (λ q. entry row (1 + q) *ℤ pos 0)) +ℤ total m (λ l. entry row (1 + n + l) *ℤ (pos 0 -ℤ entry b l))) +ℤ entry row (1 + n + m) *ℤ pos 1 ≡ pos 0 =
    from_initial m n a b c initial rows basis (pos 0) (λ q. pos 0) (λ l. pos 0 -ℤ entry b l) (pos 1) i t (sym (none (entry c)))
    (λ r l. clears (total n (λ q. entry a (r * n + q) *ℤ pos 0)) (entry b r) (none (λ q. entry a (r * n + q)))) in
    gathered (entry row 0 *ℤ pos 0) (total n (λ q. entry row (1 + q) *ℤ pos 0)) (total m (λ l. entry row (1 + n + l) *ℤ (pos 0 -ℤ entry b l))) (entry row (1 + n + m) *ℤ pos 1) (entry row (1 + n + m)) (total m (λ l. entry b l *ℤ entry row (1 + n + l)))
    whole (times_zero (entry row 0)) (none (λ q. entry row (1 + q))) (turned_sum m (entry b) (λ l. entry row (1 + n + l))) (times_one (entry row (1 + n + m)))
  where
    clears : (s b : ℤ) → s ≡ pos 0 → (s +ℤ (pos 0 -ℤ b)) +ℤ b *ℤ pos 1 ≡ pos 0
    clears s b e = omega (arith, ints)

    gathered : (p q r z v s : ℤ) → ((p +ℤ q) +ℤ r) +ℤ z ≡ pos 0 → p ≡ pos 0 → q ≡ pos 0 → r ≡ pos 0 -ℤ s → z ≡ v → v ≡ s
    gathered p q r z v s e f g h k = omega (arith, ints)

pub record IsReadDual (m n : ℕ) (a b c y : List ℤ) (o v : ℤ) : Type 0 where
  pub dual : IsDual m n a c y o
  pub value : product m b y ≡ v

pub best_dual : (m n : ℕ) (a b c : List ℤ) (initial rows : List (List ℤ)) (basis : List ℕ) (y : List ℤ) → IsInitial m n a b c initial → IsTableau (1 + m) (1 + n + m) initial rows basis → IsBest (1 + n + m) rows → length y ≡ m →
    ((l : ℕ) → l < m → entry y l ≡ entry (row_of rows 0) (1 + n + l)) → IsReadDual m n a b c y (entry (row_of rows 0) 0) (entry (row_of rows 0) (1 + n + m))
best_dual m n a b c initial rows basis y i t best e h = record {
  dual = record {
    size = e;
    positive = subst (λ (k : ℕ). pos 1 ≤ℤ entry (row_of rows 0) k) t.first (t.positive 0 (omega arith));
    not_negative = λ l in_rows. rw (h l in_rows) (best.at (1 + n + l) (omega arith) (omega arith));
    columns = λ k in_row. below (entry c k) (entry (row_of rows 0) 0) (entry (row_of rows 0) (1 + k)) (column_sum m n a y k)
        (dual_column m n a b c initial rows basis k i t in_row ∙ sym (total-same m (λ l. entry a (l * n + k) *ℤ entry y l) (λ l. entry a (l * n + k) *ℤ entry (row_of rows 0) (1 + n + l)) (λ l q. ap (λ u. entry a (l * n + k) *ℤ u) (h l q))))
        (best.at (1 + k) (omega arith) (omega arith));
  };
  value = total-same m (λ l. entry b l *ℤ entry y l) (λ l. entry b l *ℤ entry (row_of rows 0) (1 + n + l)) (λ l q. ap (λ u. entry b l *ℤ u) (h l q)) ∙ sym (dual_right m n a b c initial rows basis i t);
}
  where
    commutes : (a b : ℤ) → a *ℤ b ≡ b *ℤ a
    commutes a b = rw (diff_of a, diff_of b) (simp differences (diff-eq _ _ _ _ (omega arith)))

    less : (p q r s : ℤ) → q +ℤ r ≡ s → p ≡ q → pos 0 ≤ℤ r → p ≤ℤ s
    less p q r s e f h = omega (arith, ints)

    below : (c o r s : ℤ) → o *ℤ c +ℤ r ≡ s → pos 0 ≤ℤ r → (c *ℤ o) ≤ℤ s
    below c o r s e h = less (c *ℤ o) (o *ℤ c) r s e (commutes c o) h
