-- what is read off the last table, and what the whole calculation means
use Rattle.std.proofs.Common.{◌≡◌, ℕ, ◌+◌, ◌*◌, ◌<◌, ◌≤◌, List, [], ◌∷◌, ◌++◌, length, Option, Some, None, ℤ, pos, ◌-ℤ◌, ◌*ℤ◌, ◌≤ℤ◌, Bool, true, false, refl, ap, sym, ◌∙◌, subst, arith, inl, inr, nat_eq, nat_lt, cond, unsigned_abs, int_div, length-append}
use Prim.Native.Nat.{◌∣◌}
use Rattle.std.proofs.Math.Nat.{dvd_trans}
use Rattle.std.proofs.lemmas.Int.{ints}
use Rattle.std.proofs.lemmas.Bool.{cases_eq}
use Rattle.std.proofs.lemmas.Option.{option_and_then_some, same_Some}
use Rattle.std.proofs.lemmas.List.{get_or_append_left, get_or_at, take_more, take_all}
use Rattle.mp_num.specs.Checked.{within}
use Rattle.mp_num.specs.Divisor.{reduced}
use Rattle.mp_num.specs.Passing.{counting}
use Rattle.mp_num.specs.Multiple.{lcm_of}
use Rattle.mp_num.specs.Row.{entry}
use Rattle.mp_num.specs.Sums.{total}
use Rattle.mp_num.proofs.CheckedLemmas.{within_some}
use Rattle.mp_num.proofs.OutcomeLemmas.{bool_cases, each_some, run_keeps, length-counting, get_or-counting}
use Rattle.mp_num.proofs.MultipleLemmas.{lcm_positive, lcm_divides, quotient_of}
use Rattle.mp_num.proofs.RowLemmas.{reduced_multiple, positive_factor}
use Rattle.mp_num.proofs.OrderLemmas.{cancel_le, cancel_same, not_negative_factor}
use Rattle.mp_num.proofs.Ring.{diff_of, differences, diff-eq}
use Rattle.mp_num.proofs.SumLemmas.{total-same, total-scale}
use Rattle.mp_simplex.specs.Tableau.{row_of, basic_of}
use Rattle.mp_simplex.specs.Optimal.{row_sum, column_sum, IsPrimal, IsDual}
use Rattle.mp_simplex.specs.Outcome.{numbers_over, denominator_over, scaled, denominator, basic_row, value_in, primal_at, primal, change_in, ray_at, ray}
use Rattle.mp_simplex.proofs.BasicLemmas.{found_basic}
use Rattle.mp_simplex.proofs.OptimumLemmas.{Share, IsShared}
use Rattle.mp_simplex.proofs.RayLemmas.{Change, IsChange}
use Rattle.mp_simplex.proofs.TableauFacts.{IsTableau}

-- ---- the denominator
pub record IsDenominator (n m : ℕ) (rows : List (List ℤ)) (basis : List ℕ) (k : ℕ) (q : ℤ) : Type 0 where
  pub positive : pos 1 ≤ℤ q
  pub divides : (r : ℕ) → 1 ≤ r → r < k → basic_of basis r ≤ n → unsigned_abs (entry (row_of rows r) (basic_of basis r)) ∣ unsigned_abs q

scaled_more : (n m : ℕ) (rows : List (List ℤ)) (basis : List ℕ) (r : ℕ) (q p : ℤ) → pos 1 ≤ℤ entry (row_of rows r) (basic_of basis r) → IsDenominator n m rows basis r q → scaled n rows basis q r ≡ Some p → IsDenominator n m rows basis (r + 1) p
scaled_more n m rows basis r q p h d e = elim (bool_cases (nat_lt n (basic_of basis r))) [
  | inl slack ↦ (let same : q ≡ p = same_Some _ _ (rw slack at e) in
      record {
        positive = subst (λ (t : ℤ). pos 1 ≤ℤ t) same d.positive;
        divides = λ i one l low. (elim (cases_eq i r) [
          | inl here ↦ absurd (refuted n (basic_of basis i) (ap (λ s. nat_lt n (basic_of basis s)) here ∙ slack) low)
          | inr other ↦ subst (λ (t : ℤ). unsigned_abs (entry (row_of rows i) (basic_of basis i)) ∣ unsigned_abs t) same (d.divides i one (omega arith) low)
        ]);
      })
  | inr column ↦ (let v : lcm_of q (entry (row_of rows r) (basic_of basis r)) ≡ Some p = rw column at e in
      let two = lcm_divides q (entry (row_of rows r) (basic_of basis r)) p v in
      record {
        positive = lcm_positive q (entry (row_of rows r) (basic_of basis r)) p d.positive h v;
        divides = λ i one l low. (elim (cases_eq i r) [
          | inl here ↦ rw here two.1
          | inr other ↦ dvd_trans (unsigned_abs (entry (row_of rows i) (basic_of basis i))) (d.divides i one (omega arith) low) two.0
        ]);
      })
]
  where
    refuted : (n b : ℕ) → nat_lt n b ≡ true → b ≤ n → ⊥
    refuted n b e h = grind (arith, e, h)

pub denominator_some : (n m right : ℕ) (initial rows : List (List ℤ)) (basis : List ℕ) (q : ℤ) → IsTableau (1 + m) right initial rows basis → denominator n m rows basis ≡ Some q → IsDenominator n m rows basis (1 + m) q
unfolding denominator
denominator_some n m right initial rows basis q t e =
    run_keeps (scaled n rows basis) (IsDenominator n m rows basis) m 1 (pos 1) q (record { positive = omega (arith, ints); divides = λ r one l low. absurd (omega arith) })
    (λ k u v one h d s. scaled_more n m rows basis k u v (t.positive k h) d s) e

-- ---- the values
-- the row of a column divides the denominator
column_part : (n m right : ℕ) (initial rows : List (List ℤ)) (basis : List ℕ) (q : ℤ) (k r : ℕ) → IsTableau (1 + m) right initial rows basis → IsDenominator n m rows basis (1 + m) q → 1 ≤ k → k ≤ n →
    basic_row k basis ≡ Some r → q ≡ entry (row_of rows r) k *ℤ int_div q (entry (row_of rows r) k)
column_part n m right initial rows basis q k r t d one low e =
    let f = found_basic basis k r e in
    let inside : r < 1 + m = omega (arith, t.basis_length, f.0) in
    let later : 1 ≤ r = elim (cases_eq r 0) [ inl same ↦ absurd (refuted (basic_of basis r) (ap (basic_of basis) same ∙ t.first) f.1) | inr other ↦ omega arith ] in
    quotient_of q (entry (row_of rows r) k) (subst (λ (s : ℕ). pos 1 ≤ℤ entry (row_of rows r) s) f.1 (t.positive r inside))
    (subst (λ (s : ℕ). unsigned_abs (entry (row_of rows r) s) ∣ unsigned_abs q) f.1 (d.divides r later inside (omega (arith, f.1))))
  where
    refuted : (b : ℕ) → b ≡ 0 → b ≡ k → ⊥
    refuted b e f = omega arith

plain : (k : ℕ) → 1 + k ≡ 1 + k
plain k = refl

pub primal_shared : (n m : ℕ) (initial rows : List (List ℤ)) (basis : List ℕ) (q : ℤ) (x : List ℤ) → IsTableau (1 + m) (1 + n + m) initial rows basis → IsDenominator n m rows basis (1 + m) q →
    primal n (1 + n + m) q rows basis ≡ Some x → IsShared n (1 + n + m) q rows basis x
unfolding primal primal_at
primal_shared n m initial rows basis q x t d e =
    let o = each_some (primal_at (1 + n + m) q rows basis) (counting n 1) x e in
    record {
      size = o.same_length ∙ length-counting n 1;
      positive = d.positive;
      at = λ k h. at k h (basic_row (1 + k) basis) refl (ap (primal_at (1 + n + m) q rows basis) (sym (get_or-counting n 1 k 0 h)) ∙ o.at k 0 (pos 0) (omega (arith, length-counting n 1)));
    }
  where
    at : (k : ℕ) → k < n → (o : Option ℕ) → basic_row (1 + k) basis ≡ o → value_in (1 + n + m) q rows (1 + k) (basic_row (1 + k) basis) ≡ Some (entry x k) → Share (1 + n + m) q rows (1 + k) (entry x k) (basic_row (1 + k) basis)
    at k h None e v = rw e (sym (same_Some _ _ (rw e at v)))
    at k h (Some r) e v = rw e (int_div q (entry (row_of rows r) (1 + k)), within_some _ _ (rw e at v), column_part n m (1 + n + m) initial rows basis q (1 + k) r t d (omega arith) (omega arith) e)

pub ray_change : (n m j : ℕ) (initial rows : List (List ℤ)) (basis : List ℕ) (q : ℤ) (x : List ℤ) → IsTableau (1 + m) (1 + n + m) initial rows basis → IsDenominator n m rows basis (1 + m) q →
    ray n j q rows basis ≡ Some x → IsChange n j q rows basis x
unfolding ray ray_at
ray_change n m j initial rows basis q x t d e =
    let o = each_some (ray_at j q rows basis) (counting n 1) x e in
    record {
      size = o.same_length ∙ length-counting n 1;
      positive = d.positive;
      at = λ k h. at k h (basic_row (1 + k) basis) refl (ap (ray_at j q rows basis) (sym (get_or-counting n 1 k 0 h)) ∙ o.at k 0 (pos 0) (omega (arith, length-counting n 1)));
    }
  where
    here : (b : Bool) (v : ℤ) → cond b (Some q) (Some (pos 0)) ≡ Some v → v ≡ cond {A = ℤ} b q (pos 0)
    here true v e = sym (same_Some _ _ e)
    here false v e = sym (same_Some _ _ e)

    at : (k : ℕ) → k < n → (o : Option ℕ) → basic_row (1 + k) basis ≡ o → change_in j q rows (1 + k) (basic_row (1 + k) basis) ≡ Some (entry x k) → Change j q rows (1 + k) (entry x k) (basic_row (1 + k) basis)
    at k h None e v = rw e (here (nat_eq (1 + k) j) (entry x k) (rw e at v))
    at k h (Some r) e v = rw e (option_and_then_some _ (within (entry (row_of rows r) j *ℤ int_div q (entry (row_of rows r) (1 + k)))) (entry x k) (rw e at v) (λ u hu e'.
        (int_div q (entry (row_of rows r) (1 + k)), within_some _ _ e' ∙ ap (λ z. pos 0 -ℤ z) (within_some _ _ hu), column_part n m (1 + n + m) initial rows basis q (1 + k) r t d (omega arith) (omega arith) e)))

-- ---- reduced together
-- a list and its denominator, by one divisor
pub record IsReduced (n : ℕ) (x : List ℤ) (q : ℤ) (small : List ℤ) (d : ℤ) (g : ℕ) : Type 0 where
  pub size : length small ≡ n
  pub above : 1 ≤ g
  pub at : (k : ℕ) → k < n → entry x k ≡ pos g *ℤ entry small k
  pub last : q ≡ pos g *ℤ d

pub reduced_together : (n : ℕ) (x small : List ℤ) (q d : ℤ) → length x ≡ n → reduced (x ++ q ∷ []) ≡ small ++ d ∷ [] → (g : ℕ) × IsReduced n x q small d g
reduced_together n x small q d l e =
    let m = reduced_multiple (x ++ q ∷ []) in
    let whole : length (small ++ d ∷ []) ≡ length (x ++ q ∷ []) = ap length (sym e) ∙ m.1.same_length in
    let ls : length small ≡ n = omega (arith, whole, length-append small (d ∷ []), length-append x (q ∷ [])) in
    let at : (k : ℕ) → entry (x ++ q ∷ []) k ≡ pos m.0 *ℤ entry (small ++ d ∷ []) k = λ k. m.1.at k ∙ ap (λ s. pos m.0 *ℤ entry s k) e in (
      m.0,
      record {
        size = ls;
        above = m.1.above;
        at = λ k h. sym (get_or_append_left x (q ∷ []) (pos 0) k (omega arith)) ∙ at k ∙ ap (λ t. pos m.0 *ℤ t) (get_or_append_left small (d ∷ []) (pos 0) k (omega arith));
        last = sym (get_or_at x q [] (pos 0) n l) ∙ at n ∙ ap (λ t. pos m.0 *ℤ t) (get_or_at small d [] (pos 0) n ls);
      },
    )

-- A reduced list is its numbers and its denominator.
pub whole_cut : (x : List ℤ) (q : ℤ) → reduced (x ++ q ∷ []) ≡ numbers_over x q ++ denominator_over x q ∷ []
unfolding numbers_over denominator_over
whole_cut x q =
    let y : List ℤ = reduced (x ++ q ∷ []) in
    let l : length y ≡ length x + 1 = (reduced_multiple (x ++ q ∷ [])).1.same_length ∙ length-append x (q ∷ []) in
    sym (sym (take_more y (length x) (pos 0) (omega arith)) ∙ take_all (length x + 1) y (omega arith))

move : (f g x : ℤ) → f *ℤ (g *ℤ x) ≡ g *ℤ (f *ℤ x)
move f g x = rw (diff_of f, diff_of g, diff_of x) (simp differences (diff-eq _ _ _ _ (omega arith)))

pub sum_reduced : (n : ℕ) (g : ℤ) (f x z : ℕ → ℤ) → ((k : ℕ) → k < n → x k ≡ g *ℤ z k) → total n (λ k. f k *ℤ x k) ≡ g *ℤ total n (λ k. f k *ℤ z k)
sum_reduced n g f x z h = total-same n (λ k. f k *ℤ x k) (λ k. g *ℤ (f k *ℤ z k)) (λ k l. ap (λ t. f k *ℤ t) (h k l) ∙ move (f k) g (z k)) ∙ total-scale n g (λ k. f k *ℤ z k)

pub factor_positive : (g : ℕ) → 1 ≤ g → pos 1 ≤ℤ pos g
factor_positive g h = omega (arith, ints)

pub primal_reduced : (m n : ℕ) (a b x small : List ℤ) (q d : ℤ) (g : ℕ) → IsReduced n x q small d g → IsPrimal m n a b x q → IsPrimal m n a b small d
primal_reduced m n a b x small q d g r p = record {
  size = r.size;
  positive = positive_factor g d (subst (λ (t : ℤ). pos 1 ≤ℤ t) r.last p.positive);
  not_negative = λ k h. not_negative_factor (pos g) (entry small k) (factor_positive g r.above) (subst (λ (t : ℤ). pos 0 ≤ℤ t) (r.at k h) (p.not_negative k h));
  rows = λ i h. cancel_le (pos g) (row_sum n a small i) (entry b i *ℤ d) (factor_positive g r.above)
      (subst (λ (t : ℤ). t ≤ℤ (pos g *ℤ (entry b i *ℤ d))) (sum_reduced n (pos g) (λ k. entry a (i * n + k)) (entry x) (entry small) r.at)
      (subst (λ (t : ℤ). row_sum n a x i ≤ℤ t) (ap (λ t. entry b i *ℤ t) r.last ∙ move (entry b i) (pos g) d) (p.rows i h)));
}

pub dual_reduced : (m n : ℕ) (a c y small : List ℤ) (o e : ℤ) (g : ℕ) → IsReduced m y o small e g → IsDual m n a c y o → IsDual m n a c small e
dual_reduced m n a c y small o e g r p = record {
  size = r.size;
  positive = positive_factor g e (subst (λ (t : ℤ). pos 1 ≤ℤ t) r.last p.positive);
  not_negative = λ k h. not_negative_factor (pos g) (entry small k) (factor_positive g r.above) (subst (λ (t : ℤ). pos 0 ≤ℤ t) (r.at k h) (p.not_negative k h));
  columns = λ k h. cancel_le (pos g) (entry c k *ℤ e) (column_sum m n a small k) (factor_positive g r.above)
      (subst (λ (t : ℤ). (pos g *ℤ (entry c k *ℤ e)) ≤ℤ t) (sum_reduced m (pos g) (λ i. entry a (i * n + k)) (entry y) (entry small) r.at)
      (subst (λ (t : ℤ). t ≤ℤ column_sum m n a y k) (ap (λ t. entry c k *ℤ t) r.last ∙ move (entry c k) (pos g) e) (p.columns k h)));
}

-- the value over other numbers: s over q is v over o, s = g·t, q = g·d, v over o is num over den
pub value_reduced : (g s q v o t d num den : ℤ) → pos 1 ≤ℤ g → pos 1 ≤ℤ o → s *ℤ o ≡ v *ℤ q → s ≡ g *ℤ t → q ≡ g *ℤ d → num *ℤ o ≡ v *ℤ den → t *ℤ den ≡ num *ℤ d
value_reduced g s q v o t d num den hg ho e es eq en =
    cancel_same o (t *ℤ den) (num *ℤ d) ho (cancel_same g (o *ℤ (t *ℤ den)) (o *ℤ (num *ℤ d)) hg
    (one g o t den ∙ ap (λ u. (u *ℤ o) *ℤ den) (sym es) ∙ ap (λ u. u *ℤ den) (e ∙ ap (λ u. v *ℤ u) eq) ∙ two v g d den ∙ ap (λ u. (u *ℤ d) *ℤ g) (sym en) ∙ three num o d g))
  where
    one : (g o t den : ℤ) → g *ℤ (o *ℤ (t *ℤ den)) ≡ ((g *ℤ t) *ℤ o) *ℤ den
    one g o t den = rw (diff_of g, diff_of o, diff_of t, diff_of den) (simp differences (diff-eq _ _ _ _ (omega arith)))

    two : (v g d den : ℤ) → (v *ℤ (g *ℤ d)) *ℤ den ≡ ((v *ℤ den) *ℤ d) *ℤ g
    two v g d den = rw (diff_of v, diff_of g, diff_of d, diff_of den) (simp differences (diff-eq _ _ _ _ (omega arith)))

    three : (num o d g : ℤ) → ((num *ℤ o) *ℤ d) *ℤ g ≡ g *ℤ (o *ℤ (num *ℤ d))
    three num o d g = rw (diff_of num, diff_of o, diff_of d, diff_of g) (simp differences (diff-eq _ _ _ _ (omega arith)))
