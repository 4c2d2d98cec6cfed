-- The outcome of the stated calculation is an optimum or a ray.
use Rattle.std.proofs.Common.{◌≡◌, ℕ, zero, suc, ◌+◌, ◌*◌, ◌<◌, List, length, drop, Option, Some, None, ℤ, pos, ◌+ℤ◌, ◌*ℤ◌, ◌≤ℤ◌, refl, ap, sym, ◌∙◌, subst, arith, length-take-le, length-drop}
use Rattle.std.proofs.lemmas.Int.{ints}
use Rattle.std.proofs.lemmas.List.{get_or-take, get_or-drop}
use Rattle.mp_num.specs.Row.{entry}
use Rattle.mp_num.specs.Sums.{total}
use Rattle.mp_num.proofs.FracLemmas.{lowest_terms_of}
use Rattle.mp_num.proofs.Ring.{diff_of, differences, diff-eq}
use Rattle.mp_num.proofs.OrderLemmas.{times_le, cancel_le}
use Rattle.mp_num.proofs.SumLemmas.{total-same, total-scale, total-swap}
use Rattle.mp_simplex.specs.Pivoting.{Ended, BestAt, EndlessAt, PassedAt, Limited, turns}
use Rattle.mp_simplex.specs.Tableau.{row_of}
use Rattle.mp_simplex.specs.declared.Lp.{Lp}
use Rattle.mp_simplex.specs.declared.Optimum.{Optimum}
use Rattle.mp_simplex.specs.Meeting.{BeginsAtZero, IsOptimum, IsGreatest}
use Rattle.mp_simplex.specs.Optimal.{row_sum, column_sum, product, IsPrimal, IsDual, IsRay}
use Rattle.mp_simplex.specs.Outcome.{first_rows, first_basis, denominator, primal, ray, dual, Optimal, Ray, numbers_over, denominator_over, optimum_of, optimal, best_outcome, unbounded, endless_outcome, ended, begun, maximised}
use Rattle.mp_simplex.proofs.TurnLemmas.{turns_end}
use Rattle.mp_simplex.proofs.OptimumLemmas.{best_primal, best_dual}
use Rattle.mp_simplex.proofs.RayLemmas.{endless_ray}
use Rattle.mp_simplex.proofs.EndLemmas.{first_initial, first_tableau}
use Rattle.mp_simplex.proofs.ReadLemmas.{denominator_some, primal_shared, ray_change, whole_cut, reduced_together, primal_reduced, dual_reduced, value_reduced, sum_reduced, factor_positive}
use Rattle.mp_simplex.proofs.TableauFacts.{IsTableau, IsBest, IsEndless, IsEnded, IsInitial}

dual_length : (m n : ℕ) (rows : List (List ℤ)) → length (row_of rows 0) ≡ (1 + n + m) + 1 → length (dual m n rows) ≡ m
dual_length m n rows w = length-take-le m (drop (1 + n) (row_of rows 0)) (omega (arith, length-drop (1 + n) (row_of rows 0)))

dual_entry : (m n : ℕ) (rows : List (List ℤ)) (l : ℕ) → l < m → entry (dual m n rows) l ≡ entry (row_of rows 0) (1 + n + l)
dual_entry m n rows l h = get_or-take m (drop (1 + n) (row_of rows 0)) l (pos 0) h ∙ get_or-drop (1 + n) (row_of rows 0) l (pos 0)

optimum_means : (lp : Lp) (initial rows : List (List ℤ)) (basis : List ℕ) (done : ℕ) (q : ℤ) (x : List ℤ) →
    IsInitial lp.rows lp.cols lp.a lp.b lp.c initial → IsTableau (1 + lp.rows) (1 + lp.cols + lp.rows) initial rows basis → IsBest (1 + lp.cols + lp.rows) rows →
    denominator lp.cols lp.rows rows basis ≡ Some q → primal lp.cols (1 + lp.cols + lp.rows) q rows basis ≡ Some x →
    IsOptimum lp (optimum_of done x q (dual lp.rows lp.cols rows) (entry (row_of rows 0) 0) (entry (row_of rows 0) (1 + lp.cols + lp.rows)))
optimum_means lp initial rows basis done q x i t best dq p =
    let m : ℕ = lp.rows in
    let n : ℕ = lp.cols in
    let o : ℤ = entry (row_of rows 0) 0 in
    let top : ℤ = entry (row_of rows 0) (1 + n + m) in
    let y : List ℤ = dual m n rows in
    let size : length y ≡ m = dual_length m n rows (t.widths 0 (omega arith)) in
    let s = primal_shared n m initial rows basis q x t (denominator_some n m (1 + n + m) initial rows basis q t dq) p in
    let first = best_primal m n lp.a lp.b lp.c initial rows basis q x i t s in
    let second = best_dual m n lp.a lp.b lp.c initial rows basis y i t best size (λ l h. dual_entry m n rows l h) in
    let rp = reduced_together n x (numbers_over x q) q (denominator_over x q) s.size (whole_cut x q) in
    let rd = reduced_together m y (numbers_over y o) o (denominator_over y o) size (whole_cut y o) in
    let low = lowest_terms_of top o second.dual.positive in
    record {
      primal = primal_reduced m n lp.a lp.b x (numbers_over x q) q (denominator_over x q) rp.0 rp.1 first.primal;
      dual = dual_reduced m n lp.a lp.c y (numbers_over y o) o (denominator_over y o) rd.0 rd.1 second.dual;
      value_positive = low.lowest.positive;
      primal_value = value_reduced (pos rp.0) (product n lp.c x) q top o (product n lp.c (numbers_over x q)) (denominator_over x q) _ _ (factor_positive rp.0 rp.1.above) second.dual.positive first.value
          (sum_reduced n (pos rp.0) (entry lp.c) (entry x) (entry (numbers_over x q)) rp.1.at) rp.1.last low.same;
      dual_value = value_reduced (pos rd.0) (product m lp.b y) o top o (product m lp.b (numbers_over y o)) (denominator_over y o) _ _ (factor_positive rd.0 rd.1.above) second.dual.positive (ap (λ z. z *ℤ o) second.value)
          (sum_reduced m (pos rd.0) (entry lp.b) (entry y) (entry (numbers_over y o)) rd.1.at) rd.1.last low.same;
    }

optimal_means : (lp : Lp) (initial rows : List (List ℤ)) (basis : List ℕ) (done : ℕ) (q : ℤ) (best : Optimum) →
    IsInitial lp.rows lp.cols lp.a lp.b lp.c initial → IsTableau (1 + lp.rows) (1 + lp.cols + lp.rows) initial rows basis → IsBest (1 + lp.cols + lp.rows) rows →
    denominator lp.cols lp.rows rows basis ≡ Some q → (o : Option (List ℤ)) → primal lp.cols (1 + lp.cols + lp.rows) q rows basis ≡ o →
    optimal lp.rows lp.cols done rows q o ≡ Optimal best → IsOptimum lp best
optimal_means lp initial rows basis done q best i t h dq None p v = absurd (cc)
optimal_means lp initial rows basis done q best i t h dq (Some x) p v =
    let same : optimum_of done x q (dual lp.rows lp.cols rows) (entry (row_of rows 0) 0) (entry (row_of rows 0) (1 + lp.cols + lp.rows)) ≡ best = cc in
    subst (IsOptimum lp) same (optimum_means lp initial rows basis done q x i t h dq p)

best_means : (lp : Lp) (initial rows : List (List ℤ)) (basis : List ℕ) (done : ℕ) (best : Optimum) →
    IsInitial lp.rows lp.cols lp.a lp.b lp.c initial → IsTableau (1 + lp.rows) (1 + lp.cols + lp.rows) initial rows basis → IsBest (1 + lp.cols + lp.rows) rows →
    (o : Option ℤ) → denominator lp.cols lp.rows rows basis ≡ o → best_outcome lp.rows lp.cols done rows basis o ≡ Optimal best → IsOptimum lp best
best_means lp initial rows basis done best i t h None dq v = absurd (cc)
best_means lp initial rows basis done best i t h (Some q) dq v =
    optimal_means lp initial rows basis done q best i t h dq (primal lp.cols (1 + lp.cols + lp.rows) q rows basis) refl v

endless_not_optimal : (n m done j : ℕ) (rows : List (List ℤ)) (basis : List ℕ) (o : Option ℤ) (best : Optimum) → endless_outcome n done j rows basis o ≡ Optimal best → ⊥
endless_not_optimal n m done j rows basis None best e = cc
endless_not_optimal n m done j rows basis (Some q) best e = go (ray n j q rows basis) e
  where
    go : (o : Option (List ℤ)) → unbounded done o ≡ Optimal best → ⊥
    go None e = cc
    go (Some x) e = cc

best_not_ray : (n m done : ℕ) (rows : List (List ℤ)) (basis : List ℕ) (o : Option ℤ) (x : List ℤ) → best_outcome m n done rows basis o ≡ Ray x → ⊥
best_not_ray n m done rows basis None x e = cc
best_not_ray n m done rows basis (Some q) x e = go (primal n (1 + n + m) q rows basis) e
  where
    go : (o : Option (List ℤ)) → optimal m n done rows q o ≡ Ray x → ⊥
    go None e = cc
    go (Some y) e = cc

endless_means : (m n : ℕ) (a b c : List ℤ) (initial rows : List (List ℤ)) (basis : List ℕ) (done j : ℕ) (x : List ℤ) →
    IsInitial m n a b c initial → IsTableau (1 + m) (1 + n + m) initial rows basis → IsEndless (1 + m) (1 + n + m) j rows → (o : Option ℤ) → denominator n m rows basis ≡ o →
    endless_outcome n done j rows basis o ≡ Ray x → IsRay m n a c x
endless_means m n a b c initial rows basis done j x i t d None dq v = absurd (cc)
endless_means m n a b c initial rows basis done j x i t d (Some q) dq v = go (ray n j q rows basis) refl v
  where
    go : (o : Option (List ℤ)) → ray n j q rows basis ≡ o → unbounded done o ≡ Ray x → IsRay m n a c x
    go None e v = absurd (cc)
    go (Some y) e v = let same : y ≡ x = cc in
        endless_ray m n j a b c initial rows basis q x i t d (ray_change n m j initial rows basis q x t (denominator_some n m (1 + n + m) initial rows basis q t dq) (e ∙ ap Some same))

ended_optimum : (lp : Lp) (initial : List (List ℤ)) (best : Optimum) → IsInitial lp.rows lp.cols lp.a lp.b lp.c initial → (end : Ended) → IsEnded (1 + lp.rows) (1 + lp.cols + lp.rows) initial end →
    ended lp.rows lp.cols end ≡ Optimal best → IsOptimum lp best
ended_optimum lp initial best i (BestAt done rows basis) h v = best_means lp initial rows basis done best i h.0 h.1 (denominator lp.cols lp.rows rows basis) refl v
ended_optimum lp initial best i (EndlessAt done j rows basis) h v = absurd (endless_not_optimal lp.cols lp.rows done j rows basis (denominator lp.cols lp.rows rows basis) best v)
ended_optimum lp initial best i (PassedAt done) h v = absurd (cc)
ended_optimum lp initial best i Limited h v = absurd (cc)

ended_ray : (m n : ℕ) (a b c : List ℤ) (initial : List (List ℤ)) (x : List ℤ) → IsInitial m n a b c initial → (end : Ended) → IsEnded (1 + m) (1 + n + m) initial end → ended m n end ≡ Ray x → IsRay m n a c x
ended_ray m n a b c initial x i (BestAt done rows basis) h v = absurd (best_not_ray n m done rows basis (denominator n m rows basis) x v)
ended_ray m n a b c initial x i (EndlessAt done j rows basis) h v = endless_means m n a b c initial rows basis done j x i h.0 h.1 (denominator n m rows basis) refl v
ended_ray m n a b c initial x i (PassedAt done) h v = absurd (cc)
ended_ray m n a b c initial x i Limited h v = absurd (cc)

pub maximised_optimum : (lp : Lp) (limit : ℕ) (best : Optimum) → BeginsAtZero lp → maximised lp limit ≡ Optimal best → IsOptimum lp best
unfolding maximised
maximised_optimum lp limit best hb v = go (first_rows lp.rows lp.cols lp.a lp.b lp.c) refl v
  where
    go : (o : Option (List (List ℤ))) → first_rows lp.rows lp.cols lp.a lp.b lp.c ≡ o → begun lp.rows lp.cols limit o ≡ Optimal best → IsOptimum lp best
    go None f v = absurd (cc)
    go (Some rows) f v = let i = first_initial lp.rows lp.cols lp.a lp.b lp.c rows f in
        ended_optimum lp rows best i (turns limit (1 + lp.cols + lp.rows) lp.rows 0 rows (first_basis lp.rows lp.cols))
        (turns_end limit (1 + lp.cols + lp.rows) lp.rows 0 rows rows (first_basis lp.rows lp.cols) (first_tableau lp.rows lp.cols lp.a lp.b lp.c rows i hb.at)) v

pub maximised_ray : (lp : Lp) (limit : ℕ) (x : List ℤ) → BeginsAtZero lp → maximised lp limit ≡ Ray x → IsRay lp.rows lp.cols lp.a lp.c x
unfolding maximised
maximised_ray lp limit x hb v = go (first_rows lp.rows lp.cols lp.a lp.b lp.c) refl v
  where
    go : (o : Option (List (List ℤ))) → first_rows lp.rows lp.cols lp.a lp.b lp.c ≡ o → begun lp.rows lp.cols limit o ≡ Ray x → IsRay lp.rows lp.cols lp.a lp.c x
    go None f v = absurd (cc)
    go (Some rows) f v = let i = first_initial lp.rows lp.cols lp.a lp.b lp.c rows f in
        ended_ray lp.rows lp.cols lp.a lp.b lp.c rows x i (turns limit (1 + lp.cols + lp.rows) lp.rows 0 rows (first_basis lp.rows lp.cols))
        (turns_end limit (1 + lp.cols + lp.rows) lp.rows 0 rows rows (first_basis lp.rows lp.cols) (first_tableau lp.rows lp.cols lp.a lp.b lp.c rows i hb.at)) v

-- ---- weak duality
total-le : (n : ℕ) (f g : ℕ → ℤ) → ((k : ℕ) → k < n → f k ≤ℤ g k) → total n f ≤ℤ total n g
total-le zero f g h = omega (arith, ints)
total-le (suc n) f g h = both (total n f) (f n) (total n g) (g n) (total-le n f g (λ k l. h k (omega arith))) (h n (omega arith))
  where
    both : (p q r s : ℤ) → p ≤ℤ r → q ≤ℤ s → (p +ℤ q) ≤ℤ (r +ℤ s)
    both p q r s h l = omega (arith, ints)

turned : (x y : ℤ) → x *ℤ y ≡ y *ℤ x
turned x y = rw (diff_of x, diff_of y) (simp differences (diff-eq _ _ _ _ (omega arith)))

moved_law : (x y z : ℤ) → x *ℤ (y *ℤ z) ≡ y *ℤ (x *ℤ z)
moved_law x y z = rw (diff_of x, diff_of y, diff_of z) (simp differences (diff-eq _ _ _ _ (omega arith)))

outer : (x a y : ℤ) → x *ℤ (a *ℤ y) ≡ y *ℤ (a *ℤ x)
outer x a y = rw (diff_of x, diff_of a, diff_of y) (simp differences (diff-eq _ _ _ _ (omega arith)))

-- No primal is above any dual.
pub weak_duality : (m n : ℕ) (a b c x y : List ℤ) (d e : ℤ) → IsPrimal m n a b x d → IsDual m n a c y e → (product n c x *ℤ e) ≤ℤ (product m b y *ℤ d)
weak_duality m n a b c x y d e p q =
    let left : product n c x *ℤ e ≡ total n (λ k. entry x k *ℤ (entry c k *ℤ e)) =
    turned (product n c x) e ∙ sym (total-scale n e (λ k. entry c k *ℤ entry x k)) ∙ total-same n (λ k. e *ℤ (entry c k *ℤ entry x k)) (λ k. entry x k *ℤ (entry c k *ℤ e)) (λ k h. outer e (entry c k) (entry x k)) in
    let first : total n (λ k. entry x k *ℤ (entry c k *ℤ e)) ≤ℤ total n (λ k. entry x k *ℤ column_sum m n a y k) = total-le n (λ k. entry x k *ℤ (entry c k *ℤ e)) (λ k. entry x k *ℤ column_sum m n a y k) (λ k h. times_le (entry x k) (entry c k *ℤ e) (column_sum m n a y k) (p.not_negative k h) (q.columns k h)) in
    let swapped : total n (λ k. entry x k *ℤ column_sum m n a y k) ≡ total m (λ i. entry y i *ℤ row_sum n a x i) =
    total-same n (λ k. entry x k *ℤ column_sum m n a y k) (λ k. total m (λ i. entry x k *ℤ (entry a (i * n + k) *ℤ entry y i))) (λ k h. sym (total-scale m (entry x k) (λ i. entry a (i * n + k) *ℤ entry y i)))
    ∙ total-swap n m (λ k i. entry x k *ℤ (entry a (i * n + k) *ℤ entry y i))
    ∙ total-same m (λ i. total n (λ k. entry x k *ℤ (entry a (i * n + k) *ℤ entry y i))) (λ i. entry y i *ℤ row_sum n a x i)
    (λ i h. total-same n (λ k. entry x k *ℤ (entry a (i * n + k) *ℤ entry y i)) (λ k. entry y i *ℤ (entry a (i * n + k) *ℤ entry x k)) (λ k l. outer (entry x k) (entry a (i * n + k)) (entry y i)) ∙ total-scale n (entry y i) (λ k. entry a (i * n + k) *ℤ entry x k)) in
    let second : total m (λ i. entry y i *ℤ row_sum n a x i) ≤ℤ total m (λ i. entry y i *ℤ (entry b i *ℤ d)) = total-le m (λ i. entry y i *ℤ row_sum n a x i) (λ i. entry y i *ℤ (entry b i *ℤ d)) (λ i h. times_le (entry y i) (row_sum n a x i) (entry b i *ℤ d) (q.not_negative i h) (p.rows i h)) in
    let right : total m (λ i. entry y i *ℤ (entry b i *ℤ d)) ≡ product m b y *ℤ d =
    total-same m (λ i. entry y i *ℤ (entry b i *ℤ d)) (λ i. d *ℤ (entry b i *ℤ entry y i)) (λ i h. outer (entry y i) (entry b i) d) ∙ total-scale m d (λ i. entry b i *ℤ entry y i) ∙ turned d (product m b y) in
    chain (product n c x *ℤ e) (total n (λ k. entry x k *ℤ (entry c k *ℤ e))) (total n (λ k. entry x k *ℤ column_sum m n a y k)) (total m (λ i. entry y i *ℤ row_sum n a x i)) (total m (λ i. entry y i *ℤ (entry b i *ℤ d))) (product m b y *ℤ d) left first swapped second right
  where
    chain : (p q r s t u : ℤ) → p ≡ q → q ≤ℤ r → r ≡ s → s ≤ℤ t → t ≡ u → p ≤ℤ u
    chain p q r s t u e h f l g = omega (arith, ints)

-- The value of an optimum is the greatest, since its dual is above every primal.
pub optimum_greatest : (lp : Lp) (o : Optimum) → IsOptimum lp o → IsGreatest lp o.value
optimum_greatest lp o h = record {
  at = λ x d p.
      (let top : ℤ = product lp.cols lp.c x in
      let bound : (top *ℤ o.dual_den) ≤ℤ (product lp.rows lp.b o.dual *ℤ d) = weak_duality lp.rows lp.cols lp.a lp.b lp.c x o.dual d o.dual_den p h.dual in
      let scaled : (o.value.den *ℤ (top *ℤ o.dual_den)) ≤ℤ (o.value.den *ℤ (product lp.rows lp.b o.dual *ℤ d)) = times_le o.value.den _ _ (weaker o.value.den h.value_positive) bound in
      let left : o.value.den *ℤ (top *ℤ o.dual_den) ≡ o.dual_den *ℤ (top *ℤ o.value.den) = outer o.value.den top o.dual_den in
      let right : o.value.den *ℤ (product lp.rows lp.b o.dual *ℤ d) ≡ o.dual_den *ℤ (o.value.num *ℤ d) =
      outer o.value.den (product lp.rows lp.b o.dual) d ∙ ap (λ t. d *ℤ t) h.dual_value ∙ moved_last d o.value.num o.dual_den in
      cancel_le o.dual_den (top *ℤ o.value.den) (o.value.num *ℤ d) h.dual.positive (subst (λ (t : ℤ). t ≤ℤ (o.dual_den *ℤ (o.value.num *ℤ d))) left (subst (λ (t : ℤ). (o.value.den *ℤ (top *ℤ o.dual_den)) ≤ℤ t) right scaled)));
}
  where
    weaker : (x : ℤ) → pos 1 ≤ℤ x → pos 0 ≤ℤ x
    weaker x h = omega (arith, ints)

    moved_last : (x y z : ℤ) → x *ℤ (y *ℤ z) ≡ z *ℤ (y *ℤ x)
    moved_last x y z = outer x y z
