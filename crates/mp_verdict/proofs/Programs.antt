-- What the stated calculation of a junction's program comes to.
use Rattle.std.proofs.Common.{◌≡◌, ℕ, zero, suc, ◌+◌, ◌*◌, ◌<◌, List, [], ◌∷◌, ◌++◌, length, get_or, map, cond, ℤ, pos, ◌+ℤ◌, ◌*ℤ◌, ◌≤ℤ◌, ◌<ℤ◌, arith, refl, sym, ◌∙◌, ap, ap₂, subst, Ok, Err}
use Rattle.std.proofs.lemmas.Int.{ints}
use Rattle.std.proofs.lemmas.List.{length-map, get_or-map, get_or_append_left, get_or-append-add}
use Rattle.mp_model.specs.Network.{Network, Junction, flow_of, own, has}
use Rattle.mp_model.specs.NetworkRules.{IsNetwork}
use Rattle.mp_model.specs.Certificate.{int_entry}
use Rattle.mp_laws.proofs.Lists.{all_places}
use Rattle.mp_num.specs.Row.{entry}
use Rattle.mp_num.specs.Sums.{total}
use Rattle.mp_num.proofs.SumLemmas.{total-same, total-split}
use Rattle.mp_simplex.specs.declared.Optimum.{Optimum}
use Rattle.mp_simplex.specs.declared.LpFault.TheVariants.{Unbounded}
use Rattle.mp_simplex.specs.Optimal.{row_sum, column_sum, product, IsRay}
use Rattle.mp_simplex.specs.Outcome.{Optimal, Ray, maximised}
use Rattle.mp_simplex.specs.Meeting.{BeginsAtZero, IsOptimum}
use Rattle.mp_simplex.proofs.MaximiseLemmas.{means}
use Rattle.mp_verdict.specs.Program.{stage_row, stage_rows, program}
use Rattle.mp_verdict.proofs.Capacity.{GoodStages}
use Rattle.mp_verdict.proofs.Solved.{IsSolved}
use Rattle.mp_verdict.proofs.ListProgram.{dot, column, AllKept, AreBest, IsListRay, junction_lp}
use Rattle.mp_verdict.proofs.LpLemmas.{solved_is}
use Rattle.mp_verdict.proofs.Bounded.{bounded}

-- the sum of products over numbers is that of two lists
total_dot : (xs ys : List ℤ) → length ys ≡ length xs → total (length xs) (λ k. entry xs k *ℤ entry ys k) ≡ dot xs ys
total_dot [] ys e = refl
total_dot (x ∷ xs) [] e = absurd (omega arith)
total_dot (x ∷ xs) (y ∷ ys) e =
    let r = total_dot xs ys (omega arith) in
    let s = total-split 1 (length xs) (λ k. entry (x ∷ xs) k *ℤ entry (y ∷ ys) k) in
    let later : total (length xs) (λ k. entry (x ∷ xs) (1 + k) *ℤ entry (y ∷ ys) (1 + k)) ≡ total (length xs) (λ k. entry xs k *ℤ entry ys k) =
    total-same (length xs) (λ k. entry (x ∷ xs) (1 + k) *ℤ entry (y ∷ ys) (1 + k)) (λ k. entry xs k *ℤ entry ys k) (λ k l. ap₂ (λ a b. a *ℤ b) (further x xs k) (further y ys k)) in
    let all : total (1 + length xs) (λ k. entry (x ∷ xs) k *ℤ entry (y ∷ ys) k) ≡ x *ℤ y +ℤ dot xs ys =
    s ∙ ap (λ t. pos 0 +ℤ x *ℤ y +ℤ t) (later ∙ r) ∙ zero_first (x *ℤ y) (dot xs ys) in
    let one : suc (length xs) ≡ 1 + length xs = omega arith in
    ap (λ n. total n (λ k. entry (x ∷ xs) k *ℤ entry (y ∷ ys) k)) one ∙ all
  where
    further : (x : ℤ) (xs : List ℤ) (k : ℕ) → entry (x ∷ xs) (1 + k) ≡ entry xs k
    further x xs k = let e : 1 + k ≡ suc k = omega arith in ap (λ n. entry (x ∷ xs) n) e

    zero_first : (a b : ℤ) → pos 0 +ℤ a +ℤ b ≡ a +ℤ b
    zero_first a b = omega (arith, ints)

total_dot_at : (n : ℕ) (f : ℕ → ℤ) (xs ys : List ℤ) → length xs ≡ n → length ys ≡ n → ((k : ℕ) → k < n → f k ≡ entry xs k *ℤ entry ys k) → total n f ≡ dot xs ys
total_dot_at n f xs ys ex ey h =
    total-same n f (λ k. entry xs k *ℤ entry ys k) h ∙ ap (λ m. total m (λ k. entry xs k *ℤ entry ys k)) (sym ex) ∙ total_dot xs ys (ey ∙ sym ex)

length-row : (net : Network) (ks stage : List ℕ) → length (stage_row net ks stage) ≡ length ks
length-row net ks stage = length-map ks (λ k. cond (has stage k) (pos (flow_of net k)) (pos 0))

-- the coefficient of row i and column k
cell_is : (net : Network) (ks : List ℕ) (stages : List (List ℕ)) (i k : ℕ) → i < length stages → k < length ks →
    entry (stage_rows net ks stages) (i * length ks + k) ≡ entry (get_or (map (stage_row net ks) stages) i []) k
cell_is net ks [] i k hi hk = absurd (omega arith)
cell_is net ks (stage ∷ stages) zero k hi hk =
    let e : 0 * length ks + k ≡ k = omega arith in
    ap (λ n. entry (stage_row net ks stage ++ stage_rows net ks stages) n) e ∙ get_or_append_left (stage_row net ks stage) (stage_rows net ks stages) (pos 0) k (omega (arith, length-row net ks stage))
cell_is net ks (stage ∷ stages) (suc i) k hi hk =
    let e : suc i * length ks + k ≡ length (stage_row net ks stage) + (i * length ks + k) = omega (arith, length-row net ks stage) in
    ap (λ n. entry (stage_row net ks stage ++ stage_rows net ks stages) n) e
    ∙ get_or-append-add (stage_row net ks stage) (stage_rows net ks stages) (i * length ks + k) (pos 0)
    ∙ cell_is net ks stages i k (omega arith) hk

kept_all : (rows : List (List ℤ)) (b x : List ℤ) (z : ℤ) → length b ≡ length rows → ((i : ℕ) → i < length rows → dot (get_or rows i []) x ≤ℤ (get_or b i (pos 0) *ℤ z)) → AllKept rows b x z
kept_all [] b x z e h = tt
kept_all (row ∷ rows) [] x z e h = absurd (omega arith)
kept_all (row ∷ rows) (most ∷ b) x z e h = (h 0 (omega arith), kept_all rows b x z (omega arith) (λ i l. h (suc i) (omega arith)))

begins : (net : Network) (j : Junction) (h : List ℤ) → BeginsAtZero (program net j h)
begins net j h = record { at = λ i l. subst (λ (t : ℤ). pos 0 ≤ℤ t) (sym (get_or-map (λ (stage : List ℕ). pos 1) j.stages i [] (pos 0) l)) (omega (arith, ints)) }

module _ (net : Network) (j : Junction) (h : List ℤ) where
  rows_length : length (map (stage_row net (own net j)) j.stages) ≡ length j.stages
  rows_length = length-map j.stages (stage_row net (own net j))

  row_length : (i : ℕ) → i < length j.stages → length (get_or (map (stage_row net (own net j)) j.stages) i []) ≡ length (own net j)
  row_length i l = ap length (get_or-map (stage_row net (own net j)) j.stages i [] [] l) ∙ length-row net (own net j) (get_or j.stages i [])

  row_dot : (x : List ℤ) (i : ℕ) → length x ≡ length (own net j) → i < length j.stages →
      row_sum (length (own net j)) (stage_rows net (own net j) j.stages) x i ≡ dot (get_or (map (stage_row net (own net j)) j.stages) i []) x
  row_dot x i ex l =
      total_dot_at (length (own net j)) _ (get_or (map (stage_row net (own net j)) j.stages) i []) x (row_length i l) ex
      (λ k lk. ap (λ t. t *ℤ entry x k) (cell_is net (own net j) j.stages i k l lk))

  column_length : (k : ℕ) → length (column k (map (stage_row net (own net j)) j.stages)) ≡ length j.stages
  column_length k = length-map (map (stage_row net (own net j)) j.stages) (λ row. get_or row k (pos 0)) ∙ rows_length

  column_dot : (y : List ℤ) (k : ℕ) → length y ≡ length j.stages → k < length (own net j) →
      column_sum (length j.stages) (length (own net j)) (stage_rows net (own net j) j.stages) y k ≡ dot (column k (map (stage_row net (own net j)) j.stages)) y
  column_dot y k ey l =
      total_dot_at (length j.stages) _ (column k (map (stage_row net (own net j)) j.stages)) y (column_length k) ey
      (λ i li. ap (λ t. t *ℤ entry y i) (cell_is net (own net j) j.stages i k li l ∙ sym (get_or-map (λ row. get_or row k (pos 0)) (map (stage_row net (own net j)) j.stages) i [] (pos 0) (omega (arith, li, rows_length)))))

  objective_dot : (x : List ℤ) → length x ≡ length (own net j) → product (length (own net j)) (map (int_entry h) (own net j)) x ≡ dot (map (int_entry h) (own net j)) x
  objective_dot x ex = total_dot_at (length (own net j)) _ (map (int_entry h) (own net j)) x (length-map (own net j) (int_entry h)) ex (λ k l. refl)

  right_dot : (y : List ℤ) → length y ≡ length j.stages → product (length j.stages) (map (λ (stage : List ℕ). pos 1) j.stages) y ≡ dot (map (λ (stage : List ℕ). pos 1) j.stages) y
  right_dot y ey = total_dot_at (length j.stages) _ (map (λ (stage : List ℕ). pos 1) j.stages) y (length-map j.stages (λ (stage : List ℕ). pos 1)) ey (λ k l. refl)

  best_is : (o : Optimum) → IsOptimum (program net j h) o → AreBest (junction_lp net j (int_entry h)) o.primal o.primal_den o.dual o.dual_den o.value
  best_is o b = record {
    primal_den = b.primal.positive;
    primal_sign = all_places (λ t. pos 0 ≤ℤ t) (pos 0) o.primal (λ i l. b.primal.not_negative i (omega (arith, l, b.primal.size)));
    primal_length = b.primal.size ∙ sym (length-map (own net j) (int_entry h));
    primal = kept_all (map (stage_row net (own net j)) j.stages) (map (λ (stage : List ℕ). pos 1) j.stages) o.primal o.primal_den (length-map j.stages (λ (stage : List ℕ). pos 1) ∙ sym rows_length)
        (λ i l. (let li : i < length j.stages = omega (arith, l, rows_length) in subst (λ (t : ℤ). t ≤ℤ (get_or (map (λ (stage : List ℕ). pos 1) j.stages) i (pos 0) *ℤ o.primal_den)) (row_dot o.primal i b.primal.size li) (b.primal.rows i li)));
    dual_den = b.dual.positive;
    dual_sign = all_places (λ t. pos 0 ≤ℤ t) (pos 0) o.dual (λ i l. b.dual.not_negative i (omega (arith, l, b.dual.size)));
    dual_length = b.dual.size ∙ sym rows_length;
    dual = λ k l. (let lk : k < length (own net j) = omega (arith, l, length-map (own net j) (int_entry h)) in
        subst (λ (t : ℤ). (get_or (map (int_entry h) (own net j)) k (pos 0) *ℤ o.dual_den) ≤ℤ t) (column_dot o.dual k b.dual.size lk) (b.dual.columns k lk));
    value_den = b.value_positive;
    primal_value = ap (λ t. t *ℤ o.value.den) (sym (objective_dot o.primal b.primal.size)) ∙ b.primal_value;
    dual_value = ap (λ t. t *ℤ o.value.den) (sym (right_dot o.dual b.dual.size)) ∙ b.dual_value;
  }

  ray_is : (x : List ℤ) → IsRay (length j.stages) (length (own net j)) (stage_rows net (own net j) j.stages) (map (int_entry h) (own net j)) x → IsListRay (junction_lp net j (int_entry h)) x
  ray_is x r = record {
    sign = all_places (λ t. pos 0 ≤ℤ t) (pos 0) x (λ i l. r.not_negative i (omega (arith, l, r.size)));
    same_length = r.size ∙ sym (length-map (own net j) (int_entry h));
    rows = all_places (λ row. dot row x ≤ℤ pos 0) [] (map (stage_row net (own net j)) j.stages)
        (λ i l. (let li : i < length j.stages = omega (arith, l, rows_length) in subst (λ (t : ℤ). t ≤ℤ pos 0) (row_dot x i r.size li) (r.rows i li)));
    grows = (let g : pos 0 <ℤ dot (map (int_entry h) (own net j)) x = subst (λ (t : ℤ). pos 0 <ℤ t) (objective_dot x r.size) r.gains in omega (arith, ints, g));
  }

  module _ (ok : IsNetwork net) (good : GoodStages net j.stages) (limit : ℕ) where
    -- an optimum solves the program
    pub solved_by : (o : Optimum) → maximised (program net j h) limit ≡ Optimal o → IsSolved net j (int_entry h) o
    solved_by o e = solved_is net ok j good (int_entry h) o (best_is o (means (program net j h) limit (Ok o) (begins net j h) e).0)

    pub primal_length : (o : Optimum) → maximised (program net j h) limit ≡ Optimal o → length o.primal ≡ length (own net j)
    primal_length o e = (means (program net j h) limit (Ok o) (begins net j h) e).0.primal.size

    -- and no program grows without end
    pub no_ray : (x : List ℤ) → maximised (program net j h) limit ≡ Ray x → ⊥
    no_ray x e = bounded net ok ok.flow j good (int_entry h) x (ray_is x (means (program net j h) limit (Err (Unbounded x)) (begins net j h) e))
