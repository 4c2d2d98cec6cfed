-- A solved program of a junction says what the game takes.
use Rattle.std.proofs.Common.{◌≡◌, ◌==◌, ℕ, suc, ◌+◌, ◌*◌, ◌≤◌, ◌<◌, Bool, true, false, cond, List, [], ◌∷◌, length, get_or, map, sum_by, ℤ, pos, negsuc, ◌+ℤ◌, ◌*ℤ◌, ◌≤ℤ◌, unsigned_abs, arith, refl, sym, ◌∙◌, ap, ap₂, subst, mul-zero, zero-le, eq-eqb, mul-le-mul}
use Rattle.std.proofs.lemmas.Bool.{or_left, or_right}
use Rattle.std.specs.List.{AllByRecursion, IsDistinct, list_any}
use Rattle.std.proofs.lemmas.Int.{ints}
use Rattle.std.proofs.lemmas.List.{length-map, get_or-map}
use Rattle.std.proofs.lemmas.List.Sums.{sum_by-cons}
use Rattle.mp_num.proofs.Ring.{diff_of, differences, diff-eq, pos_diff, mul_assocz}
use Rattle.mp_model.specs.Sums.{int_sum_by}
use Rattle.mp_model.specs.Network.{Network, Junction, movement_numbers, flow_of, own, stands_in, has}
use Rattle.mp_model.specs.NetworkRules.{IsNetwork}
use Rattle.mp_model.specs.Load.{greatest}
use Rattle.mp_laws.proofs.PlainCertificate.{plain_parts_with}
use Rattle.mp_verdict.proofs.Combined.{spread_le}
use Rattle.mp_laws.proofs.Lists.{each_in, at_in, has_filter, AllOf-map, all_places}
use Rattle.mp_simplex.specs.declared.Optimum.{Optimum}
use Rattle.mp_verdict.proofs.Plain.{objective, values_of}
use Rattle.mp_verdict.proofs.Solved.{IsSolved}
use Rattle.mp_verdict.proofs.ListProgram.{dot, column, AllKept, AreBest, junction_lp}
use Rattle.mp_verdict.specs.Program.{stage_row}
use Rattle.mp_verdict.proofs.Signed.{mul_posℤ, ints-pos, ints-same_at}
use Rattle.mp_verdict.proofs.Capacity.{GoodStages}
use Rattle.mp_verdict.proofs.Facts.{mul_cancel}
use Rattle.mp_verdict.proofs.Places.{own_distinct}
use Rattle.mp_verdict.proofs.FlowNumbers.{abs_is, positive_is, above_one}

value_here : (k : ℕ) (ks : List ℕ) (z : ℤ) (zs : List ℤ) (b : Bool) → (k == k) ≡ b → b ≡ true → values_of (k ∷ ks) (z ∷ zs) k ≡ unsigned_abs z
value_here k ks z zs b e t = ap (λ b. cond b (unsigned_abs z) (values_of ks zs k)) (e ∙ t)

-- the product of two lists by the function of the second
pub dot_values : (f : ℕ → ℤ) (ks : List ℕ) (zs : List ℤ) → IsDistinct ◌==◌ ks → AllByRecursion (λ t. pos 0 ≤ℤ t) zs → length zs ≡ length ks → dot (map f ks) zs ≡ int_sum_by (λ k. f k *ℤ pos (values_of ks zs k)) ks
unfolding IsDistinct
dot_values f [] zs d all l = refl
dot_values f (k ∷ ks) [] d all l = absurd (omega arith)
dot_values f (k ∷ ks) (z ∷ zs) d all l =
    let here : f k *ℤ z ≡ f k *ℤ pos (values_of (k ∷ ks) (z ∷ zs) k) = ap (λ t. f k *ℤ t) (abs_is z all.0 ∙ ap pos (sym (value_here k ks z zs true (eq-eqb k k refl) refl))) in
    let later = ints-same_at (λ m. f m *ℤ pos (values_of ks zs m)) (λ m. f m *ℤ pos (values_of (k ∷ ks) (z ∷ zs) m)) ks
    (AllOf-map (λ m. (k == m) ≡ false) (λ m. f m *ℤ pos (values_of ks zs m) ≡ f m *ℤ pos (values_of (k ∷ ks) (z ∷ zs) m)) (λ m e. ap (λ b. f m *ℤ pos (cond b (unsigned_abs z) (values_of ks zs m))) (sym e)) ks d.0) in
    ap₂ (λ a b. a +ℤ b) here (dot_values f ks zs d.1 all.1 (omega arith) ∙ later)

row_term : (b : Bool) (c z : ℕ) → cond b (pos c) (pos 0) *ℤ pos z ≡ pos (cond b (c * z) 0)
row_term true c z = mul_posℤ c z
row_term false c z = omega (arith, ints)

column_step : (b : Bool) (c y r : ℕ) → cond b (c * y) 0 + c * r ≡ c * (cond b y 0 + r)
column_step true c y r = omega arith
column_step false c y r = omega arith

dual_row : (m b : ℕ) (h m' c t : ℤ) → m' ≡ pos m → c ≡ h → t ≡ pos b → (c *ℤ m') ≤ℤ t → (pos m *ℤ h) ≤ℤ pos b
dual_row m b h m' c t em ec et le =
    let a : c *ℤ m' ≡ h *ℤ pos m = ap₂ (λ u v. u *ℤ v) ec em in
    let b' : h *ℤ pos m ≡ pos m *ℤ h = rw (diff_of h, pos_diff m) (simp differences (diff-eq _ _ _ _ (omega arith))) in
    omega (arith, ints, a, b', et, le)

regroup : (a b c : ℤ) → (a *ℤ b) *ℤ c ≡ (a *ℤ c) *ℤ b
regroup a b c = rw (diff_of a, diff_of b, diff_of c) (simp differences (diff-eq _ _ _ _ (omega arith)))

cancel_den : (d : ℕ) (a b : ℤ) → 1 ≤ d → a *ℤ pos d ≡ b *ℤ pos d → a ≡ b
cancel_den d (pos a) (pos b) some e = ap pos (mul_cancel d a b some (omega (arith, ints, mul_posℤ a d, mul_posℤ b d, e)))
cancel_den d (pos a) (negsuc b) some e = absurd (omega (arith, ints, mul_posℤ a d, e, mul-le-mul some (let l : 1 ≤ suc b = omega arith in l)))
cancel_den d (negsuc a) (pos b) some e = absurd (omega (arith, ints, mul_posℤ b d, e, mul-le-mul some (let l : 1 ≤ suc a = omega arith in l)))
cancel_den d (negsuc a) (negsuc b) some e = let s = mul_cancel d (suc a) (suc b) some (omega (arith, ints, e)) in omega (arith, ints, s)

-- both have the value v
value_law : (m z s : ℕ) (o n d : ℤ) → 1 ≤ unsigned_abs d → d ≡ pos (unsigned_abs d) → o *ℤ d ≡ n *ℤ pos z → pos s *ℤ d ≡ n *ℤ pos m → pos m *ℤ o ≡ pos (z * s)
value_law m z s o n d some ed one two =
    cancel_den (unsigned_abs d) (pos m *ℤ o) (pos (z * s)) some
    (ap (λ t. (pos m *ℤ o) *ℤ t) (sym ed) ∙ mul_assocz (pos m) o d ∙ ap (λ t. pos m *ℤ t) one ∙ swap3 (pos m) n (pos z) ∙ ap (λ t. pos z *ℤ t) (sym two) ∙ sym (mul_assocz (pos z) (pos s) d) ∙ ap₂ (λ a b. a *ℤ b) (mul_posℤ z s) ed)
  where
    swap3 : (a b c : ℤ) → a *ℤ (b *ℤ c) ≡ c *ℤ (b *ℤ a)
    swap3 a b c = rw (diff_of a, diff_of b, diff_of c) (simp differences (diff-eq _ _ _ _ (omega arith)))

module _ (net : Network) (ok : IsNetwork net) (j : Junction) (good : GoodStages net j.stages) where
  -- a stage's row at the values
  pub row_is : (stage : List ℕ) (zs : List ℤ) → AllByRecursion (λ t. pos 0 ≤ℤ t) zs → length zs ≡ length (own net j) →
      dot (stage_row net (own net j) stage) zs ≡ pos (sum_by (λ k. cond (has stage k) (flow_of net k * values_of (own net j) zs k) 0) (own net j))
  row_is stage zs all l =
      let ks = own net j in
      dot_values (λ k. cond (has stage k) (pos (flow_of net k)) (pos 0)) ks zs (own_distinct net j) all l
      ∙ ints-same_at (λ k. cond (has stage k) (pos (flow_of net k)) (pos 0) *ℤ pos (values_of ks zs k)) (λ k. pos (cond (has stage k) (flow_of net k * values_of ks zs k) 0)) ks
      (each_in (λ k. cond (has stage k) (pos (flow_of net k)) (pos 0) *ℤ pos (values_of ks zs k) ≡ pos (cond (has stage k) (flow_of net k * values_of ks zs k) 0)) ks (λ k i. row_term (has stage k) (flow_of net k) (values_of ks zs k)))
      ∙ ints-pos (λ k. cond (has stage k) (flow_of net k * values_of ks zs k) 0) ks

  -- the rows bound the stages
  tops : (stages : List (List ℕ)) (zs : List ℤ) (z : ℕ) → GoodStages net stages → ((k : ℕ) → has (movement_numbers net) k ≡ true → list_any (λ stage. has stage k) stages ≡ true → has (own net j) k ≡ true) →
      AllByRecursion (λ t. pos 0 ≤ℤ t) zs → length zs ≡ length (own net j) → AllKept (map (stage_row net (own net j)) stages) (map (λ (t : List ℕ). pos 1) stages) zs (pos z) →
      greatest (map (sum_by (λ k. flow_of net k * values_of (own net j) zs k)) stages) ≤ z
  tops [] zs z g o all l kept = zero-le
  tops (stage ∷ stages) zs z g o all l kept =
      let Z = values_of (own net j) zs in
      let inside = each_in (λ k. has (own net j) k ≡ true) stage (λ k i. o k (at_in (λ k. has (movement_numbers net) k ≡ true) k stage i g.0.1) (or_left (has stage k) (list_any (λ stage. has stage k) stages) i)) in
      let s = spread_le (λ k. flow_of net k * Z k) stage (own net j) g.0.0 inside in
      let row = row_is stage zs all l in
      let le = kept.0 in
      let rest = tops stages zs z g.1 (λ k m i. o k m (or_right (has stage k) (list_any (λ stage. has stage k) stages) i)) all l kept.1 in
      let here : sum_by (λ k. flow_of net k * Z k) stage ≤ z = omega (arith, ints, s, row, le) in
      omega (arith, here, rest)

  -- a column of the program at the parts
  column_is : (k i : ℕ) (stages : List (List ℕ)) (ys : List ℤ) → i < length (own net j) → get_or (own net j) i 0 ≡ k → AllByRecursion (λ t. pos 0 ≤ℤ t) ys →
      dot (column i (map (stage_row net (own net j)) stages)) ys ≡ pos (flow_of net k * plain_parts_with stages (map unsigned_abs ys) k)
  column_is k i [] ys l e all = ap pos (sym (mul-zero (flow_of net k)))
  column_is k i (stage ∷ stages) [] l e all = ap pos (sym (mul-zero (flow_of net k)))
  column_is k i (stage ∷ stages) (y ∷ ys) l e all =
      let entry : get_or (stage_row net (own net j) stage) i (pos 0) ≡ cond (has stage k) (pos (flow_of net k)) (pos 0) =
      get_or-map (λ k. cond (has stage k) (pos (flow_of net k)) (pos 0)) (own net j) i 0 (pos 0) l ∙ ap (λ n. cond (has stage n) (pos (flow_of net n)) (pos 0)) e in
      let term : get_or (stage_row net (own net j) stage) i (pos 0) *ℤ y ≡ pos (cond (has stage k) (flow_of net k * unsigned_abs y) 0) =
      ap₂ (λ a b. a *ℤ b) entry (abs_is y all.0) ∙ row_term (has stage k) (flow_of net k) (unsigned_abs y) in
      ap₂ (λ a b. a +ℤ b) term (column_is k i stages ys l e all.1) ∙ ap pos (column_step (has stage k) (flow_of net k) (unsigned_abs y) (plain_parts_with stages (map unsigned_abs ys) k))

  ones : (stages : List (List ℕ)) (ys : List ℤ) → AllByRecursion (λ t. pos 0 ≤ℤ t) ys → length ys ≡ length stages → dot (map (λ (t : List ℕ). pos 1) stages) ys ≡ pos (sum_by (λ y. y) (map unsigned_abs ys))
  ones [] [] all l = refl
  ones [] (y ∷ ys) all l = absurd (omega arith)
  ones (stage ∷ stages) [] all l = absurd (omega arith)
  ones (stage ∷ stages) (y ∷ ys) all l =
      let r = ones stages ys all.1 (omega arith) in
      let a = abs_is y all.0 in
      omega (arith, ints, r, a, sum_by-cons (λ y. y) (unsigned_abs y) (map unsigned_abs ys))

  -- what the solver's contract gives is what the game takes
  pub solved_is : (h : ℕ → ℤ) (o : Optimum) → AreBest (junction_lp net j h) o.primal o.primal_den o.dual o.dual_den o.value → IsSolved net j h o
  solved_is h o best =
      let x = o.primal in
      let z = o.primal_den in
      let y = o.dual in
      let m = o.dual_den in
      let value = o.value in
      let ks = own net j in
      let Z = values_of ks x in
      let zn = positive_is z best.primal_den in
      let mn = positive_is m best.dual_den in
      let lx : length x ≡ length ks = best.primal_length ∙ length-map ks h in
      let ly : length y ≡ length j.stages = best.dual_length ∙ length-map j.stages (stage_row net ks) in
      let sum = sum_by (λ t. t) (map unsigned_abs y) in
      let rows = subst (λ (t : ℤ). AllKept (map (stage_row net ks) j.stages) (map (λ (t : List ℕ). pos 1) j.stages) x t) zn best.primal in
      let obj : dot (map h ks) x ≡ objective net j h Z = dot_values h ks x (own_distinct net j) best.primal_sign lx in
      let by = ones j.stages y best.dual_sign ly in
      let one : objective net j h Z *ℤ value.den ≡ value.num *ℤ z = ap (λ t. t *ℤ value.den) (sym obj) ∙ best.primal_value in
      let two : pos sum *ℤ value.den ≡ value.num *ℤ m = ap (λ t. t *ℤ value.den) (sym by) ∙ best.dual_value in
      record {
        values = best.primal_sign;
        den = best.primal_den;
        optimum = record {
          some = above_one z best.primal_den;
          primal = tops j.stages x (unsigned_abs z) good (λ k n i. has_filter (stands_in j) k (movement_numbers net) n i) best.primal_sign lx rows;
          whole = above_one m best.dual_den;
          lengths = length-map y unsigned_abs ∙ ly;
          dual = all_places (λ k. (pos (unsigned_abs m) *ℤ h k) ≤ℤ pos (flow_of net k * plain_parts_with j.stages (map unsigned_abs y) k)) 0 ks
              (λ i l.
              (let k = get_or ks i 0 in
              let c : get_or (map h ks) i (pos 0) ≡ h k = get_or-map h ks i 0 (pos 0) l in
              let d = best.dual i (omega (arith, length-map ks h)) in
              let col = column_is k i j.stages y l refl best.dual_sign in
              dual_row (unsigned_abs m) (flow_of net k * plain_parts_with j.stages (map unsigned_abs y) k) (h k) m (get_or (map h ks) i (pos 0)) (dot (column i (map (stage_row net ks) j.stages)) y) mn c col d));
          value = value_law (unsigned_abs m) (unsigned_abs z) sum (objective net j h Z) value.num value.den (above_one value.den best.value_den) (positive_is value.den best.value_den) (one ∙ ap (λ t. value.num *ℤ t) zn) (two ∙ ap (λ t. value.num *ℤ t) mn);
        };
        whole = best.dual_den;
        parts = best.dual_sign;
        value_den = best.value_den;
        value = two ∙ ap (λ t. value.num *ℤ t) mn;
      }
