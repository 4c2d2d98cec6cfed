-- What the check of an optimum says.
use Rattle.std.proofs.Common.{◌≡◌, ℕ, ◌+◌, ◌*◌, ◌<◌, List, length, Option, Some, None, option_and_then, ℤ, pos, ◌+ℤ◌, ◌*ℤ◌, ◌≤ℤ◌, Bool, true, false, not, ◌&&◌, refl, ap, ap₂, sym, ◌∙◌, subst, arith, rules, int_lt, int_eq, position, add-one, inl, inr, ◌↔◌, IsTrue, IfSome}
use Rattle.std.proofs.lemmas.Int.{ints}
use Rattle.std.proofs.lemmas.Bool.{cases_eq}
use Rattle.std.proofs.lemmas.Option.{option_and_then_some, same_Some}
use Rattle.mp_num.specs.Checked.{within}
use Rattle.mp_num.specs.Row.{entry}
use Rattle.mp_num.specs.Sums.{total}
use Rattle.mp_num.proofs.CheckedLemmas.{within_some}
use Rattle.mp_num.proofs.OutcomeLemmas.{option_map_some, run_keeps, bool_cases}
use Rattle.mp_simplex.specs.declared.Lp.{Lp}
use Rattle.mp_simplex.specs.declared.Optimum.{Optimum}
use Rattle.mp_simplex.specs.Meeting.{BeginsAtZero, IsOptimum, FitsProgram}
use Rattle.mp_simplex.specs.Optimal.{row_sum, column_sum, product}
use Rattle.mp_simplex.specs.Checking.{product_added, plus_term, dot, at_most, row_holds, at_least, column_holds, both, and_then, all_hold, has_value, none_negative, checked}
use Rattle.mp_simplex.specs.Pivoting.{negative}
use Rattle.mp_simplex.proofs.TurnLemmas.{position_none}
use Rattle.mp_num.proofs.RowLemmas.{eq_from_int_eq}
use Rattle.std.proofs.lemmas.List.Quantifiers.{position-Some}

opened : (s x y q : ℤ) → product_added s x y ≡ Some q → option_and_then (λ t. within (s +ℤ t)) (within (x *ℤ y)) ≡ Some q
unfolding product_added
opened s x y q e = e

pub dot_some : (n : ℕ) (u v : ℕ → ℤ) (s : ℤ) → dot n u v ≡ Some s → s ≡ total n (λ k. u k *ℤ v k)
unfolding dot
dot_some n u v s e =
    let whole : s ≡ total (0 + n) (λ k. u k *ℤ v k) = run_keeps (plus_term u v) (λ k s. s ≡ total k (λ k. u k *ℤ v k)) n 0 (pos 0) s refl
    (λ k p q one h i f. option_and_then_some _ (within (u k *ℤ v k)) q (opened p (u k) (v k) q f) (λ t ht f'. within_some _ q f' ∙ ap₂ (λ a b. a +ℤ b) i (within_some _ t ht) ∙ sym (ap (λ m. total m (λ k. u k *ℤ v k)) (add-one k)))) e in
    let plain : 0 + n ≡ n = omega arith in whole ∙ ap (λ m. total m (λ k. u k *ℤ v k)) plain

-- a flag that tells whether a fact holds
pub record Tells (flag : Bool) (P : Type 0) : Type 0 where
  pub yes : flag ≡ true → P
  pub no : P → flag ≡ true

pub at_most_some : (s p : Option ℤ) (u v : ℤ) (flag : Bool) → ((t : ℤ) → s ≡ Some t → t ≡ u) → ((t : ℤ) → p ≡ Some t → t ≡ v) → at_most s p ≡ Some flag → Tells flag (u ≤ℤ v)
at_most_some s p u v flag hs hp e =
    option_and_then_some _ s flag e (λ t ht e'. option_map_some _ p flag e' (λ r hr e''.
    (let same : flag ≡ not (int_lt v u) = e'' ∙ ap₂ (λ a b. not (int_lt b a)) (hs t ht) (hp r hr) in
    record { yes = λ f. tell u v (sym same ∙ f); no = λ h. same ∙ back u v h })))
  where
    tell : (u v : ℤ) → not (int_lt v u) ≡ true → u ≤ℤ v
    tell u v e = elim (bool_cases (int_lt v u)) [ inl low ↦ absurd (refuted (int_lt v u) low e) | inr high ↦ omega (arith, ints, high) ]
      where
        refuted : (b : Bool) → b ≡ true → not b ≡ true → ⊥
        refuted true p q = cc
        refuted false p q = cc

    back : (u v : ℤ) → u ≤ℤ v → not (int_lt v u) ≡ true
    back u v h = let low : int_lt v u ≡ false = grind (arith, ints) in rw low refl

-- all of a run of flags
pub all_hold_some : (f : ℕ → Option Bool) (P : ℕ → Type 0) (count : ℕ) (flag : Bool) → ((k : ℕ) (b : Bool) → k < count → f k ≡ Some b → Tells b (P k)) → all_hold f count ≡ Some flag → Tells flag ((k : ℕ) → k < count → P k)
unfolding all_hold
all_hold_some f P count flag h e =
    let whole : Tells flag ((k : ℕ) → k < 0 + count → P k) = run_keeps (and_then f) (λ n ok. Tells ok ((k : ℕ) → k < n → P k)) count 0 true flag (record { yes = λ _ k l. absurd (omega arith); no = λ _. refl })
    (λ n p q one l t g. option_map_some _ (f n) q g (λ b hb g'.
    (let s = h n b (omega arith) hb in
    record {
      yes = λ y k m. (let both = parts p b (sym g' ∙ y) in elim (cases_eq k n) [ inl same ↦ subst P (sym same) (s.yes both.1) | inr other ↦ t.yes both.0 k (omega arith) ]);
      no = λ a. g' ∙ ap₂ (λ x y. x && y) (t.no (λ k m. a k (omega arith))) (s.no (a n (omega arith)));
    }))) e in
    let plain : 0 + count ≡ count = omega arith in
    record { yes = λ y k l. whole.yes y k (omega arith); no = λ a. whole.no (λ k l. a k (omega arith)) }
  where
    parts : (p b : Bool) → (p && b) ≡ true → (p ≡ true) × (b ≡ true)
    parts true b e = (refl, e)
    parts false b e = absurd (cc)

pub at_least_some : (s p : Option ℤ) (u v : ℤ) (flag : Bool) → ((t : ℤ) → s ≡ Some t → t ≡ u) → ((t : ℤ) → p ≡ Some t → t ≡ v) → at_least s p ≡ Some flag → Tells flag (v ≤ℤ u)
at_least_some s p u v flag hs hp e =
    option_and_then_some _ s flag e (λ t ht e'. option_map_some _ p flag e' (λ r hr e''.
    (let same : flag ≡ not (int_lt u v) = e'' ∙ ap₂ (λ a b. not (int_lt a b)) (hs t ht) (hp r hr) in
    record { yes = λ f. tell u v (sym same ∙ f); no = λ h. same ∙ back u v h })))
  where
    tell : (u v : ℤ) → not (int_lt u v) ≡ true → v ≤ℤ u
    tell u v e = elim (bool_cases (int_lt u v)) [ inl low ↦ absurd (refuted (int_lt u v) low e) | inr high ↦ omega (arith, ints, high) ]
      where
        refuted : (b : Bool) → b ≡ true → not b ≡ true → ⊥
        refuted true p q = cc
        refuted false p q = cc

    back : (u v : ℤ) → v ≤ℤ u → not (int_lt u v) ≡ true
    back u v h = let low : int_lt u v ≡ false = grind (arith, ints) in rw low refl

rows_some : (m n : ℕ) (a b x : List ℤ) (d : ℤ) (flag : Bool) → all_hold (row_holds n a b x d) m ≡ Some flag → Tells flag ((i : ℕ) → i < m → row_sum n a x i ≤ℤ (entry b i *ℤ d))
rows_some m n a b x d flag e = all_hold_some (row_holds n a b x d) (λ i. row_sum n a x i ≤ℤ (entry b i *ℤ d)) m flag
    (λ i h l q. at_most_some (dot n (λ k. entry a (i * n + k)) (entry x)) (within (entry b i *ℤ d)) (row_sum n a x i) (entry b i *ℤ d) h (λ t s. dot_some n (λ k. entry a (i * n + k)) (entry x) t s) (λ t s. within_some _ t s) q) e

columns_some : (m n : ℕ) (a c y : List ℤ) (d : ℤ) (flag : Bool) → all_hold (column_holds m n a c y d) n ≡ Some flag → Tells flag ((k : ℕ) → k < n → (entry c k *ℤ d) ≤ℤ column_sum m n a y k)
columns_some m n a c y d flag e = all_hold_some (column_holds m n a c y d) (λ k. (entry c k *ℤ d) ≤ℤ column_sum m n a y k) n flag
    (λ k h l q. at_least_some (dot m (λ i. entry a (i * n + k)) (entry y)) (within (entry c k *ℤ d)) (column_sum m n a y k) (entry c k *ℤ d) h (λ t s. dot_some m (λ i. entry a (i * n + k)) (entry y) t s) (λ t s. within_some _ t s) q) e

value_some : (n : ℕ) (c x : List ℤ) (d num den : ℤ) (flag : Bool) → has_value n c x d num den ≡ Some flag → Tells flag (product n c x *ℤ den ≡ num *ℤ d)
unfolding has_value
value_some n c x d num den flag e =
    option_and_then_some _ (dot n (entry c) (entry x)) flag e (λ s hs e'.
    option_and_then_some _ (within (s *ℤ den)) flag e' (λ l hl e''.
    option_map_some _ (within (num *ℤ d)) flag e'' (λ r hr e3.
    (let el : l ≡ product n c x *ℤ den = within_some _ l hl ∙ ap (λ t. t *ℤ den) (dot_some n (entry c) (entry x) s hs) in
    let same : flag ≡ int_eq (product n c x *ℤ den) (num *ℤ d) = e3 ∙ ap₂ (λ a b. int_eq a b) el (within_some _ r hr) in
    record { yes = λ f. eq_from_int_eq _ _ (sym same ∙ f); no = λ h. same ∙ equal (product n c x *ℤ den) (num *ℤ d) h }))))
  where
    equal : (u v : ℤ) → u ≡ v → int_eq u v ≡ true
    equal u v e = grind (arith, e)

signs_some : (n : ℕ) (x : List ℤ) → length x ≡ n → Tells (none_negative x) ((k : ℕ) → k < n → pos 0 ≤ℤ entry x k)
signs_some n x l = at (position negative x) refl
  where
    down : (v : ℤ) → negative v ≡ true → pos 0 ≤ℤ v → ⊥
    down v e h = omega (arith, ints, e)

    up : (v : ℤ) → negative v ≡ false → pos 0 ≤ℤ v
    up v e = omega (arith, ints, e)

    at : (o : Option ℕ) → position negative x ≡ o → Tells (none_negative x) ((k : ℕ) → k < n → pos 0 ≤ℤ entry x k)
    at None e = record { yes = λ _ k h. up (entry x k) (position_none negative x k (pos 0) e (omega arith)); no = λ _. rw e refl }
    at (Some i) e = let f = position-Some negative x i (pos 0) e in
        record { yes = λ t. absurd (wrong (rw e at t)); no = λ h. absurd (down (entry x i) f.1 (h i (omega (arith, f.0)))) }
      where
        wrong : false ≡ true → ⊥
        wrong e = cc

-- Two tests together tell whether both facts hold.
both_some : (s t : Option Bool) (flag : Bool) (P Q : Type 0) → ((b : Bool) → s ≡ Some b → Tells b P) → ((b : Bool) → t ≡ Some b → Tells b Q) → both s t ≡ Some flag → Tells flag (P × Q)
both_some s t flag P Q hs ht e =
    option_and_then_some _ s flag e (λ p hp e'. option_map_some _ t flag e' (λ q hq e''.
    (let u = hs p hp in
    let v = ht q hq in
    record {
      yes = λ f. (let w = parts p q (sym e'' ∙ f) in (u.yes w.0, v.yes w.1));
      no = λ h. e'' ∙ ap₂ (λ x y. x && y) (u.no h.0) (v.no h.1);
    })))
  where
    parts : (p b : Bool) → (p && b) ≡ true → (p ≡ true) × (b ≡ true)
    parts true b e = (refl, e)
    parts false b e = absurd (cc)

-- The check tells exactly whether both sides are feasible and have the value.
pub checked_some : (lp : Lp) (o : Optimum) (flag : Bool) → FitsProgram lp o → pos 1 ≤ℤ o.value.den → checked lp o ≡ Some flag → Tells flag (IsOptimum lp o)
unfolding checked
checked_some lp o flag f hv e =
    let t = both_some _ _ flag _ _
    (λ b h. both_some _ _ b _ _
    (λ b h. rows_some lp.rows lp.cols lp.a lp.b o.primal o.primal_den b h)
    (λ b h. columns_some lp.rows lp.cols lp.a lp.c o.dual o.dual_den b h) h)
    (λ b h. both_some _ _ b _ _
    (λ b h. both_some _ _ b _ _
    (λ b h. value_some lp.cols lp.c o.primal o.primal_den o.value.num o.value.den b h)
    (λ b h. value_some lp.rows lp.b o.dual o.dual_den o.value.num o.value.den b h) h)
    (λ b h. signs lp.cols lp.rows o.primal o.dual f.primal f.dual b h) h) e in
    record {
      yes = λ y. (let w = t.yes y in
          record {
            primal = record { size = f.primal; positive = f.primal_den; not_negative = w.1.1.0; rows = w.0.0 };
            dual = record { size = f.dual; positive = f.dual_den; not_negative = w.1.1.1; columns = w.0.1 };
            value_positive = hv;
            primal_value = w.1.0.0;
            dual_value = w.1.0.1;
          });
      no = λ w. t.no ((w.primal.rows, w.dual.columns), ((w.primal_value, w.dual_value), (w.primal.not_negative, w.dual.not_negative)));
    }
  where
    parts : (p b : Bool) → (p && b) ≡ true → (p ≡ true) × (b ≡ true)
    parts true b e = (refl, e)
    parts false b e = absurd (cc)

    signs : (n m : ℕ) (x y : List ℤ) → length x ≡ n → length y ≡ m → (b : Bool) → Some (none_negative x && none_negative y) ≡ Some b →
        Tells b (((k : ℕ) → k < n → pos 0 ≤ℤ entry x k) × ((k : ℕ) → k < m → pos 0 ≤ℤ entry y k))
    signs n m x y lx ly b e =
        let u = signs_some n x lx in
        let v = signs_some m y ly in
        let same : (none_negative x && none_negative y) ≡ b = same_Some _ _ e in
        record {
          yes = λ f. (let w = parts (none_negative x) (none_negative y) (same ∙ f) in (u.yes w.0, v.yes w.1));
          no = λ h. sym same ∙ ap₂ (λ x y. x && y) (u.no h.0) (v.no h.1);
        }

-- The check by its parts.
pub checked_by : (lp : Lp) (o : Optimum) (rows columns first second : Option Bool) (p q : Bool) → rows ≡ all_hold (row_holds lp.cols lp.a lp.b o.primal o.primal_den) lp.rows →
    columns ≡ all_hold (column_holds lp.rows lp.cols lp.a lp.c o.dual o.dual_den) lp.cols → first ≡ has_value lp.cols lp.c o.primal o.primal_den o.value.num o.value.den →
    second ≡ has_value lp.rows lp.b o.dual o.dual_den o.value.num o.value.den → p ≡ none_negative o.primal → q ≡ none_negative o.dual →
    both (both rows columns) (both (both first second) (both (Some p) (Some q))) ≡ checked lp o
unfolding checked
checked_by lp o rows columns first second p q er ec ef es ep eq = rw (er, ec, ef, es, ep, eq) refl

-- A flag that tells a fact is true exactly where the fact holds.
tells_iff : (flag : Bool) (P : Type 0) → Tells flag P → IsTrue flag ↔ P
tells_iff flag P t = (t.yes, t.no)

pub check_means : (lp : Lp) (o : Optimum) (r : Option Bool) → FitsProgram lp o → pos 1 ≤ℤ o.value.den → r ≡ checked lp o → IfSome r (λ holds. IsTrue holds ↔ IsOptimum lp o)
check_means lp o None f h e = search rules
check_means lp o (Some b) f h e = tells_iff b (IsOptimum lp o) (checked_some lp o b f h (sym e))

-- A program begins at 0 where none of the numbers that its right sides are is negative.
pub begins_as : (lp : Lp) (b : List ℤ) → lp.b ≡ b → length b ≡ lp.rows → none_negative b ≡ true → BeginsAtZero lp
begins_as lp b e l h = record { at = λ i q. rw e ((signs_some lp.rows b l).yes h i q) }
