-- a pivot keeps a tableau
use Rattle.std.proofs.Common.{◌≡◌, ◌≢◌, ℕ, suc, ◌+◌, ◌-◌, ◌<◌, ◌≤◌, List, [], ◌∷◌, length, take, drop, set, get_or, Option, Some, ℤ, pos, ◌-ℤ◌, ◌*ℤ◌, ◌≤ℤ◌, ap, sym, ◌∙◌, subst, arith, inl, inr, length-take-le, length-drop, length-append}
use Rattle.std.proofs.lemmas.Int.{ints}
use Rattle.std.proofs.lemmas.Bool.{cases_eq, cases_lt}
use Rattle.std.proofs.lemmas.Option.{option_and_then_some}
use Rattle.std.proofs.lemmas.List.{get_or-take, get_or-drop, get_or_append_left, get_or-append_right, get_or_at, get_or-set_same, get_or-set_other, length-set}
use Rattle.mp_num.specs.Divisor.{reduced}
use Rattle.mp_num.specs.Passing.{each}
use Rattle.mp_num.specs.Row.{entry, combined, applied}
use Rattle.mp_num.proofs.Ring.{diff_of, differences, diff-eq, pos_diff}
use Rattle.mp_num.proofs.OutcomeLemmas.{option_map_some, each_some}
use Rattle.mp_num.proofs.RowLemmas.{Combination, combined_some, reduced_multiple, zero_from_product, positive_product, positive_factor}
use Rattle.mp_num.proofs.OrderLemmas.{cases_le, product_not_negative, times_le, cancel_le, not_negative_factor}
use Rattle.mp_num.proofs.AppliedLemmas.{solves_after_combining, solves_before_combining, solves_reduced, solves_before_reduced}
use Rattle.mp_simplex.specs.Pivoting.{pivoted}
use Rattle.mp_simplex.specs.Tableau.{row_of, basic_of}
use Rattle.mp_simplex.proofs.TableauFacts.{IsTableau, IsLeast}

-- a pivot, row by row
pub record Pivoted (i j : ℕ) (rows next : List (List ℤ)) : Type 0 where
  pub height : length next ≡ length rows
  pub others : (r : ℕ) → r < length rows → r ≢ i → combined j (row_of rows i) (row_of rows r) ≡ Some (row_of next r)
  pub chosen : row_of next i ≡ reduced (row_of rows i)

pub pivoted_some : (i j : ℕ) (rows next : List (List ℤ)) → i < length rows → pivoted i j rows ≡ Some next → Pivoted i j rows next
unfolding pivoted
pivoted_some i j rows next h e =
    option_and_then_some _ (each (combined j (row_of rows i)) (take i rows)) next e (λ above ha e'.
    option_map_some _ (each (combined j (row_of rows i)) (drop (i + 1) rows)) next e' (λ below hb e''.
    (let f : List ℤ → Option (List ℤ) = combined j (row_of rows i) in
    let rest : List (List ℤ) = reduced (row_of rows i) ∷ below in
    let oa = each_some f (take i rows) above ha in
    let ob = each_some f (drop (i + 1) rows) below hb in
    let la : length above ≡ i = oa.same_length ∙ length-take-le i rows (omega arith) in
    let lb : length below ≡ length rows - (i + 1) = ob.same_length ∙ length-drop (i + 1) rows in
    let n : length next ≡ length above + length rest = ap length e'' ∙ length-append above rest in
    record {
      height = omega arith;
      others = λ r l apart. (elim (cases_lt r i) [
        | inl early ↦ ap f (sym (get_or-take i rows r [] early)) ∙ oa.at r [] [] (omega (arith, oa.same_length)) ∙ ap Some (sym (ap (λ s. get_or s r []) e'' ∙ get_or_append_left above rest [] r (omega arith)))
        | inr late ↦ (let k : ℕ = r - (i + 1) in
            let step : i + 1 + k ≡ r = omega arith in
            let one : r - i ≡ suc k = omega arith in
            ap f (sym (get_or-drop (i + 1) rows k [] ∙ ap (λ m. get_or rows m []) step)) ∙ ob.at k [] [] (omega (arith, ob.same_length))
            ∙ ap Some (sym (ap (λ s. get_or s r []) e'' ∙ get_or-append_right above rest i r [] la late ∙ ap (λ m. get_or rest m []) one)))
      ]);
      chosen = ap (λ s. get_or s i []) e'' ∙ get_or_at above (reduced (row_of rows i)) below [] i la;
    })))

-- a combination keeps what both rows have
keeps_law : (p a x y : ℤ) → y ≡ pos 0 → p *ℤ x -ℤ a *ℤ y ≡ p *ℤ x
keeps_law p a x y e = ap (λ y. p *ℤ x -ℤ a *ℤ y) e ∙ omega (arith, ints)

zero_law : (p : ℤ) → p *ℤ pos 0 ≡ pos 0
zero_law p = omega (arith, ints)

pub keeps_zero : (j k : ℕ) (pivot row out : List ℤ) (p a : ℤ) (g : ℕ) → Combination j pivot row out p a g → entry pivot k ≡ pos 0 → entry row k ≡ pos 0 → entry out k ≡ pos 0
keeps_zero j k pivot row out p a g c hp hr =
    zero_from_product (pos g) (entry out k) (omega (arith, ints, c.above_g)) (c.at k ∙ keeps_law p a (entry row k) (entry pivot k) hp ∙ ap (λ x. p *ℤ x) hr ∙ zero_law p)

pub keeps_positive : (j k : ℕ) (pivot row out : List ℤ) (p a : ℤ) (g : ℕ) → Combination j pivot row out p a g → entry pivot k ≡ pos 0 → pos 1 ≤ℤ entry row k → pos 1 ≤ℤ entry out k
keeps_positive j k pivot row out p a g c hp hr =
    positive_factor g (entry out k) (subst (λ (t : ℤ). pos 1 ≤ℤ t) (sym (c.at k ∙ keeps_law p a (entry row k) (entry pivot k) hp)) (positive_product p (entry row k) c.above_p hr))

swap_outer : (p c a : ℤ) → p *ℤ (c *ℤ a) ≡ c *ℤ (p *ℤ a)
swap_outer p c a = rw (diff_of p, diff_of c, diff_of a) (simp differences (diff-eq _ _ _ _ (omega arith)))

pull_last : (c a q : ℤ) → c *ℤ (a *ℤ q) ≡ q *ℤ (a *ℤ c)
pull_last c a q = rw (diff_of c, diff_of a, diff_of q) (simp differences (diff-eq _ _ _ _ (omega arith)))

pull_second : (p b q : ℤ) → p *ℤ (b *ℤ q) ≡ q *ℤ (p *ℤ b)
pull_second p b q = rw (diff_of p, diff_of b, diff_of q) (simp differences (diff-eq _ _ _ _ (omega arith)))

turn_law : (a c : ℤ) → (pos 0 -ℤ a) *ℤ c ≡ pos 0 -ℤ a *ℤ c
turn_law a c = rw (pos_diff 0, diff_of a, diff_of c) (simp differences (diff-eq _ _ _ _ (omega arith)))

less_from : (u v w : ℤ) → pos 0 ≤ℤ u → pos 0 ≤ℤ v → v ≡ pos 0 -ℤ w → w ≤ℤ u
less_from u v w hu hv e = omega (arith, ints, e)

-- the factor of the pivot, by the ratio test
ratio_kept : (p a q x b c : ℤ) → pos 1 ≤ℤ p → pos 1 ≤ℤ q → p *ℤ x ≡ a *ℤ q → pos 0 ≤ℤ b → pos 0 ≤ℤ c → (pos 1 ≤ℤ x → (c *ℤ x) ≤ℤ (b *ℤ q)) → (a *ℤ c) ≤ℤ (p *ℤ b)
ratio_kept p a q x b c hp hq e hb hc h = elim (cases_le (pos 1) x) [
  | inl up ↦ (let scaled : (p *ℤ (c *ℤ x)) ≤ℤ (p *ℤ (b *ℤ q)) = times_le p (c *ℤ x) (b *ℤ q) (omega (arith, ints)) (h up) in
      let left : p *ℤ (c *ℤ x) ≡ q *ℤ (a *ℤ c) = swap_outer p c x ∙ ap (λ t. c *ℤ t) e ∙ pull_last c a q in
      let right : p *ℤ (b *ℤ q) ≡ q *ℤ (p *ℤ b) = pull_second p b q in
      cancel_le q (a *ℤ c) (p *ℤ b) hq (subst (λ (t : ℤ). t ≤ℤ (q *ℤ (p *ℤ b))) left (subst (λ (t : ℤ). (p *ℤ (c *ℤ x)) ≤ℤ t) right scaled)))
  | inr down ↦ (let low : a ≤ℤ pos 0 = factor_low p a q x hp hq e (omega (arith, ints)) in
      less_from (p *ℤ b) ((pos 0 -ℤ a) *ℤ c) (a *ℤ c) (product_not_negative p b (omega (arith, ints)) hb) (product_not_negative (pos 0 -ℤ a) c (omega (arith, ints)) hc) (turn_law a c))
]
  where
    factor_low : (p a q x : ℤ) → pos 1 ≤ℤ p → pos 1 ≤ℤ q → p *ℤ x ≡ a *ℤ q → x ≤ℤ pos 0 → a ≤ℤ pos 0
    factor_low p a q x hp hq e l = elim (cases_le a (pos 0)) [
      | inl fine ↦ fine
      | inr above ↦ (let one : pos 1 ≤ℤ (a *ℤ q) = positive_product a q (omega (arith, ints)) hq in
          let most : (p *ℤ x) ≤ℤ (p *ℤ pos 0) = times_le p x (pos 0) (omega (arith, ints)) l in
          absurd (refuted (a *ℤ q) (p *ℤ x) (p *ℤ pos 0) one most e (zero_law p)))
    ]
      where
        refuted : (t u v : ℤ) → pos 1 ≤ℤ t → u ≤ℤ v → u ≡ t → v ≡ pos 0 → ⊥
        refuted t u v h l e z = omega (arith, ints)

cleared_law : (g : ℤ) (u v z : ℤ) → g *ℤ z ≡ u -ℤ v → z ≡ pos 0 → u ≡ v
cleared_law g u v z e h = let none : g *ℤ z ≡ pos 0 = ap (λ t. g *ℤ t) h ∙ zero_law g in omega (arith, ints)

pub keeps_right_side : (j right : ℕ) (pivot row out : List ℤ) (p a : ℤ) (g : ℕ) → Combination j pivot row out p a g → pos 1 ≤ℤ entry pivot j → pos 0 ≤ℤ entry row right → pos 0 ≤ℤ entry pivot right →
    (pos 1 ≤ℤ entry row j → (entry pivot right *ℤ entry row j) ≤ℤ (entry row right *ℤ entry pivot j)) → pos 0 ≤ℤ entry out right
keeps_right_side j right pivot row out p a g c hq hb hc h =
    let same : p *ℤ entry row j ≡ a *ℤ entry pivot j = cleared_law (pos g) _ _ (entry out j) (c.at j) c.cleared in
    let most : (a *ℤ entry pivot right) ≤ℤ (p *ℤ entry row right) = ratio_kept p a (entry pivot j) (entry row j) (entry row right) (entry pivot right) c.above_p hq same hb hc h in
    not_negative_factor (pos g) (entry out right) (omega (arith, ints, c.above_g)) (rw (c.at right) (difference (p *ℤ entry row right) (a *ℤ entry pivot right) most))
  where
    difference : (u v : ℤ) → v ≤ℤ u → pos 0 ≤ℤ (u -ℤ v)
    difference u v h = omega (arith, ints)

-- what is left of a row by a divisor
reduced_zero : (row : List ℤ) (k : ℕ) → entry row k ≡ pos 0 → entry (reduced row) k ≡ pos 0
reduced_zero row k h = let m = reduced_multiple row in zero_from_product (pos m.0) _ (omega (arith, ints, m.1.above)) (sym (m.1.at k) ∙ h)

reduced_positive : (row : List ℤ) (k : ℕ) → pos 1 ≤ℤ entry row k → pos 1 ≤ℤ entry (reduced row) k
reduced_positive row k h = let m = reduced_multiple row in positive_factor m.0 _ (subst (λ (t : ℤ). pos 1 ≤ℤ t) (m.1.at k) h)

reduced_right : (row : List ℤ) (k : ℕ) → pos 0 ≤ℤ entry row k → pos 0 ≤ℤ entry (reduced row) k
reduced_right row k h = let m = reduced_multiple row in not_negative_factor (pos m.0) _ (omega (arith, ints, m.1.above)) (subst (λ (t : ℤ). pos 0 ≤ℤ t) (m.1.at k) h)

pub length-reduced : (row : List ℤ) → length (reduced row) ≡ length row
length-reduced row = (reduced_multiple row).1.same_length

pub pivot_keeps : (height right j i : ℕ) (initial rows next : List (List ℤ)) (basis : List ℕ) → IsTableau height right initial rows basis → IsLeast height right j rows i →
    1 ≤ j → j < right → pivoted i j rows ≡ Some next → IsTableau height right initial next (set basis i j)
pivot_keeps height right j i initial rows next basis t least low high e =
    let n : length rows ≡ height = t.rows_length in
    let v = pivoted_some i j rows next (omega (arith, least.inside)) e in
    let made : (r : ℕ) → r < height → r ≢ i → (p : ℤ) × (a : ℤ) × (g : ℕ) × Combination j (row_of rows i) (row_of rows r) (row_of next r) p a g = λ r l apart.
    combined_some j (row_of rows i) (row_of rows r) (row_of next r) (t.widths r l ∙ sym (t.widths i least.inside)) least.positive (v.others r (omega arith) apart) in
    let here : basic_of (set basis i j) i ≡ j = get_or-set_same basis i j 0 (omega (arith, t.basis_length, least.inside)) in
    let there : (r : ℕ) → r ≢ i → basic_of (set basis i j) r ≡ basic_of basis r = λ r apart. get_or-set_other basis i r j 0 apart in
    let is_zero : ℕ → ℕ → Type 0 = λ s k. entry (row_of next s) k ≡ pos 0 in
    let old_clear : (r s : ℕ) → r < height → s < height → r ≢ s → r ≢ i → is_zero s (basic_of basis r) = λ r s lr ls apart other.
    (elim (cases_eq s i) [
      | inl same ↦ rw (same, v.chosen) (reduced_zero (row_of rows i) (basic_of basis r) (t.clear r i lr least.inside other))
      | inr differ ↦ (let m = made s ls differ in keeps_zero j (basic_of basis r) (row_of rows i) (row_of rows s) (row_of next s) m.0 m.1 m.2 m.3 (t.clear r i lr least.inside other) (t.clear r s lr ls apart))
    ]) in
    record {
      rows_length = v.height ∙ n;
      widths = λ r l. (elim (cases_eq r i) [
        | inl same ↦ rw (same, v.chosen) (length-reduced (row_of rows i) ∙ t.widths i least.inside)
        | inr differ ↦ (made r l differ).3.same_length ∙ t.widths r l
      ]);
      basis_length = length-set basis i j ∙ t.basis_length;
      first = there 0 (omega (arith, least.above)) ∙ t.first;
      inside = λ r one l. (elim (cases_eq r i) [
        | inl same ↦ rw (same, here) (low, high)
        | inr differ ↦ rw (there r differ) (t.inside r one l)
      ]);
      positive = λ r l. (elim (cases_eq r i) [
        | inl same ↦ rw (same, here, v.chosen) (reduced_positive (row_of rows i) j least.positive)
        | inr differ ↦ (let m = made r l differ in rw (there r differ) (keeps_positive j (basic_of basis r) (row_of rows i) (row_of rows r) (row_of next r) m.0 m.1 m.2 m.3 (t.clear r i l least.inside differ) (t.positive r l)))
      ]);
      clear = λ r s lr ls apart. (elim (cases_eq r i) [
        | inl same ↦ (let m = made s ls (omega arith) in rw (same, here) m.3.cleared)
        | inr differ ↦ rw (there r differ) (old_clear r s lr ls apart differ)
      ]);
      right_sides = λ r one l. (elim (cases_eq r i) [
        | inl same ↦ rw (same, v.chosen) (reduced_right (row_of rows i) right (t.right_sides i least.above least.inside))
        | inr differ ↦ (let m = made r l differ in keeps_right_side j right (row_of rows i) (row_of rows r) (row_of next r) m.0 m.1 m.2 m.3 least.positive (t.right_sides r one l) (t.right_sides i least.above least.inside) (least.least r one l))
      ]);
      forth = λ y h r l. (let old = t.forth y h in elim (cases_eq r i) [
        | inl same ↦ rw (same, v.chosen) (solves_reduced (right + 1) y (row_of rows i) (old i least.inside))
        | inr differ ↦ (let m = made r l differ in solves_after_combining (right + 1) j y (row_of rows i) (row_of rows r) (row_of next r) m.0 m.1 m.2 m.3 (old i least.inside) (old r l))
      ]);
      back = λ y h. (let pivot_solved : applied (right + 1) (row_of rows i) y ≡ pos 0 = solves_before_reduced (right + 1) y (row_of rows i) (subst (λ (s : List ℤ). applied (right + 1) s y ≡ pos 0) v.chosen (h i least.inside)) in
          t.back y (λ r l. (elim (cases_eq r i) [
            | inl same ↦ rw same pivot_solved
            | inr differ ↦ (let m = made r l differ in solves_before_combining (right + 1) j y (row_of rows i) (row_of rows r) (row_of next r) m.0 m.1 m.2 m.3 pivot_solved (h r l))
          ])));
    }
