-- from the stated calculation to what its outcome means
use Rattle.std.proofs.Common.{◌≡◌, ◌≢◌, ℕ, suc, ◌+◌, ◌-◌, ◌*◌, ◌<◌, ◌≤◌, List, [], length, Some, ℤ, pos, ◌-ℤ◌, ◌≤ℤ◌, true, false, refl, ap, sym, ◌∙◌, arith, inl, inr, nat_eq, nat_lt}
use Rattle.std.proofs.lemmas.Int.{ints}
use Rattle.std.proofs.lemmas.Bool.{cases_eq, cases_lt}
use Rattle.std.proofs.lemmas.Option.{same_Some}
use Rattle.std.proofs.lemmas.List.{get_or_past}
use Rattle.mp_num.specs.Passing.{counting}
use Rattle.mp_num.specs.Row.{entry}
use Rattle.mp_num.proofs.CheckedLemmas.{within_some}
use Rattle.mp_num.proofs.OutcomeLemmas.{each_some, length-counting, get_or-counting}
use Rattle.mp_simplex.specs.Tableau.{row_of, basic_of}
use Rattle.mp_simplex.specs.Outcome.{cost_cell, slack_cell, cell, first_row, first_rows, first_basis}
use Rattle.mp_simplex.proofs.TableauFacts.{IsTableau, IsInitial}

-- ---- the first table
cost_first : (n : ℕ) (c : List ℤ) (v : ℤ) → cost_cell n c 0 ≡ Some v → v ≡ pos 1
unfolding cost_cell
cost_first n c v e = sym (same_Some _ _ e)

cost_column : (n : ℕ) (c : List ℤ) (k : ℕ) (v : ℤ) → k < n → cost_cell n c (1 + k) ≡ Some v → v ≡ pos 0 -ℤ entry c k
unfolding cost_cell
cost_column n c k v h e =
    let p : nat_eq (1 + k) 0 ≡ false = grind arith in let q : nat_lt (1 + k) (1 + n) ≡ true = grind arith in let back : 1 + k - 1 ≡ k = omega arith in
    within_some _ v (rw (p, q, back) at e)

cost_rest : (n : ℕ) (c : List ℤ) (k : ℕ) (v : ℤ) → 1 + n ≤ k → cost_cell n c k ≡ Some v → v ≡ pos 0
unfolding cost_cell
cost_rest n c k v h e =
    let p : nat_eq k 0 ≡ false = grind arith in let q : nat_lt k (1 + n) ≡ false = grind arith in sym (same_Some _ _ (rw (p, q) at e))

slack_first : (m n : ℕ) (a b : List ℤ) (i : ℕ) → slack_cell m n a b i 0 ≡ pos 0
unfolding slack_cell
slack_first m n a b i = refl

slack_column : (m n : ℕ) (a b : List ℤ) (i k : ℕ) → k < n → slack_cell m n a b i (1 + k) ≡ entry a (i * n + k)
unfolding slack_cell
slack_column m n a b i k h =
    let p : nat_eq (1 + k) 0 ≡ false = grind arith in let q : nat_lt (1 + k) (1 + n) ≡ true = grind arith in let back : 1 + k - 1 ≡ k = omega arith in rw (p, q, back) refl

slack_own : (m n : ℕ) (a b : List ℤ) (i : ℕ) → i < m → slack_cell m n a b i (1 + n + i) ≡ pos 1
unfolding slack_cell
slack_own m n a b i h =
    let p : nat_eq (1 + n + i) 0 ≡ false = grind arith in let q : nat_lt (1 + n + i) (1 + n) ≡ false = grind arith in let r : nat_lt (1 + n + i) (1 + n + m) ≡ true = grind arith in
    let s : nat_eq (1 + n + i) (1 + n + i) ≡ true = grind arith in rw (p, q, r, s) refl

slack_other : (m n : ℕ) (a b : List ℤ) (i l : ℕ) → l < m → l ≢ i → slack_cell m n a b i (1 + n + l) ≡ pos 0
unfolding slack_cell
slack_other m n a b i l h apart =
    let p : nat_eq (1 + n + l) 0 ≡ false = grind arith in let q : nat_lt (1 + n + l) (1 + n) ≡ false = grind arith in let r : nat_lt (1 + n + l) (1 + n + m) ≡ true = grind arith in
    let s : nat_eq (1 + n + l) (1 + n + i) ≡ false = grind (arith, apart) in rw (p, q, r, s) refl

slack_right : (m n : ℕ) (a b : List ℤ) (i : ℕ) → slack_cell m n a b i (1 + n + m) ≡ entry b i
unfolding slack_cell
slack_right m n a b i =
    let p : nat_eq (1 + n + m) 0 ≡ false = grind arith in let q : nat_lt (1 + n + m) (1 + n) ≡ false = grind arith in let r : nat_lt (1 + n + m) (1 + n + m) ≡ false = grind arith in rw (p, q, r) refl

-- each cell of the first table
first_at : (m n : ℕ) (a b c : List ℤ) (rows : List (List ℤ)) → first_rows m n a b c ≡ Some rows →
    (length rows ≡ 1 + m) × ((r : ℕ) → r < 1 + m → (length (row_of rows r) ≡ (1 + n + m) + 1) × ((k : ℕ) → k < (1 + n + m) + 1 → cell m n a b c r k ≡ Some (entry (row_of rows r) k)))
unfolding first_rows first_row
first_at m n a b c rows e =
    let w : ℕ = (1 + n + m) + 1 in
    let o = each_some (first_row m n a b c) (counting (1 + m) 0) rows e in (
      o.same_length ∙ length-counting (1 + m) 0,
      λ r l. (let here : first_row m n a b c r ≡ Some (row_of rows r) = ap (first_row m n a b c) (sym (get_or-counting (1 + m) 0 r 0 l ∙ plain r)) ∙ o.at r 0 [] (omega (arith, length-counting (1 + m) 0)) in
          let p = each_some (cell m n a b c r) (counting w 0) (row_of rows r) here in (
            p.same_length ∙ length-counting w 0,
            λ k h. ap (cell m n a b c r) (sym (get_or-counting w 0 k 0 h ∙ plain k)) ∙ p.at k 0 (pos 0) (omega (arith, length-counting w 0)),
          )),
    )
  where
    plain : (k : ℕ) → 0 + k ≡ k
    plain k = omega arith

entry_past : (rows : List (List ℤ)) (w r k : ℕ) → length (row_of rows r) ≡ w → w ≤ k → entry (row_of rows r) k ≡ pos 0
entry_past rows w r k e h = get_or_past (row_of rows r) k (pos 0) (omega arith)

pub first_initial : (m n : ℕ) (a b c : List ℤ) (rows : List (List ℤ)) → first_rows m n a b c ≡ Some rows → IsInitial m n a b c rows
first_initial m n a b c rows e =
    let f = first_at m n a b c rows e in
    let w : ℕ = (1 + n + m) + 1 in
    let costs_at : (k : ℕ) → k < w → cost_cell n c k ≡ Some (entry (row_of rows 0) k) = λ k h. (f.1 0 (omega arith)).1 k h in
    let slack_at : (i k : ℕ) → i < m → k < w → entry (row_of rows (1 + i)) k ≡ slack_cell m n a b i k = λ i k h l.
    (let step : 1 + i ≡ suc i = omega arith in rw step (sym (same_Some _ _ ((f.1 (suc i) (omega arith)).1 k l)))) in
    record {
      rows_length = f.0;
      widths = λ r l. (f.1 r l).0;
      factor = cost_first n c _ (costs_at 0 (omega arith));
      costs = λ k h. cost_column n c k _ h (costs_at (1 + k) (omega arith));
      rest = λ k h. (elim (cases_lt k w) [ inl inside ↦ cost_rest n c k _ h (costs_at k inside) | inr past ↦ entry_past rows w 0 k (f.1 0 (omega arith)).0 past ]);
      zero = λ i h. slack_at i 0 h (omega arith) ∙ slack_first m n a b i;
      coefficients = λ i k h l. slack_at i (1 + k) h (omega arith) ∙ slack_column m n a b i k l;
      own = λ i h. slack_at i (1 + n + i) h (omega arith) ∙ slack_own m n a b i h;
      others = λ i l h q apart. slack_at i (1 + n + l) h (omega arith) ∙ slack_other m n a b i l q apart;
      right_side = λ i h. slack_at i (1 + n + m) h (omega arith) ∙ slack_right m n a b i;
    }

first_basic : (m n i : ℕ) → i < m → basic_of (first_basis m n) (1 + i) ≡ 1 + n + i
first_basic m n i h = let step : 1 + i ≡ suc i = omega arith in rw step (get_or-counting m (1 + n) i 0 h)

pub first_tableau : (m n : ℕ) (a b c : List ℤ) (rows : List (List ℤ)) → IsInitial m n a b c rows → ((i : ℕ) → i < m → pos 0 ≤ℤ entry b i) → IsTableau (1 + m) (1 + n + m) rows rows (first_basis m n)
first_tableau m n a b c rows s h =
    let later : (r : ℕ) → 1 ≤ r → r < 1 + m → (i : ℕ) × (r ≡ 1 + i) × (i < m) = λ r one l. (r - 1, omega arith, omega arith) in
    record {
      rows_length = s.rows_length;
      widths = s.widths;
      basis_length = grown (length-counting m (1 + n));
      first = refl;
      inside = λ r one l. (let v = later r one l in rw (v.1, first_basic m n v.0 v.2) (omega arith, omega (arith, v.2)));
      positive = λ r l. (elim (cases_eq r 0) [
        | inl same ↦ rw (same, s.factor) (omega (arith, ints))
        | inr other ↦ (let v = later r (omega arith) l in rw (v.1, first_basic m n v.0 v.2, s.own v.0 v.2) (omega (arith, ints)))
      ]);
      clear = λ r q lr lq apart. (elim (cases_eq r 0) [
        | inl same ↦ (let v = later q (omega arith) lq in rw (same, v.1) (s.zero v.0 v.2))
        | inr other ↦ (let v = later r (omega arith) lr in rw (v.1, first_basic m n v.0 v.2) (elim (cases_eq q 0) [
          | inl base ↦ rw base (s.rest (1 + n + v.0) (omega arith))
          | inr slack ↦ (let u = later q (omega arith) lq in rw u.1 (s.others u.0 v.0 u.2 v.2 (omega (arith, u.1, v.1))))
        ]))
      ]);
      right_sides = λ r one l. (let v = later r one l in rw (v.1, s.right_side v.0 v.2) (h v.0 v.2));
      forth = λ y q. q;
      back = λ y q. q;
    }
  where
    grown : length (counting m (1 + n)) ≡ m → suc (length (counting m (1 + n))) ≡ 1 + m
    grown e = omega arith
