use Rattle.std.proofs.Common.{◌≡◌, ◌≢◌, ℕ, zero, suc, ◌+◌, ◌-◌, ◌<◌, ◌≤◌, List, [], ◌∷◌, length, take, drop, get_or, Some, ℤ, pos, ◌-ℤ◌, ◌*ℤ◌, ◌≤ℤ◌, ap, sym, ◌∙◌, subst, arith, remove, int_lt, inl, inr, All}
use Rattle.std.proofs.lemmas.Int.{ints}
use Rattle.std.proofs.lemmas.Bool.{cases_eq, cases_lt}
use Rattle.std.proofs.lemmas.List.{length-take-le, length-drop, length-append, get_or_append_left, get_or-append_right, get_or-take, get_or-drop, get_or_past, get_or_default, get_or_at}
use Rattle.std.proofs.lemmas.List.Elements.{All-append, All-take, All-drop}
use Rattle.std.proofs.lemmas.Option.{same_Some}
use Rattle.mp_num.proofs.CheckedLemmas.{within_some}
use Rattle.mp_flow.specs.Elimination.{upright, negated, turn, Turned, Through, eliminated}
use Rattle.mp_flow.proofs.ColumnLemmas.{upright_positive, apart_from_serves}
use Rattle.mp_flow.proofs.TheoremLemmas.{turning, all_forth, upright_solves, after_through, solves_turn}
use Rattle.mp_num.specs.Row.{entry, combined}
use Rattle.mp_num.proofs.RowLemmas.{Combination, combined_some, zero_from_product, positive_product, positive_factor}
use Rattle.mp_num.proofs.OutcomeLemmas.{bool_cases, each_some}

-- the first columns are cleared: row r has a positive number at column r, and every other row has 0 there
pub record IsCleared (j : ℕ) (rows : List (List ℤ)) : Type 0 where
  pub diagonal : (r : ℕ) → r < j → pos 1 ≤ℤ entry (get_or rows r []) r
  pub zeros : (r k : ℕ) → k < j → r ≢ k → r < length rows → entry (get_or rows r []) k ≡ pos 0

keeps_law : (p a x y : ℤ) → y ≡ pos 0 → p *ℤ x -ℤ a *ℤ y ≡ p *ℤ x
keeps_law p a x y e = ap (λ y. p *ℤ x -ℤ a *ℤ y) e ∙ omega (arith, ints)

zero_law : (p : ℤ) → p *ℤ pos 0 ≡ pos 0
zero_law p = omega (arith, ints)

keeps_zero : (j k : ℕ) (pivot row out : List ℤ) (p a : ℤ) (g : ℕ) → Combination j pivot row out p a g → entry pivot k ≡ pos 0 → entry row k ≡ pos 0 → entry out k ≡ pos 0
keeps_zero j k pivot row out p a g c hp hr =
    zero_from_product (pos g) (entry out k) (omega (arith, ints, c.above_g)) (c.at k ∙ keeps_law p a (entry row k) (entry pivot k) hp ∙ ap (λ x. p *ℤ x) hr ∙ zero_law p)

keeps_positive : (j k : ℕ) (pivot row out : List ℤ) (p a : ℤ) (g : ℕ) → Combination j pivot row out p a g → entry pivot k ≡ pos 0 → pos 1 ≤ℤ entry row k → pos 1 ≤ℤ entry out k
keeps_positive j k pivot row out p a g c hp hr =
    positive_factor g (entry out k) (subst (λ (t : ℤ). pos 1 ≤ℤ t) (sym (c.at k ∙ keeps_law p a (entry row k) (entry pivot k) hp)) (positive_product p (entry row k) c.above_p hr))

upright_zero : (j k : ℕ) (row pivot : List ℤ) → upright j row ≡ Some pivot → entry row k ≡ pos 0 → entry pivot k ≡ pos 0
unfolding upright negated
upright_zero j k row pivot e h = elim (bool_cases (int_lt (entry row j) (pos 0))) [
  | inl below ↦ (let r = each_some _ row pivot (rw below at e) in
      elim (cases_lt k (length row)) [
        | inl in_row ↦ within_some _ _ (r.at k (pos 0) (pos 0) in_row) ∙ ap (λ x. pos 0 -ℤ x) h
        | inr past ↦ get_or_past pivot k (pos 0) (omega (arith, r.same_length))
      ])
  | inr above ↦ (let same : row ≡ pivot = same_Some _ _ (rw above at e) in ap (λ r. entry r k) (sym same) ∙ h)
]

pub cleared_turn : (width j : ℕ) (rows next : List (List ℤ)) → j < width → j < length rows → All (λ r. length r ≡ width) rows → IsCleared j rows → turn j rows ≡ Turned next → IsCleared (j + 1) next
cleared_turn width j rows next in_row in_table widths c e =
    let t = turning j rows next e in
    let W : List ℤ → Type 0 = λ r. length r ≡ width in
    let Z : List ℤ → Type 0 = λ r. (k : ℕ) → k < j → entry r k ≡ pos 0 in
    let free = drop j rows in
    let chosen = get_or free t.place [] in
    let free_widths : All W free = All-drop W j rows widths in
    let chosen_width : length chosen ≡ width = free_widths t.place [] t.inside in
    let pivot_width : length t.pivot ≡ width = (upright_solves width j (λ _. pos 0) chosen t.pivot t.upright_is).0 ∙ chosen_width in
    let positive : pos 1 ≤ℤ entry t.pivot j = upright_positive j chosen t.pivot (omega arith) (apart_from_serves j chosen t.serving) t.upright_is in
    let free_zeros : All Z free = λ i d l k h.
    (let inside : j + i < length rows = omega (arith, length-drop j rows) in
    ap (λ r. entry r k) (get_or-drop j rows i d ∙ get_or_default rows (j + i) d [] inside) ∙ c.zeros (j + i) k h (omega arith) inside) in
    let pivot_zeros : Z t.pivot = λ k h. upright_zero j k chosen t.pivot t.upright_is (free_zeros t.place [] t.inside k h) in
    let rest : List (List ℤ) = remove free t.place in
    let rest_widths : All W rest = All-append W (take t.place free) (drop (suc t.place) free) (All-take W t.place free free_widths) (All-drop W (suc t.place) free free_widths) in
    let rest_zeros : All Z rest = All-append Z (take t.place free) (drop (suc t.place) free) (All-take Z t.place free free_zeros) (All-drop Z (suc t.place) free free_zeros) in
    let below_clear : All (λ r. (k : ℕ) → k < j + 1 → entry r k ≡ pos 0) t.below = all_forth _ (λ r. W r × Z r) (λ r. (k : ℕ) → k < j + 1 → entry r k ≡ pos 0) rest t.below t.below_is
    (λ i d l. (rest_widths i d l, rest_zeros i d l))
    (λ x out wz h k l. (let m = combined_some j t.pivot x out (wz.0 ∙ sym pivot_width) positive h in
    elim (cases_eq k j) [ inl same ↦ rw same m.3.cleared | inr other ↦ keeps_zero j k t.pivot x out m.0 m.1 m.2 m.3 (pivot_zeros k (omega arith)) (wz.1 k (omega arith)) ])) in
    let used_length : length (take j rows) ≡ j = length-take-le j rows (omega arith) in
    let o = each_some (combined j t.pivot) (take j rows) t.above t.above_is in
    let above_length : length t.above ≡ j = o.same_length ∙ used_length in
    let used_row : (r : ℕ) → r < j → get_or (take j rows) r [] ≡ get_or rows r [] = λ r h. get_or-take j rows r [] h in
    let made : (r : ℕ) → r < j → (p : ℤ) × (a : ℤ) × (g : ℕ) × Combination j t.pivot (get_or rows r []) (get_or t.above r []) p a g = λ r h.
    combined_some j t.pivot (get_or rows r []) (get_or t.above r []) (widths r [] (omega arith) ∙ sym pivot_width) positive (ap (combined j t.pivot) (sym (used_row r h)) ∙ o.at r [] [] (omega arith)) in
    let at_above : (r : ℕ) → r < j → get_or next r [] ≡ get_or t.above r [] = λ r h. ap (λ s. get_or s r []) t.next_is ∙ get_or_append_left t.above (t.pivot ∷ t.below) [] r (omega arith) in
    let at_pivot : get_or next j [] ≡ t.pivot = ap (λ s. get_or s j []) t.next_is ∙ get_or_at t.above t.pivot t.below [] j above_length in
    record {
      diagonal = λ r h. (elim (cases_eq r j) [
        | inl same ↦ rw (same, at_pivot) positive
        | inr other ↦ (let l : r < j = omega arith in let m = made r l in rw (at_above r l) (keeps_positive j r t.pivot (get_or rows r []) (get_or t.above r []) m.0 m.1 m.2 m.3 (pivot_zeros r l) (c.diagonal r l)))
      ]);
      zeros = λ r k h apart l. (elim (cases_lt r j) [
        | inl early ↦ (let m = made r early in
            ap (λ s. entry s k) (at_above r early) ∙ elim (cases_eq k j) [
              | inl same ↦ rw same m.3.cleared
              | inr other ↦ keeps_zero j k t.pivot (get_or rows r []) (get_or t.above r []) m.0 m.1 m.2 m.3 (pivot_zeros k (omega arith)) (c.zeros r k (omega arith) apart (omega arith))
            ])
        | inr late ↦ elim (cases_eq r j) [
          | inl same ↦ ap (λ s. entry s k) (ap (λ i. get_or next i []) same ∙ at_pivot) ∙ pivot_zeros k (omega arith)
          | inr other ↦
              (let i : ℕ = r - j - 1 in
              let step : r - j ≡ suc i = omega arith in
              let inside : i < length t.below = omega (arith, ap length t.next_is, length-append t.above (t.pivot ∷ t.below)) in
              let at_below : get_or next r [] ≡ get_or t.below i [] =
              ap (λ s. get_or s r []) t.next_is ∙ get_or-append_right t.above (t.pivot ∷ t.below) j r [] above_length late ∙ ap (λ n. get_or (t.pivot ∷ t.below) n []) step in
              ap (λ s. entry s k) at_below ∙ below_clear i [] inside k h)
        ]
      ]);
    }

-- a column keeps the number of rows
pub length_turn : (j : ℕ) (rows next : List (List ℤ)) → j < length rows → turn j rows ≡ Turned next → length next ≡ length rows
length_turn j rows next h e =
    let t = turning j rows next e in
    let a = each_some (combined j t.pivot) (take j rows) t.above t.above_is in
    let b = each_some (combined j t.pivot) (remove (drop j rows) t.place) t.below t.below_is in
    let rest : length (remove (drop j rows) t.place) + 1 ≡ length (drop j rows) = omega (arith, t.inside, length-append (take t.place (drop j rows)) (drop (suc t.place) (drop j rows)), length-take-le t.place (drop j rows), length-drop (suc t.place) (drop j rows)) in
    omega (arith, ap length t.next_is, length-append t.above (t.pivot ∷ t.below), a.same_length, b.same_length, rest, length-take-le j rows, length-drop j rows)

-- the elimination that goes through clears all its columns
pub cleared_eliminated : (width columns j : ℕ) (rows final : List (List ℤ)) → j + columns ≤ width → length rows ≡ j + columns → All (λ r. length r ≡ width) rows → IsCleared j rows →
    eliminated columns j rows ≡ Through final → IsCleared (j + columns) final
unfolding eliminated
cleared_eliminated width zero j rows final l n w c e = let same : rows ≡ final = cc in let zero_sum : j + 0 ≡ j = omega arith in rw zero_sum (subst (IsCleared j) same c)
cleared_eliminated width (suc columns) j rows final l n w c e =
    let a = after_through (turn j rows) j rows final (eliminated columns (j + 1)) e in
    let t = solves_turn width j (λ _. pos 0) rows a.0 (omega arith) w a.1 in
    let step : j + suc columns ≡ (j + 1) + columns = omega arith in
    rw step (cleared_eliminated width columns (j + 1) a.0 final (omega arith) (length_turn j rows a.0 (omega arith) a.1 ∙ n ∙ step) t.0 (cleared_turn width j rows a.0 (omega arith) (omega arith) w c a.1) a.2)

pub length_eliminated : (columns j : ℕ) (rows final : List (List ℤ)) → j + columns ≤ length rows → eliminated columns j rows ≡ Through final → length final ≡ length rows
unfolding eliminated
length_eliminated zero j rows final l e = let same : rows ≡ final = cc in ap length (sym same)
length_eliminated (suc columns) j rows final l e =
    let a = after_through (turn j rows) j rows final (eliminated columns (j + 1)) e in
    let n : length a.0 ≡ length rows = length_turn j rows a.0 (omega arith) a.1 in
    length_eliminated columns (j + 1) a.0 final (omega arith) a.2 ∙ n
