-- The first tableau in place.
use Rattle.std.proofs.Common.{◌≡◌, ◌≢◌, ℕ, zero, suc, ◌+◌, ◌-◌, ◌*◌, ◌<◌, ◌≤◌, List, [], ◌∷◌, ◌++◌, length, take, drop, get_or, Option, Some, None, option_map, option_and_then, ℤ, pos, ◌-ℤ◌, Bool, true, false, refl, ap, ap₂, sym, ◌∙◌, subst, arith, to_z-of_z, nat_eq, nat_lt, length-append}
use Rattle.std.proofs.lemmas.Nat.{mul-add-lt}
use Rattle.std.proofs.lemmas.List.{append-nil, append_assoc, drop_all, drop_more, take_all}
use Rattle.mp_num.specs.Checked.{within}
use Rattle.mp_num.specs.Passing.{each, counting, Becomes}
use Rattle.mp_num.specs.Row.{entry, rows_of}
use Rattle.mp_num.proofs.OutcomeLemmas.{option_map_some, each_some, length-counting, get_or-counting}
use Rattle.mp_num.proofs.PassingLemmas.{before, before_nil, Pushing, pushing_start, pushing_more, pushing_passes, pushing_end}
use Rattle.mp_num.proofs.TableLemmas.{rows_of-append}
use Rattle.mp_simplex.specs.Outcome.{cost_cell, slack_cell, cell, first_row, first_rows, first_basis}

pub cost_at_zero : (n : ℕ) (c : List ℤ) (k : ℕ) → k ≡ 0 → cost_cell n c k ≡ Some (pos 1)
unfolding cost_cell
cost_at_zero n c k e = rw e refl

pub cost_at_column : (n : ℕ) (c : List ℤ) (k : ℕ) → k ≢ 0 → k - 1 < n → cost_cell n c k ≡ within (pos 0 -ℤ entry c (k - 1))
unfolding cost_cell
cost_at_column n c k e h = let p : nat_eq k 0 ≡ false = grind (arith, e) in let q : nat_lt k (1 + n) ≡ true = grind (arith, e, h) in rw (p, q) refl

pub cost_at_rest : (n : ℕ) (c : List ℤ) (k : ℕ) → k ≢ 0 → n ≤ k - 1 → cost_cell n c k ≡ Some (pos 0)
unfolding cost_cell
cost_at_rest n c k e h = let p : nat_eq k 0 ≡ false = grind (arith, e) in let q : nat_lt k (1 + n) ≡ false = grind (arith, e, h) in rw (p, q) refl

pub ruleset costs = (to_z-of_z, cost_at_zero, cost_at_column, cost_at_rest)

pub slack_at_zero : (m n : ℕ) (a b : List ℤ) (i k : ℕ) → k ≡ 0 → slack_cell m n a b i k ≡ pos 0
unfolding slack_cell
slack_at_zero m n a b i k e = rw e refl

pub slack_at_column : (m n : ℕ) (a b : List ℤ) (i k : ℕ) → k ≢ 0 → k - 1 < n → slack_cell m n a b i k ≡ entry a (i * n + (k - 1))
unfolding slack_cell
slack_at_column m n a b i k e h = let p : nat_eq k 0 ≡ false = grind (arith, e) in let q : nat_lt k (1 + n) ≡ true = grind (arith, e, h) in rw (p, q) refl

pub slack_at_own : (m n : ℕ) (a b : List ℤ) (i k : ℕ) → k ≢ 0 → n ≤ k - 1 → k - 1 - n < m → k - 1 - n ≡ i → slack_cell m n a b i k ≡ pos 1
unfolding slack_cell
slack_at_own m n a b i k e h l s =
    let p : nat_eq k 0 ≡ false = grind (arith, e) in let q : nat_lt k (1 + n) ≡ false = grind (arith, e, h) in let r : nat_lt k (1 + n + m) ≡ true = grind (arith, e, h, l) in
    let t : nat_eq k (1 + n + i) ≡ true = grind (arith, e, h, s) in rw (p, q, r, t) refl

pub slack_at_other : (m n : ℕ) (a b : List ℤ) (i k : ℕ) → k ≢ 0 → n ≤ k - 1 → k - 1 - n < m → k - 1 - n ≢ i → slack_cell m n a b i k ≡ pos 0
unfolding slack_cell
slack_at_other m n a b i k e h l s =
    let p : nat_eq k 0 ≡ false = grind (arith, e) in let q : nat_lt k (1 + n) ≡ false = grind (arith, e, h) in let r : nat_lt k (1 + n + m) ≡ true = grind (arith, e, h, l) in
    let t : nat_eq k (1 + n + i) ≡ false = grind (arith, e, h, s) in rw (p, q, r, t) refl

pub slack_at_right : (m n : ℕ) (a b : List ℤ) (i k : ℕ) → k ≢ 0 → n ≤ k - 1 → m ≤ k - 1 - n → slack_cell m n a b i k ≡ entry b i
unfolding slack_cell
slack_at_right m n a b i k e h l =
    let p : nat_eq k 0 ≡ false = grind (arith, e) in let q : nat_lt k (1 + n) ≡ false = grind (arith, e, h) in let r : nat_lt k (1 + n + m) ≡ false = grind (arith, e, h, l) in rw (p, q, r) refl

pub ruleset slacks = (to_z-of_z, slack_at_zero, slack_at_column, slack_at_own, slack_at_other, slack_at_right, mul-add-lt)

pub cell_zero : (m n : ℕ) (a b c : List ℤ) (r k : ℕ) → r ≡ 0 → cell m n a b c r k ≡ cost_cell n c k
cell_zero m n a b c r k e = rw e refl

pub cell_later : (m n : ℕ) (a b c : List ℤ) (r k : ℕ) → r ≢ 0 → cell m n a b c r k ≡ Some (slack_cell m n a b (r - 1) k)
cell_later m n a b c zero k e = absurd (e refl)
cell_later m n a b c (suc r) k e = let back : suc r - 1 ≡ r = omega arith in rw back refl

pub ruleset cells = (to_z-of_z, cell_zero, cell_later)

-- ---- a row pushed
pub row_start : (m n : ℕ) (a b c : List ℤ) (r w : ℕ) (old : List ℤ) → Pushing (cell m n a b c r) w 0 old 0 old
row_start m n a b c r w old = pushing_start (cell m n a b c r) w 0 old

pub row_more : (m n : ℕ) (a b c : List ℤ) (r w : ℕ) (old : List ℤ) (k : ℕ) (now : List ℤ) (z : ℤ) → Pushing (cell m n a b c r) w 0 old k now → k < w → cell m n a b c r k ≡ Some z → Pushing (cell m n a b c r) w 0 old (k + 1) (now ++ z ∷ [])
row_more m n a b c r w old k now z s h v = pushing_more (cell m n a b c r) w 0 old k k now z s h (omega arith) v

pub row_passes : (m n : ℕ) (a b c : List ℤ) (r w : ℕ) (old : List ℤ) (k : ℕ) (now : List ℤ) → Pushing (cell m n a b c r) w 0 old k now → k < w → w ≡ (1 + n + m) + 1 → cell m n a b c r k ≡ None →
    before old (first_row m n a b c r) ≡ None
unfolding first_row
row_passes m n a b c r w old k now s h e v = ap (λ w. before old (each (cell m n a b c r) (counting w 0))) (sym e) ∙ pushing_passes (cell m n a b c r) w 0 old k k now s h (omega arith) v

pub row_end : (m n : ℕ) (a b c : List ℤ) (r w : ℕ) (old : List ℤ) (k : ℕ) (now : List ℤ) → Pushing (cell m n a b c r) w 0 old k now → w ≤ k → w ≡ (1 + n + m) + 1 → before old (first_row m n a b c r) ≡ Some now
unfolding first_row
row_end m n a b c r w old k now s h e = ap (λ w. before old (each (cell m n a b c r) (counting w 0))) (sym e) ∙ pushing_end (cell m n a b c r) w 0 old k now s h

pub ruleset pushes = (to_z-of_z, row_start, row_more, row_passes, row_end)

-- ---- the rows so far
pub record Stacking (m n : ℕ) (a b c : List ℤ) (rows width r : ℕ) (cells : List ℤ) : Type 0 where
  pub pushing : Pushing (first_row m n a b c) rows 0 [] r (rows_of r width cells)
  pub size : length cells ≡ r * width

pub stacking_start : (m n : ℕ) (a b c : List ℤ) (rows width : ℕ) → Stacking m n a b c rows width 0 []
stacking_start m n a b c rows width = record { pushing = pushing_start (first_row m n a b c) rows 0 []; size = omega arith }

one_row : (width : ℕ) (row : List ℤ) → length row ≡ width → rows_of 1 width row ≡ row ∷ []
one_row width row h = ap (λ s. s ∷ []) (take_all width row (omega arith))

pub stacking_more : (m n : ℕ) (a b c : List ℤ) (rows width r : ℕ) (cells next : List ℤ) → Stacking m n a b c rows width r cells → r < rows → width ≡ (1 + n + m) + 1 → before cells (first_row m n a b c r) ≡ Some next →
    Stacking m n a b c rows width (r + 1) next
unfolding first_row
stacking_more m n a b c rows width r cells next s h w e =
    option_map_some (λ row. cells ++ row) (first_row m n a b c r) next e (λ row f q.
    (let o = each_some (cell m n a b c r) (counting ((1 + n + m) + 1) 0) row f in
    let l : length row ≡ width = o.same_length ∙ length-counting ((1 + n + m) + 1) 0 ∙ sym w in
    let grown : rows_of (r + 1) width next ≡ rows_of r width cells ++ row ∷ [] = ap (rows_of (r + 1) width) q ∙ rows_of-append r 1 width cells row s.size ∙ ap (λ t. rows_of r width cells ++ t) (one_row width row l) in
    record {
      pushing = subst (Pushing (first_row m n a b c) rows 0 [] (r + 1)) (sym grown) (pushing_more (first_row m n a b c) rows 0 [] r r (rows_of r width cells) row s.pushing h (omega arith) f);
      size = ap length q ∙ length-append cells row ∙ sizes (length cells) (length row) r width s.size l;
    }))
  where
    sizes : (p q r w : ℕ) → p ≡ r * w → q ≡ w → p + q ≡ (r + 1) * w
    sizes p q r w e f = omega arith

pub stacking_passes : (m n : ℕ) (a b c : List ℤ) (rows width r : ℕ) (cells : List ℤ) → Stacking m n a b c rows width r cells → r < rows → rows ≡ 1 + m → before cells (first_row m n a b c r) ≡ None → first_rows m n a b c ≡ None
unfolding first_rows
stacking_passes m n a b c rows width r cells s h l e =
    ap (λ k. each (first_row m n a b c) (counting k 0)) (sym l) ∙ sym (before_nil _) ∙ pushing_passes (first_row m n a b c) rows 0 [] r r (rows_of r width cells) s.pushing h (omega arith) (none (first_row m n a b c r) e)
  where
    none : (o : Option (List ℤ)) → before cells o ≡ None → o ≡ None
    none None e = refl
    none (Some x) e = absurd (cc)

pub stacking_end : (m n : ℕ) (a b c : List ℤ) (rows width r : ℕ) (cells : List ℤ) → Stacking m n a b c rows width r cells → r ≡ rows → rows ≡ 1 + m → first_rows m n a b c ≡ Some (rows_of rows width cells)
unfolding first_rows
stacking_end m n a b c rows width r cells s h l =
    ap (λ k. each (first_row m n a b c) (counting k 0)) (sym l) ∙ sym (before_nil _) ∙ pushing_end (first_row m n a b c) rows 0 [] r (rows_of r width cells) s.pushing (omega arith) ∙ ap (λ k. Some (rows_of k width cells)) h

pub stacking_size : (m n : ℕ) (a b c : List ℤ) (rows width r : ℕ) (cells : List ℤ) → Stacking m n a b c rows width r cells → r ≡ rows → length cells ≡ rows * width
stacking_size m n a b c rows width r cells s e = s.size ∙ ap (λ k. k * width) e

pub ruleset stacks = (stacking_start, stacking_more, stacking_passes, stacking_end, stacking_size)

-- ---- the first basis
pub record Basing (m first i : ℕ) (basis : List ℕ) : Type 0 where
  pub so_far : basis ++ drop i (counting m first) ≡ 0 ∷ counting m first

pub basing_start : (m first : ℕ) → Basing m first 0 (0 ∷ [])
basing_start m first = record { so_far = refl }

pub basing_more : (m first i : ℕ) (basis : List ℕ) → Basing m first i basis → i < m → Basing m first (i + 1) (basis ++ (first + i) ∷ [])
basing_more m first i basis s h = record {
  so_far =
      append_assoc basis ((first + i) ∷ []) (drop (i + 1) (counting m first))
      ∙ ap (λ t. basis ++ t) (sym (drop_more (counting m first) i 0 (omega (arith, length-counting m first)) ∙ ap (λ k. k ∷ drop (i + 1) (counting m first)) (get_or-counting m first i 0 h)))
      ∙ s.so_far;
}

pub basing_end : (m n i : ℕ) (basis : List ℕ) → Basing m (1 + n) i basis → m ≤ i → basis ≡ first_basis m n
basing_end m n i basis s h = sym (append-nil basis) ∙ ap (λ t. basis ++ t) (sym (drop_all i (counting m (1 + n)) (omega (arith, length-counting m (1 + n))))) ∙ s.so_far

pub ruleset bases = (basing_start, basing_more, basing_end)

-- a step in place that went through
pub becomes_goes : {S : Type 0} (b : Bool) (o : Option S) (now : S) → b ≡ true → Becomes b o now → o ≡ Some now
becomes_goes true o now e h = h
becomes_goes false o now e h = absurd (cc)
