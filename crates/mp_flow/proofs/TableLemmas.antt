use Rattle.mp_num.proofs.TableLemmas.{drop-rows_of, entry-rows_of, get_or-rows_of, length-rows_of, rows_of-append, rows_of-take, take-rows_of}
use Rattle.std.proofs.Common.{◌≡◌, ℕ, ◌+◌, ◌-◌, ◌*◌, ◌<◌, ◌≤◌, List, [], ◌++◌, length, take, drop, get_or, Some, None, ℤ, pos, refl, ap, ap₂, sym, ◌∙◌, arith, add-one, false, true, position, remove, below_more, nat_lt, lt-ltb, le-ltb, ◌≢◌}
use Rattle.std.proofs.lemmas.List.{take_at, drop_at, length-take-le, length-drop, drop-take, take-take, append_assoc}
use Rattle.std.proofs.lemmas.List.Sums.{position_or_len_is}
use Rattle.std.specs.List.{position_or_len}
use Rattle.std.proofs.lemmas.Nat.{rows}
use Rattle.mp_flow.specs.Elimination.{serves, IsChosen}
use Rattle.mp_num.specs.Row.{entry, rows_of}

-- no row below k serves
pub record NoneServes (j : ℕ) (rows : List (List ℤ)) (k : ℕ) : Type 0 where
  pub below : (m : ℕ) → m < k → serves j (get_or rows m []) ≡ false

pub serves-zero : (j : ℕ) (row : List ℤ) → entry row j ≡ pos 0 → serves j row ≡ false
serves-zero j row e = rw e refl

pub serves-apart : (j : ℕ) (row : List ℤ) → entry row j ≢ pos 0 → serves j row ≡ true
serves-apart j row h = grind arith

pub none_start : (j : ℕ) (rows : List (List ℤ)) → NoneServes j rows 0
none_start j rows = record { below = λ m h. absurd (omega arith) }

pub none_more : (j count width : ℕ) (cells : List ℤ) (k : ℕ) → NoneServes j (rows_of count width cells) k → k < count → j < width → get_or cells (k * width + j) (pos 0) ≡ pos 0 → NoneServes j (rows_of count width cells) (k + 1)
none_more j count width cells k s h l e = record { below = below_more _ _ s.below (serves-zero j _ (entry-rows_of count width cells k j h l ∙ e)) }

pub place_found : (j count width : ℕ) (cells : List ℤ) (k : ℕ) → NoneServes j (rows_of count width cells) k → k < count → j < width → get_or cells (k * width + j) (pos 0) ≢ pos 0 → position (serves j) (rows_of count width cells) ≡ Some k
place_found j count width cells k s h l e =
    let there : serves j (get_or (rows_of count width cells) k []) ≡ true = serves-apart j _ (λ z. e (sym (entry-rows_of count width cells k j h l) ∙ z)) in
    let first : position_or_len (serves j) (rows_of count width cells) ≡ k = position_or_len_is (serves j) (rows_of count width cells) k [] (omega (arith, length-rows_of count width cells)) s.below (λ _. there) in
    let inside : nat_lt k (length (rows_of count width cells)) ≡ true = lt-ltb k _ (omega (arith, length-rows_of count width cells)) in
    rw (first, inside) refl

pub place_missing : (j count width : ℕ) (cells : List ℤ) (k : ℕ) → NoneServes j (rows_of count width cells) k → count ≤ k → position (serves j) (rows_of count width cells) ≡ None
place_missing j count width cells k s h =
    let n = length-rows_of count width cells in
    let end : position_or_len (serves j) (rows_of count width cells) ≡ count = position_or_len_is (serves j) (rows_of count width cells) count [] (omega (arith, n)) (λ m l. s.below m (omega arith)) (λ l. absurd (omega (arith, n))) in
    let past : nat_lt count (length (rows_of count width cells)) ≡ false = rw n (le-ltb count count (omega arith)) in
    rw (end, past) refl

pub ruleset places = (none_start, none_more, place_found, place_missing)

-- ---- a column of a table in place
-- the free rows after the chosen one went to their front
pub rotated_first : (count width k : ℕ) (free now : List ℤ) → length free ≡ count * width → k < count →
    now ≡ (drop (k * width) (take ((k + 1) * width) free) ++ take (k * width) (take ((k + 1) * width) free)) ++ drop ((k + 1) * width) free →
    (take width now ≡ get_or (rows_of count width free) k []) × (rows_of (count - 1) width (drop width now) ≡ remove (rows_of count width free) k)
rotated_first count width k free now l h e =
    let n : (k + 1) * width ≤ length free = grind (arith, rows) in
    let turned_part : drop (k * width) (take ((k + 1) * width) free) ≡ take width (drop (k * width) free) = ap (λ m. drop (k * width) (take m free)) (omega arith) ∙ drop-take (k * width) width free in
    let front : take (k * width) (take ((k + 1) * width) free) ≡ take (k * width) free = take-take (k * width) ((k + 1) * width) free (omega arith) in
    let first_length : length (take width (drop (k * width) free)) ≡ width = length-take-le width (drop (k * width) free) (omega (arith, length-drop (k * width) free)) in
    let front_length : length (take (k * width) free) ≡ k * width = length-take-le (k * width) free (omega arith) in
    let now_is : now ≡ take width (drop (k * width) free) ++ (take (k * width) free ++ drop ((k + 1) * width) free) = e ∙ ap₂ (λ a b. (a ++ b) ++ drop ((k + 1) * width) free) turned_part front ∙ append_assoc (take width (drop (k * width) free)) (take (k * width) free) (drop ((k + 1) * width) free) in
    let count_is : count - 1 ≡ k + (count - (k + 1)) = omega arith in (
      ap (take width) now_is ∙ take_at _ _ width first_length ∙ sym (get_or-rows_of count width free k h),
      ap (λ s. rows_of (count - 1) width (drop width s)) now_is ∙ ap (rows_of (count - 1) width) (drop_at _ _ width first_length)
          ∙ ap (λ m. rows_of m width (take (k * width) free ++ drop ((k + 1) * width) free)) count_is
          ∙ rows_of-append k (count - (k + 1)) width (take (k * width) free) (drop ((k + 1) * width) free) front_length
          ∙ ap₂ (λ a b. a ++ b) (rows_of-take k width free ∙ sym (take-rows_of count width free k (omega arith))) (sym (ap (λ m. drop m (rows_of count width free)) (sym (add-one k)) ∙ drop-rows_of count width free (k + 1) (omega arith))),
    )

pub chosen_brought : (j count width k : ℕ) (free now : List ℤ) → length free ≡ count * width → k < count → position (serves j) (rows_of count width free) ≡ Some k →
    now ≡ (drop (k * width) (take ((k + 1) * width) free) ++ take (k * width) (take ((k + 1) * width) free)) ++ drop ((k + 1) * width) free →
    IsChosen j (rows_of count width free) (take width now) (rows_of (count - 1) width (drop width now))
chosen_brought j count width k free now l h f e = let r = rotated_first count width k free now l h e in record { place = k; found = f; is_first = r.0; is_rest = r.1 }

pub ruleset bringing = (chosen_brought, rows)
