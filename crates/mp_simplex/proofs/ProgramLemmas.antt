-- The pivot and the ratio test in place.
use Rattle.std.proofs.Common.{◌≡◌, ◌≢◌, ℕ, zero, suc, ◌+◌, ◌-◌, ◌*◌, ◌<◌, ◌≤◌, List, [], ◌∷◌, ◌++◌, length, take, drop, get_or, Option, Some, None, option_map, option_and_then, ℤ, pos, ◌-ℤ◌, ◌*ℤ◌, ◌≤ℤ◌, ◌<ℤ◌, Bool, true, false, refl, ap, ap₂, sym, ◌∙◌, subst, arith, rules, IfSome, to_z-of_z, int_lt, int_eq, nat_lt, add-one}
use Rattle.std.proofs.lemmas.Int.{ints}
use Rattle.std.proofs.lemmas.List.{drop_more, drop_all, drop-drop}
use Rattle.mp_num.specs.Checked.{within}
use Rattle.mp_num.specs.Divisor.{reduced}
use Rattle.mp_simplex.specs.Pivoting.{pivoted, better, better_by, looked, against, leaving}
use Rattle.mp_num.specs.Passing.{each, stepped, counting}
use Rattle.mp_num.specs.Row.{entry, combined, rows_of}
use Rattle.mp_simplex.specs.Tableau.{row_of}
use Rattle.mp_num.proofs.TableLemmas.{get_or-rows_of, take-rows_of, drop-rows_of, rows_of-take, rows_of-append, rows_joined}
use Rattle.mp_num.proofs.OutcomeLemmas.{length-counting, get_or-counting, run_cons}

-- the rows after row i
drop_after : (rows width i : ℕ) (cells : List ℤ) → i < rows → drop (i + 1) (rows_of rows width cells) ≡ rows_of (rows - i - 1) width (drop width (drop (i * width) cells))
drop_after rows width i cells h = drop-rows_of rows width cells (i + 1) (omega arith) ∙ ap₂ (λ m s. rows_of m width s) (omega arith) (ap (λ m. drop m cells) (omega arith) ∙ sym (drop-drop width (i * width) cells))

pub pivot_used_passes : (rows width i j : ℕ) (cells pivot : List ℤ) → i < rows → pivot ≡ take width (drop (i * width) cells) → each (combined j pivot) (rows_of i width (take (i * width) cells)) ≡ None →
    pivoted i j (rows_of rows width cells) ≡ None
unfolding pivoted
pivot_used_passes rows width i j cells pivot h e u =
    rw (get_or-rows_of rows width cells i h, ← e, take-rows_of rows width cells i (omega arith), ← (rows_of-take i width cells), u) refl

pub pivot_rest_passes : (rows width i j : ℕ) (cells pivot : List ℤ) (above : List (List ℤ)) → i < rows → pivot ≡ take width (drop (i * width) cells) →
    each (combined j pivot) (rows_of i width (take (i * width) cells)) ≡ Some above → each (combined j pivot) (rows_of (rows - i - 1) width (drop width (drop (i * width) cells))) ≡ None →
    pivoted i j (rows_of rows width cells) ≡ None
unfolding pivoted
pivot_rest_passes rows width i j cells pivot above h e u v =
    rw (get_or-rows_of rows width cells i h, ← e, take-rows_of rows width cells i (omega arith), ← (rows_of-take i width cells), u, drop_after rows width i cells h, v) refl

pub pivot_goes : (rows width i j : ℕ) (cells pivot used free : List ℤ) → i < rows → pivot ≡ take width (drop (i * width) cells) →
    each (combined j pivot) (rows_of i width (take (i * width) cells)) ≡ Some (rows_of i width used) →
    each (combined j pivot) (rows_of (rows - i - 1) width (drop width (drop (i * width) cells))) ≡ Some (rows_of (rows - i - 1) width free) →
    length used ≡ i * width → length (reduced pivot) ≡ width → pivoted i j (rows_of rows width cells) ≡ Some (rows_of rows width (used ++ (reduced pivot ++ free)))
unfolding pivoted
pivot_goes rows width i j cells pivot used free h e u v lu lp =
    let n : rows ≡ i + (rows - i) = omega arith in
    let split : rows_of rows width (used ++ (reduced pivot ++ free)) ≡ rows_of i width used ++ (reduced pivot ∷ rows_of (rows - i - 1) width free) =
    ap (λ m. rows_of m width (used ++ (reduced pivot ++ free))) n ∙ rows_of-append i (rows - i) width used (reduced pivot ++ free) lu
    ∙ ap (λ s. rows_of i width used ++ s) (rows_joined (rows - i) width (reduced pivot) free (omega arith) lp) in
    rw (get_or-rows_of rows width cells i h, ← e, take-rows_of rows width cells i (omega arith), ← (rows_of-take i width cells), u, drop_after rows width i cells h, v) (ap Some (sym split))

pub ruleset pivots = (to_z-of_z, pivot_used_passes, pivot_rest_passes, pivot_goes)

pub better_is : (j right : ℕ) (rows : List (List ℤ)) (basis : List ℕ) (i b : ℕ) →
    better j right rows basis i b ≡
    option_and_then (λ u. option_map (λ v. better_by (nat_lt (get_or basis i 0) (get_or basis b 0)) u v)
    (within (entry (row_of rows b) right *ℤ entry (row_of rows i) j)))
    (within (entry (row_of rows i) right *ℤ entry (row_of rows b) j))
unfolding better
better_is j right rows basis i b = refl

pub ruleset betters = (to_z-of_z, better_is)

pub looked_low : (j right : ℕ) (rows : List (List ℤ)) (basis : List ℕ) (best : Option ℕ) (i : ℕ) → entry (row_of rows i) j ≤ℤ pos 0 → looked j right rows basis best i ≡ Some best
unfolding looked
looked_low j right rows basis best i e = let t : int_lt (pos 0) (entry (row_of rows i) j) ≡ false = grind (arith, ints) in rw t refl

pub looked_high : (j right : ℕ) (rows : List (List ℤ)) (basis : List ℕ) (best : Option ℕ) (i : ℕ) → pos 0 <ℤ entry (row_of rows i) j → looked j right rows basis best i ≡ against j right rows basis i best
unfolding looked
looked_high j right rows basis best i e = let t : int_lt (pos 0) (entry (row_of rows i) j) ≡ true = grind (arith, ints) in rw t refl

pub against_none : (j right : ℕ) (rows : List (List ℤ)) (basis : List ℕ) (i b : ℕ) → better j right rows basis i b ≡ None → against j right rows basis i (Some b) ≡ None
against_none j right rows basis i b e = rw e refl

pub against_true : (j right : ℕ) (rows : List (List ℤ)) (basis : List ℕ) (i b : ℕ) → better j right rows basis i b ≡ Some true → against j right rows basis i (Some b) ≡ Some (Some i)
against_true j right rows basis i b e = rw e refl

pub against_false : (j right : ℕ) (rows : List (List ℤ)) (basis : List ℕ) (i b : ℕ) → better j right rows basis i b ≡ Some false → against j right rows basis i (Some b) ≡ Some (Some b)
against_false j right rows basis i b e = rw e refl

pub ruleset looks = (to_z-of_z, looked_low, looked_high, against_none, against_true, against_false)

-- The best row so far: what is left of the look gives what the whole gives.
pub record Looking (j right count : ℕ) (rows : List (List ℤ)) (basis : List ℕ) (i : ℕ) (best : Option ℕ) : Type 0 where
  pub rest : leaving j right count rows basis ≡ stepped (looked j right rows basis) best (drop (i - 1) (counting count 1))
  pub from_one : 1 ≤ i
  pub inside : IfSome best (λ b. b < 1 + count)

pub looking_start : (j right count : ℕ) (rows : List (List ℤ)) (basis : List ℕ) → Looking j right count rows basis 1 None
unfolding leaving
looking_start j right count rows basis = record { rest = refl; from_one = omega arith; inside = search rules }

looking_at : (j right count : ℕ) (rows : List (List ℤ)) (basis : List ℕ) (i : ℕ) (best : Option ℕ) → Looking j right count rows basis i best → i < 1 + count →
    leaving j right count rows basis ≡ option_and_then (λ t. stepped (looked j right rows basis) t (drop (i + 1 - 1) (counting count 1))) (looked j right rows basis best i)
looking_at j right count rows basis i best s h =
    let c : List ℕ = counting count 1 in
    let one : 1 ≤ i = s.from_one in
    let n : i - 1 < length c = omega (arith, length-counting count 1) in
    let at : get_or c (i - 1) 0 ≡ i = get_or-counting count 1 (i - 1) 0 (omega arith) ∙ omega arith in
    let next : i - 1 + 1 ≡ i + 1 - 1 = omega arith in
    s.rest ∙ ap (stepped (looked j right rows basis) best) (drop_more c (i - 1) 0 n ∙ ap₂ (λ m k. m ∷ drop k c) at next) ∙ run_cons _ best i _

pub looking_more : (j right count : ℕ) (rows : List (List ℤ)) (basis : List ℕ) (i : ℕ) (best next : Option ℕ) → Looking j right count rows basis i best → i < 1 + count →
    looked j right rows basis best i ≡ Some next → IfSome next (λ b. b < 1 + count) → Looking j right count rows basis (i + 1) next
looking_more j right count rows basis i best next s h e w = record { rest = looking_at j right count rows basis i best s h ∙ rw e refl; from_one = omega arith; inside = w }

pub looking_passes : (j right count : ℕ) (rows : List (List ℤ)) (basis : List ℕ) (i : ℕ) (best : Option ℕ) → Looking j right count rows basis i best → i < 1 + count →
    looked j right rows basis best i ≡ None → leaving j right count rows basis ≡ None
looking_passes j right count rows basis i best s h e = looking_at j right count rows basis i best s h ∙ rw e refl

pub looking_end : (j right count : ℕ) (rows : List (List ℤ)) (basis : List ℕ) (i : ℕ) (best : Option ℕ) → Looking j right count rows basis i best → 1 + count ≤ i → leaving j right count rows basis ≡ Some best
unfolding stepped
looking_end j right count rows basis i best s h = s.rest ∙ rw (drop_all (i - 1) (counting count 1) (omega (arith, length-counting count 1))) refl

pub ruleset leavings = (to_z-of_z, looking_start, looking_more, looking_passes, looking_end)
