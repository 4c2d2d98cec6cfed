use Rattle.mp_num.proofs.OutcomeLemmas.{each_some}
use Rattle.std.proofs.Common.{◌≡◌, ◌≢◌, ℕ, zero, suc, ◌+◌, ◌-◌, ◌*◌, ◌<◌, ◌≤◌, List, [], ◌∷◌, ◌++◌, length, take, drop, get_or, Option, Some, None, option_map, option_and_then, ℤ, pos, ◌-ℤ◌, ◌≤ℤ◌, ◌<ℤ◌, refl, rules, ap, ap₂, sym, ◌∙◌, subst, arith, to_z-of_z, position, remove, true, false, int_lt, int_eq, not, Bool, inl, inr, ◌⊎◌}
use Rattle.std.specs.Bool.{OnTrue}
use Rattle.std.proofs.lemmas.Int.{ints}
use Rattle.std.proofs.lemmas.List.Quantifiers.{position-Some}
use Rattle.std.proofs.lemmas.Option.{same_Some}
use Rattle.mp_num.proofs.CheckedLemmas.{within_some}
use Rattle.mp_flow.specs.Elimination.{serves, IsChosen, upright, negated, cleared, turned, turn, turn_of, Stuck, Passed, Turned}
use Rattle.mp_flow.proofs.CombineLemmas.{upright_stays, upright_turns}
use Rattle.mp_num.specs.Passing.{each, Becomes}
use Rattle.mp_num.specs.Row.{entry, combined, rows_of}
use Rattle.mp_num.proofs.OutcomeLemmas.{bool_cases}
use Rattle.mp_num.proofs.TableLemmas.{take-rows_of, drop-rows_of, rows_of-take, rows_of-append, rows_joined}

pub apart_from_serves : (j : ℕ) (row : List ℤ) → serves j row ≡ true → entry row j ≢ pos 0
apart_from_serves j row h e = grind (arith, h, e)

pub chosen_apart : (j : ℕ) (rows : List (List ℤ)) (first : List ℤ) (rest : List (List ℤ)) → IsChosen j rows first rest → entry first j ≢ pos 0
chosen_apart j rows first rest h = let P : List ℤ → Type 0 = λ r. entry r j ≢ pos 0 in
    subst P (sym h.is_first) (apart_from_serves j _ (position-Some (serves j) rows h.place [] h.found).1)

-- the choice takes one row from the free ones
pub record Table (rows width j : ℕ) (cells first : List ℤ) (rest : List (List ℤ)) : Type 0 where
  pub inside : j < rows
  pub chosen : IsChosen j (rows_of (rows - j) width (drop (j * width) cells)) first rest

pub column_stuck : (rows width j : ℕ) (cells : List ℤ) → j < rows → position (serves j) (rows_of (rows - j) width (drop (j * width) cells)) ≡ None → turn j (rows_of rows width cells) ≡ Stuck
unfolding turn
column_stuck rows width j cells h e = rw (drop-rows_of rows width cells j (omega arith), e) refl

column_chosen : (rows width j : ℕ) (cells first : List ℤ) (rest : List (List ℤ)) → Table rows width j cells first rest →
    turn j (rows_of rows width cells) ≡ turn_of (turned j (rows_of j width (take (j * width) cells)) first rest)
unfolding turn
column_chosen rows width j cells first rest t =
    let h : j ≤ rows = omega (arith, t.inside) in
    rw (drop-rows_of rows width cells j h, t.chosen.found, take-rows_of rows width cells j h, rows_of-take j width cells, t.chosen.is_first, t.chosen.is_rest) refl

pub column_upright_passes : (rows width j : ℕ) (cells first : List ℤ) (rest : List (List ℤ)) → Table rows width j cells first rest → upright j first ≡ None → turn j (rows_of rows width cells) ≡ Passed
unfolding turned
column_upright_passes rows width j cells first rest t e = column_chosen rows width j cells first rest t ∙ rw e refl

pub column_used_passes : (rows width j : ℕ) (cells first pivot : List ℤ) (rest : List (List ℤ)) → Table rows width j cells first rest → upright j first ≡ Some pivot →
    each (combined j pivot) (rows_of j width (take (j * width) cells)) ≡ None → turn j (rows_of rows width cells) ≡ Passed
unfolding turned cleared
column_used_passes rows width j cells first pivot rest t e u = column_chosen rows width j cells first rest t ∙ rw (e, u) refl

pub column_rest_passes : (rows width j : ℕ) (cells first pivot : List ℤ) (above rest : List (List ℤ)) → Table rows width j cells first rest → upright j first ≡ Some pivot →
    each (combined j pivot) (rows_of j width (take (j * width) cells)) ≡ Some above → each (combined j pivot) rest ≡ None → turn j (rows_of rows width cells) ≡ Passed
unfolding turned cleared
column_rest_passes rows width j cells first pivot above rest t e u r = column_chosen rows width j cells first rest t ∙ rw (e, u, r) refl

pub column_goes : (rows width j : ℕ) (cells first pivot used free : List ℤ) (rest : List (List ℤ)) → Table rows width j cells first rest → upright j first ≡ Some pivot →
    each (combined j pivot) (rows_of j width (take (j * width) cells)) ≡ Some (rows_of j width used) → each (combined j pivot) rest ≡ Some (rows_of (rows - j - 1) width free) →
    length used ≡ j * width → length pivot ≡ width → turn j (rows_of rows width cells) ≡ Turned (rows_of rows width (used ++ (pivot ++ free)))
unfolding turned cleared
column_goes rows width j cells first pivot used free rest t e u r lu lp =
    let n : rows ≡ j + (rows - j) = omega (arith, t.inside) in
    let split : rows_of rows width (used ++ (pivot ++ free)) ≡ rows_of j width used ++ (pivot ∷ rows_of (rows - j - 1) width free) =
    ap (λ m. rows_of m width (used ++ (pivot ++ free))) n ∙ rows_of-append j (rows - j) width used (pivot ++ free) lu
    ∙ ap (λ s. rows_of j width used ++ s) (rows_joined (rows - j) width pivot free (omega (arith, t.inside)) lp) in
    column_chosen rows width j cells first rest t ∙ rw (e, u, r) (ap Turned (sym split))

pub upright_positive : (j : ℕ) (row pivot : List ℤ) → j < length row → entry row j ≢ pos 0 → upright j row ≡ Some pivot → pos 1 ≤ℤ entry pivot j
unfolding upright negated
upright_positive j row pivot h a e = elim (bool_cases (int_lt (entry row j) (pos 0))) [
  | inl below ↦ let r = each_some _ row pivot (rw below at e) in
      let v : entry pivot j ≡ pos 0 -ℤ entry row j = within_some _ _ (r.at j (pos 0) (pos 0) h) in omega (arith, ints, v, below)
  | inr above ↦ let same : row ≡ pivot = same_Some _ _ (rw above at e) in
      let v : entry row j ≡ entry pivot j = ap (λ r. entry r j) same in omega (arith, ints, v, above)
]

pub negated_positive : (b : Bool) (j : ℕ) (row now : List ℤ) → Becomes b (negated row) now → entry row j <ℤ pos 0 → j < length row → OnTrue b (pos 1 ≤ℤ entry now j)
unfolding negated
negated_positive true j row now e below h =
    let r = each_some _ row now e in
    let v : entry now j ≡ pos 0 -ℤ entry row j = within_some _ _ (r.at j (pos 0) (pos 0) h) in omega (arith, ints, v, below)
negated_positive false j row now e below h = search rules

pub ruleset uprights = (to_z-of_z, upright_stays, upright_turns, negated_positive)

pub ruleset columns = (to_z-of_z, column_stuck, column_upright_passes, column_used_passes, column_rest_passes, column_goes, chosen_apart)
