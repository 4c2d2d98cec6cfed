-- Where no place has a copy.
use Rattle.std.proofs.Common.{◌≡◌, ◌<◌, ℕ, suc, ◌+◌, List, [], ◌∷◌, length, get_or, map, Option, Some, None, is_some, false, arith, refl, ap₂, subst, ⊎_elim, ◌≤◌}
use Rattle.std.proofs.lemmas.Bool.{cases_lt}
use Rattle.mp_model.specs.EventCore.{Copy}

-- the places before i have no copy
pub record NoneBefore (row : List (Option Copy)) (i : ℕ) : Type 0 where
  pub none : (m : ℕ) → m < i → get_or row m None ≡ None

pub none_first : (row : List (Option Copy)) → NoneBefore row 0
none_first row = record { none = λ m h. absurd (omega arith) }

pub none_more : (row : List (Option Copy)) (i : ℕ) → NoneBefore row i → get_or row i None ≡ None → NoneBefore row (i + 1)
none_more row i h here = record {
  none = λ m lt. ⊎_elim (λ (l : m < i). h.none m l) (λ (g : i ≤ m). let e : i ≡ m = omega arith in subst (λ n. get_or row n None ≡ None) e here) (cases_lt m i);
}

none_all : (row : List (Option Copy)) → ((m : ℕ) → m < length row → get_or row m None ≡ None) → row ≡ map (λ copy. None) row
none_all [] h = refl
none_all (o ∷ row) h = ap₂ ◌∷◌ (h 0 (omega arith)) (none_all row (λ m lt. h (suc m) (omega arith)))

pub none_in_row : (row : List (Option Copy)) (i : ℕ) → NoneBefore row i → length row ≤ i → row ≡ map (λ copy. None) row
none_in_row row i h le = none_all row (λ m lt. h.none m (omega arith))

-- the rows before i have no copy
pub record IdleBefore (rows : List (List (Option Copy))) (i : ℕ) : Type 0 where
  pub none : (m : ℕ) → m < i → get_or rows m [] ≡ map (λ copy. None) (get_or rows m [])

pub idle_first : (rows : List (List (Option Copy))) → IdleBefore rows 0
idle_first rows = record { none = λ m h. absurd (omega arith) }

pub idle_more : (rows : List (List (Option Copy))) (i : ℕ) → IdleBefore rows i → get_or rows i [] ≡ map (λ copy. None) (get_or rows i []) → IdleBefore rows (i + 1)
idle_more rows i h here = record {
  none = λ m lt. ⊎_elim (λ (l : m < i). h.none m l) (λ (g : i ≤ m). let e : i ≡ m = omega arith in subst (λ n. get_or rows n [] ≡ map (λ copy. None) (get_or rows n [])) e here) (cases_lt m i);
}

idle_all : (rows : List (List (Option Copy))) → ((m : ℕ) → m < length rows → get_or rows m [] ≡ map (λ copy. None) (get_or rows m [])) → rows ≡ map (map (λ copy. None)) rows
idle_all [] h = refl
idle_all (row ∷ rows) h = ap₂ ◌∷◌ (h 0 (omega arith)) (idle_all rows (λ m lt. h (suc m) (omega arith)))

pub idle_rows : (rows : List (List (Option Copy))) (i : ℕ) → IdleBefore rows i → length rows ≤ i → rows ≡ map (map (λ copy. None)) rows
idle_rows rows i h le = idle_all rows (λ m lt. h.none m (omega arith))

-- a place that is not taken is empty
pub not_taken : (o : Option Copy) → is_some o ≡ false → o ≡ None
not_taken None e = refl
not_taken (Some copy) e = cc
