-- The pieces of a text that is appended.
use Rattle.std.proofs.Common.{◌≡◌, ◌<◌, ◌≤◌, ℕ, ◌+◌, List, [], ◌∷◌, ◌++◌, length, drop, map, get_or, refl, sym, ◌∙◌, ap, arith, pos, Vec, Global, Result, Ok, Err, OnOk, is_ok, if◌then◌else◌}
use Rattle.std.specs.Prelude.{decimal}
use Rattle.std.specs.Fmt.{signed_decimal}
use Rattle.std.specs.List.{flat_map}
use Rattle.std.proofs.lemmas.List.{append_assoc, append-nil, drop_more, drop_all, length-map, get_or-map}
use Rattle.mp_model.specs.Log.{text_of}
use Rattle.mp_guard.specs.GuardText.{guard_line, green_words, green_lines}

abbrev pub spaced : List ℕ → List ℕ
spaced ns = flat_map (λ n. 32 ∷ decimal n) ns

-- what is there and what is left gives what the whole gives
pub record Spacing (old now : List ℕ) (numbers : List ℕ) (i : ℕ) : Type 0 where
  pub rest : old ++ spaced numbers ≡ now ++ spaced (drop i numbers)

pub spacing_start : (old numbers : List ℕ) → Spacing old old numbers 0
spacing_start old numbers = record { rest = refl }

pub spacing_more : (old now next numbers : List ℕ) (i : ℕ) → Spacing old now numbers i → i < length numbers → next ≡ now ++ 32 ∷ decimal (get_or numbers i 0) → Spacing old next numbers (i + 1)
spacing_more old now next numbers i s within is = record {
  rest = s.rest ∙ ap (λ ns. now ++ spaced ns) (drop_more numbers i 0 within) ∙ sym (append_assoc now (32 ∷ decimal (get_or numbers i 0)) (spaced (drop (i + 1) numbers))) ∙ ap (λ bs. bs ++ spaced (drop (i + 1) numbers)) (sym is);
}

pub spacing_end : (old now numbers : List ℕ) (i : ℕ) → Spacing old now numbers i → length numbers ≤ i → now ≡ old ++ spaced numbers
spacing_end old now numbers i s past = sym (append-nil now) ∙ ap (λ ns. now ++ spaced ns) (sym (drop_all i numbers past)) ∙ sym s.rest

pub ruleset spacings = (spacing_start, spacing_more, spacing_end)

pub spaced_is : (ns : List ℕ) → flat_map (λ n. 32 ∷ signed_decimal n) (map pos ns) ≡ spaced ns
spaced_is [] = refl
spaced_is (n ∷ ns) = ap (λ bs. (32 ∷ decimal n) ++ bs) (spaced_is ns)

pub line_is : (words ns : List ℕ) → words ++ spaced ns ≡ guard_line words ns
line_is words ns = ap (λ bs. words ++ bs) (sym (spaced_is ns))

-- the same of the lines of greens
pub record Greening (old now : List ℕ) (rows : List (List ℕ)) (i : ℕ) : Type 0 where
  pub rest : old ++ text_of (green_lines 1 rows) ≡ now ++ text_of (green_lines (i + 1) (drop i rows))

pub greening_start : (old : List ℕ) (rows : List (List ℕ)) → Greening old old rows 0
greening_start old rows = record { rest = refl }

pub greening_more : (old now next : List ℕ) (rows : List (List ℕ)) (row : List ℕ) (i : ℕ) → Greening old now rows i → i < length rows → row ≡ get_or rows i [] → next ≡ now ++ (guard_line (green_words (i + 1)) row ++ 10 ∷ []) → Greening old next rows (i + 1)
greening_more old now next rows row i g within same is =
    let line = guard_line (green_words (i + 1)) row ++ 10 ∷ [] in
    let more = text_of (green_lines (i + 1 + 1) (drop (i + 1) rows)) in
    record {
      rest = g.rest ∙ ap (λ rs. now ++ text_of (green_lines (i + 1) rs)) (drop_more rows i [] within)
          ∙ ap (λ r. now ++ ((guard_line (green_words (i + 1)) r ++ 10 ∷ []) ++ more)) (sym same)
          ∙ sym (append_assoc now line more) ∙ ap (λ bs. bs ++ more) (sym is);
    }

pub greening_end : (old now : List ℕ) (rows : List (List ℕ)) (i : ℕ) → Greening old now rows i → length rows ≤ i → now ≡ old ++ text_of (green_lines 1 rows)
greening_end old now rows i g past = sym (append-nil now) ∙ ap (λ rs. now ++ text_of (green_lines (i + 1) rs)) (sym (drop_all i rows past)) ∙ sym g.rest

-- the same with the rows of the program
pub greening_next : (old now next : List ℕ) (rows : List (Vec ℕ Global)) (row : Vec ℕ Global) (i : ℕ) → Greening old now (map (λ r. r.items) rows) i → i < length rows → row ≡ get_or rows i row → next ≡ now ++ (guard_line (green_words (i + 1)) row.items ++ 10 ∷ []) → Greening old next (map (λ r. r.items) rows) (i + 1)
greening_next old now next rows row i g within same is =
    greening_more old now next (map (λ r. r.items) rows) row.items i g (omega (arith, length-map rows (λ (r : Vec ℕ Global). r.items)))
    (ap (λ (r : Vec ℕ Global). r.items) same ∙ sym (get_or-map (λ (r : Vec ℕ Global). r.items) rows i row [] within)) is

-- a line that was appended, its words first
pub line_appended : {E : Type 0} (r : Result (Unit {0}) E) (old words_in spaced_in now words ns : List ℕ) → words_in ≡ old ++ words → spaced_in ≡ words_in ++ spaced ns → now ≡ (if is_ok r then spaced_in ++ 10 ∷ [] else spaced_in) → OnOk r (now ≡ old ++ (guard_line words ns ++ 10 ∷ []))
line_appended (Ok done) old words_in spaced_in now words ns a b c =
    c ∙ ap (λ bs. bs ++ 10 ∷ []) (b ∙ ap (λ bs. bs ++ spaced ns) a ∙ append_assoc old words (spaced ns) ∙ ap (λ bs. old ++ bs) (line_is words ns)) ∙ append_assoc old (guard_line words ns) (10 ∷ [])
line_appended (Err e) old words_in spaced_in now words ns a b c = tt
