-- The lines of a text, where its first line is known.
use Rattle.std.proofs.Common.{◌≡◌, ◌≢◌, ◌≤◌, ◌<◌, ℕ, zero, suc, List, [], ◌∷◌, ◌++◌, length, take, get_or, true, false, cond, refl, sym, ◌∙◌, ap, arith}
use Rattle.std.specs.Prelude.{◌==◌}
use Rattle.std.specs.List.{slice_split, onto_first}
use Rattle.std.proofs.lemmas.List.{length-append}
use Rattle.std.proofs.lemmas.List.Splits.{slice_split_at, slice_split_none, slice_split-cons_no}
use Rattle.std.proofs.lemmas.List.Elements.{All-head, All-tail}
use Rattle.std.proofs.lemmas.Bool.Decides.{nat_tests}
use Rattle.mp_model.specs.Stream.{lines_of_parts, raw_lines, without_return}
use Rattle.mp_text.specs.Cutting.{is_line_feed, NoLineFeed, without_last, ended_lines}

abbrev parts : List ℕ → List (List ℕ)
parts text = slice_split is_line_feed text

-- there is always a part
some_part : (text : List ℕ) → (part : List ℕ) × (more : List (List ℕ)) × (parts text ≡ part ∷ more)
some_part [] = ([], [], refl)
some_part (b ∷ bs) =
    elim (is_line_feed b) as (λ v. (part : List ℕ) × (more : List (List ℕ)) × (cond v ([] ∷ parts bs) (onto_first b (parts bs)) ≡ part ∷ more)) [
      | true ↦ ([], parts bs, refl)
      | false ↦ let rest = some_part bs in (b ∷ rest.0, rest.1, ap (onto_first b) rest.2)
    ]

line_then : (line part : List ℕ) (more : List (List ℕ)) → lines_of_parts (line ∷ part ∷ more) ≡ line ∷ lines_of_parts (part ∷ more)
line_then [] part more = refl
line_then (b ∷ bs) part more = refl

-- a line that ends at a line feed is the first
pub ended_line : (line rest : List ℕ) → NoLineFeed line → raw_lines (line ++ 10 ∷ rest) ≡ line ∷ raw_lines rest
ended_line line rest plain =
    let next = some_part rest in
    ap lines_of_parts (slice_split_at is_line_feed line 10 rest plain refl ∙ ap (λ ps. line ∷ ps) next.2)
    ∙ line_then line next.0 next.1 ∙ ap (λ ps. line ∷ lines_of_parts ps) (sym next.2)

-- it is the first of those that a line feed ends
pub ended_first : (line rest : List ℕ) → NoLineFeed line → ended_lines (line ++ 10 ∷ rest) ≡ line ∷ ended_lines rest
ended_first line rest plain =
    let next = some_part rest in
    ap without_last (slice_split_at is_line_feed line 10 rest plain refl ∙ ap (λ ps. line ∷ ps) next.2)
    ∙ ap (λ ps. line ∷ without_last ps) (sym next.2)

-- and of a text without one there are none
pub ended_none : (bytes : List ℕ) → NoLineFeed bytes → ended_lines bytes ≡ []
ended_none bytes plain = ap without_last (slice_split_none is_line_feed bytes plain)

-- a text without a line feed is one line
pub last_line : (line : List ℕ) → NoLineFeed line → 0 < length line → raw_lines line ≡ line ∷ raw_lines []
last_line [] plain some = absurd (omega arith)
last_line (b ∷ bs) plain some = ap lines_of_parts (slice_split_none is_line_feed (b ∷ bs) plain)

-- bytes without a line feed stand at the front of the first part
front_part : (front part : List ℕ) (more : List (List ℕ)) (rest : List ℕ) → NoLineFeed front → parts rest ≡ part ∷ more → parts (front ++ rest) ≡ (front ++ part) ∷ more
front_part [] part more rest plain is = is
front_part (b ∷ bs) part more rest plain is =
    slice_split-cons_no is_line_feed b (bs ++ rest) (All-head (λ x. is_line_feed x ≡ false) b bs plain)
    ∙ ap (onto_first b) (front_part bs part more rest (All-tail (λ x. is_line_feed x ≡ false) b bs plain) is)

some_line : (b : ℕ) (bs : List ℕ) (more : List (List ℕ)) → (later : List (List ℕ)) × (lines_of_parts ((b ∷ bs) ∷ more) ≡ (b ∷ bs) ∷ later)
some_line b bs [] = ([], refl)
some_line b bs (part ∷ more) = (lines_of_parts (part ∷ more), refl)

-- bytes without a line feed stand at the front of the first line
pub long_line : (front rest : List ℕ) → NoLineFeed front → 0 < length front → (raw : List ℕ) × (more : List (List ℕ)) × (raw_lines (front ++ rest) ≡ raw ∷ more) × (length front ≤ length raw)
long_line [] rest plain some = absurd (omega arith)
long_line (b ∷ bs) rest plain some =
    let next = some_part rest in
    let line = some_line b (bs ++ next.0) next.1 in
    (b ∷ (bs ++ next.0), line.0, ap lines_of_parts (front_part (b ∷ bs) next.0 next.1 rest plain next.2) ∙ line.1, omega (arith, length-append (b ∷ bs) next.0))

-- the line without a carriage return at its end
pub return_dropped : (line : List ℕ) (n : ℕ) → length line ≡ suc n → get_or line n 0 ≡ 13 → take n line ≡ without_return line
return_dropped [] n size last = absurd (omega arith)
return_dropped (b ∷ []) zero size last = rw last refl
return_dropped (b ∷ []) (suc n) size last = absurd (omega arith)
return_dropped (b ∷ c ∷ bs) zero size last = absurd (omega arith)
return_dropped (b ∷ c ∷ bs) (suc n) size last = ap (λ xs. b ∷ xs) (return_dropped (c ∷ bs) n (omega arith) last)

other_byte : (b : ℕ) → b ≢ 13 → (b == 13) ≡ false
other_byte b other = grind (arith, nat_tests)

pub no_return : (line : List ℕ) (n : ℕ) → length line ≡ suc n → get_or line n 0 ≢ 13 → take (length line) line ≡ without_return line
no_return [] n size last = absurd (omega arith)
no_return (b ∷ []) zero size last = rw (other_byte b last) refl
no_return (b ∷ []) (suc n) size last = absurd (omega arith)
no_return (b ∷ c ∷ bs) zero size last = absurd (omega arith)
no_return (b ∷ c ∷ bs) (suc n) size last = ap (λ xs. b ∷ xs) (no_return (c ∷ bs) n (omega arith) last)
