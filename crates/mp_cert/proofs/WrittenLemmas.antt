-- What is written is read back: fields, lines, and whole texts.
use Rattle.std.proofs.Common.{◌≡◌, ◌<◌, ◌≤◌, ℕ, suc, ◌+◌, ◌^◌, List, [], ◌∷◌, ◌++◌, Bool, true, false, cond, ◌&&◌, nat_le, ℤ, length, map, get_or, Some, Ok, refl, ◌∙◌, ap, ap₂, subst, arith}
use Rattle.std.specs.Prelude.{◌==◌, codes, decimal}
use Rattle.std.specs.Fmt.{signed_decimal}
use Rattle.std.specs.List.{list_all, flat_map, slice_split, AllByRecursion, All}
use Rattle.std.proofs.lemmas.Bool.Decides.{nat_tests}
use Rattle.std.proofs.lemmas.List.{append_assoc, append-nil}
use Rattle.std.proofs.lemmas.List.Elements.{All-from_get_or}
use Rattle.std.proofs.lemmas.List.Folds.{list_all-append}
use Rattle.std.proofs.lemmas.List.Splits.{slice_split_none, slice_split_at}
use Rattle.std.proofs.lemmas.List.Sums.{AllPass-from_list_all}
use Rattle.mp_laws.proofs.Lists.{at_number, back_one}
use Rattle.mp_model.specs.Certificate.{Cert, Mix, HasLengths, mix_at, no_mix}
use Rattle.mp_model.specs.Log.{text_of}
use Rattle.mp_model.specs.Network.{Network, Junction, junction_at, no_junction}
use Rattle.mp_model.specs.Stream.{is_digit, lines_of, without_return}
use Rattle.mp_text.specs.Cutting.{is_line_feed}
use Rattle.mp_text.proofs.RawLines.{ended_line}
use Rattle.mp_cert.specs.Texts.{line_with, mix_words, mix_numbers, mix_lines, cert_lines, cert_text, vector_lines, vector_text}
use Rattle.mp_cert.specs.TextLaws.{IsNumber, IsWritable}
use Rattle.mp_cert.specs.TextMeaning.{Form, onto, numbers_of, spaced_numbers, of_count, row_of, is_passed_over, made, row_before, rows_of, mix_forms, mix_of_row, cert_forms, cert_of_rows, cert_meaning, vector_forms, vector_meaning, row_at}
use Rattle.mp_text.proofs.Decimals.{decimal_digits}
use Rattle.mp_cert.proofs.DecimalLemmas.{big_written, written_digits}
use Rattle.mp_cert.proofs.FieldLemmas.{behind_words, row_behind, of_count_same}

abbrev written : List ℤ → List ℕ
written ns = flat_map (λ n. 32 ∷ signed_decimal n) ns

-- a byte that stands in a line
abbrev pub is_inner : ℕ → Bool
is_inner b = nat_le 32 b

digit_no_space : (b : ℕ) → is_digit b ≡ true → (b == 32) ≡ false
digit_no_space b digit = grind (arith, nat_tests)

digit_inner : (b : ℕ) → is_digit b ≡ true → is_inner b ≡ true
digit_inner b digit = grind (arith, nat_tests)

no_spaces : (bs : List ℕ) → list_all is_digit bs ≡ true → All (λ b. (b == 32) ≡ false) bs
no_spaces bs digits = All-from_get_or (λ b. (b == 32) ≡ false) bs 0 (λ i within. digit_no_space (get_or bs i 0) (AllPass-from_list_all is_digit bs digits i 0 within))

-- the numbers of fields as they are written
written_read : (ns : List ℤ) → AllByRecursion IsNumber ns → spaced_numbers (written ns) ≡ Some ns
written_read [] all = refl
written_read (n ∷ []) all =
    let field = signed_decimal n in
    ap (λ bs. numbers_of (slice_split (λ b. b == 32) bs)) (append-nil field)
    ∙ ap numbers_of (slice_split_none (λ b. b == 32) field (no_spaces field (written_digits n all.0)))
    ∙ ap (λ o. onto o (Some [])) (big_written n all.0)
written_read (n ∷ m ∷ ns) all =
    let field = signed_decimal n in
    let rest = written_read (m ∷ ns) all.1 in
    ap numbers_of (slice_split_at (λ b. b == 32) field 32 (signed_decimal m ++ written ns) (no_spaces field (written_digits n all.0)) refl)
    ∙ ap₂ onto (big_written n all.0) rest

-- a line as it is written is of its form
pub line_read : (words : List ℕ) (count : ℕ) (ns : List ℤ) → length ns ≡ count → AllByRecursion IsNumber ns → row_of (record { words = words; count = count }) (line_with words ns) ≡ Some ns
line_read words count ns size all =
    row_behind words (line_with words ns) (written ns) count (behind_words words (written ns))
    ∙ ap (of_count count) (written_read ns all)
    ∙ of_count_same count ns size

both : (a b : Bool) → a ≡ true → b ≡ true → (a && b) ≡ true
both a b first second = rw (first, second) refl

pub inner_append : (xs ys : List ℕ) → list_all is_inner xs ≡ true → list_all is_inner ys ≡ true → list_all is_inner (xs ++ ys) ≡ true
inner_append xs ys first second = list_all-append is_inner xs ys ∙ both (list_all is_inner xs) (list_all is_inner ys) first second

pub digits_inner : (bs : List ℕ) → list_all is_digit bs ≡ true → list_all is_inner bs ≡ true
digits_inner [] digits = refl
digits_inner (b ∷ bs) digits =
    let here : is_digit b ≡ true = grind (arith, nat_tests) in
    let rest : list_all is_digit bs ≡ true = grind (arith, nat_tests) in
    both (is_inner b) (list_all is_inner bs) (digit_inner b here) (digits_inner bs rest)

written_inner : (ns : List ℤ) → AllByRecursion IsNumber ns → list_all is_inner (written ns) ≡ true
written_inner [] all = refl
written_inner (n ∷ ns) all = inner_append (signed_decimal n) (written ns) (digits_inner (signed_decimal n) (written_digits n all.0)) (written_inner ns all.1)

pub line_inner : (words : List ℕ) (ns : List ℤ) → list_all is_inner words ≡ true → AllByRecursion IsNumber ns → list_all is_inner (line_with words ns) ≡ true
line_inner words ns inner all = inner_append words (written ns) inner (written_inner ns all)

inner_no_feed : (b : ℕ) → is_inner b ≡ true → is_line_feed b ≡ false
inner_no_feed b inner = grind (arith, nat_tests)

inner_no_return : (b : ℕ) → is_inner b ≡ true → (b == 13) ≡ false
inner_no_return b inner = grind (arith, nat_tests)

no_feeds : (bs : List ℕ) → list_all is_inner bs ≡ true → All (λ b. is_line_feed b ≡ false) bs
no_feeds bs inner = All-from_get_or (λ b. is_line_feed b ≡ false) bs 0 (λ i within. inner_no_feed (get_or bs i 0) (AllPass-from_list_all is_inner bs inner i 0 within))

without_none : (bs : List ℕ) → list_all is_inner bs ≡ true → without_return bs ≡ bs
without_none [] inner = refl
without_none (b ∷ []) inner = let here : is_inner b ≡ true = grind (arith, nat_tests) in rw (inner_no_return b here) refl
without_none (b ∷ c ∷ bs) inner = let rest : list_all is_inner (c ∷ bs) ≡ true = grind (arith, nat_tests) in ap (λ xs. b ∷ xs) (without_none (c ∷ bs) rest)

-- the lines of a text of lines
pub lines_written : (lines : List (List ℕ)) → AllByRecursion (λ line. list_all is_inner line ≡ true) lines → lines_of (text_of lines) ≡ lines
lines_written [] all = refl
lines_written (line ∷ lines) all =
    ap lines_of (append_assoc line (10 ∷ []) (text_of lines))
    ∙ ap (map without_return) (ended_line line (text_of lines) (no_feeds line all.0))
    ∙ ap₂ (λ first others. first ∷ others) (without_none line all.0) (lines_written lines all.1)

-- lines that are written of forms, each with its row
abbrev pub Written : List Form → List (List ℕ) → List (List ℤ) → Type 0
Written [] [] [] = Unit {0}
Written [] [] (row ∷ rows) = ⊥
Written [] (line ∷ lines) rows = ⊥
Written (form ∷ forms) [] rows = ⊥
Written (form ∷ forms) (line ∷ lines) [] = ⊥
Written (form ∷ forms) (line ∷ lines) (row ∷ rows) = (is_passed_over line ≡ false) × (row_of form line ≡ Some row) × Written forms lines rows

pub rows_written : (n : ℕ) (forms : List Form) (lines : List (List ℕ)) (rows : List (List ℤ)) → Written forms lines rows → rows_of n forms lines ≡ Ok rows
rows_written n [] [] [] written = refl
rows_written n [] [] (row ∷ rows) written = absurd written
rows_written n [] (line ∷ lines) rows written = absurd written
rows_written n (form ∷ forms) [] rows written = absurd written
rows_written n (form ∷ forms) (line ∷ lines) [] written = absurd written
rows_written n (form ∷ forms) (line ∷ lines) (row ∷ rows) written =
    ap (λ b. cond b (rows_of (n + 1) (form ∷ forms) lines) (row_before n (row_of form line) (rows_of (n + 1) forms lines))) written.0
    ∙ ap₂ (row_before n) written.1 (rows_written (n + 1) forms lines rows written.2)

-- the lines of mixes
pub mixes_written : (j : ℕ) (junctions : List Junction) (mixes : List Mix) → length mixes ≡ length junctions
    → ((i : ℕ) → i < length junctions → length (get_or mixes i no_mix).parts ≡ length (get_or junctions i no_junction).stages)
    → AllByRecursion (λ mix. IsNumber mix.whole × AllByRecursion IsNumber mix.parts) mixes → Written (mix_forms j junctions) (mix_lines j mixes) (map mix_numbers mixes)
mixes_written j [] [] size parts all = tt
mixes_written j [] (mix ∷ mixes) size parts all = absurd (omega arith)
mixes_written j (junction ∷ junctions) [] size parts all = absurd (omega arith)
mixes_written j (junction ∷ junctions) (mix ∷ mixes) size parts all =
    let stages : length mix.parts ≡ length junction.stages = parts 0 (omega arith) in (
      refl,
      line_read (mix_words j) (1 + length junction.stages) (mix_numbers mix) (omega arith) all.0,
      mixes_written (j + 1) junctions mixes (omega arith) (λ i within. parts (suc i) (omega arith)) all.1,
    )

pub mixes_inner : (j : ℕ) (mixes : List Mix) → j + length mixes ≤ 2 ^ 64 → AllByRecursion (λ mix. IsNumber mix.whole × AllByRecursion IsNumber mix.parts) mixes
    → AllByRecursion (λ line. list_all is_inner line ≡ true) (mix_lines j mixes)
mixes_inner j [] few all = tt
mixes_inner j (mix ∷ mixes) few all = (
  line_inner (mix_words j) (mix_numbers mix) (inner_append (codes "mix ") (decimal j) refl (digits_inner (decimal j) (decimal_digits j (omega arith)))) all.0,
  mixes_inner (j + 1) mixes (omega arith) all.1,
)

mixes_back : (mixes : List Mix) → map mix_of_row (map mix_numbers mixes) ≡ mixes
mixes_back [] = refl
mixes_back (mix ∷ mixes) = ap (λ ms. mix ∷ ms) (mixes_back mixes)

-- the parts of a mix, by its place
pub parts_at : (net : Network) (cert : Cert) → HasLengths net cert → (i : ℕ) → i < length net.junctions → length (get_or cert.mixes i no_mix).parts ≡ length (get_or net.junctions i no_junction).stages
parts_at net cert lengths i within =
    let P : ℕ → Type 0 = λ k. length (get_or cert.mixes k no_mix).parts ≡ length (get_or net.junctions k no_junction).stages in
    subst P (back_one i) (at_number (λ j. length (mix_at cert j).parts ≡ length (junction_at net j).stages) (length net.junctions) i within lengths.parts)

-- the text of a certificate
pub cert_read_back : (net : Network) (cert : Cert) → length cert.mixes < 2 ^ 63 → HasLengths net cert → IsWritable cert → cert_meaning net (cert_text cert) ≡ Ok cert
cert_read_back net cert few lengths writable =
    let d : AllByRecursion IsNumber (cert.d ∷ []) = (writable.denominator, tt) in
    let e : AllByRecursion IsNumber (cert.e ∷ []) = (writable.excess, tt) in
    let inner : AllByRecursion (λ line. list_all is_inner line ≡ true) (cert_lines cert) =
    (refl, (line_inner (codes "d") (cert.d ∷ []) refl d, (line_inner (codes "e") (cert.e ∷ []) refl e, (line_inner (codes "h") cert.h refl writable.rates, mixes_inner 1 cert.mixes (omega arith) writable.mixes)))) in
    let rows : Written (cert_forms net) (cert_lines cert) ([] ∷ (cert.d ∷ []) ∷ (cert.e ∷ []) ∷ cert.h ∷ map mix_numbers cert.mixes) =
    let mixes = mixes_written 1 net.junctions cert.mixes lengths.mixes
    (parts_at net cert lengths) writable.mixes in
    let h_line = line_read (codes "h") (length net.movements) cert.h lengths.rates writable.rates in
    let e_line = line_read (codes "e") 1 (cert.e ∷ []) refl e in
    let d_line = line_read (codes "d") 1 (cert.d ∷ []) refl d in
    (refl, line_read (codes "certificate 1") 0 [] refl tt, (refl, d_line, (refl, e_line, (refl, h_line, mixes)))) in
    ap (λ lines. made cert_of_rows (rows_of 1 (cert_forms net) lines)) (lines_written (cert_lines cert) inner)
    ∙ ap (made cert_of_rows) (rows_written 1 (cert_forms net) (cert_lines cert) ([] ∷ (cert.d ∷ []) ∷ (cert.e ∷ []) ∷ cert.h ∷ map mix_numbers cert.mixes) rows)
    ∙ ap (λ ms. Ok (record { d = cert.d; e = cert.e; h = cert.h; mixes = ms })) (mixes_back cert.mixes)

-- the text of a vector
pub vector_read_back : (net : Network) (p : List ℤ) → length p ≡ length net.movements → AllByRecursion IsNumber p → vector_meaning net (vector_text p) ≡ Ok p
vector_read_back net p size all =
    let inner : AllByRecursion (λ line. list_all is_inner line ≡ true) (vector_lines p) = (refl, (line_inner (codes "p") p refl all, tt)) in
    let rows : Written (vector_forms net) (vector_lines p) ([] ∷ p ∷ []) =
    (refl, line_read (codes "vector 1") 0 [] refl tt, (refl, line_read (codes "p") (length net.movements) p size all, tt)) in
    ap (λ lines. made (λ rs. row_at rs 2) (rows_of 1 (vector_forms net) lines)) (lines_written (vector_lines p) inner)
    ∙ ap (made (λ rs. row_at rs 2)) (rows_written 1 (vector_forms net) (vector_lines p) ([] ∷ p ∷ []) rows)
