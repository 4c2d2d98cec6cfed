-- What is written of a guard is read back, and is short.
use Rattle.std.proofs.Common.{◌≡◌, ◌<◌, ◌≤◌, ℕ, suc, ◌+◌, ◌*◌, ◌^◌, List, [], ◌∷◌, ◌++◌, true, ℤ, pos, length, map, get_or, Ok, refl, ◌∙◌, ap, ap₂, subst, arith}
use Rattle.std.specs.Prelude.{codes, decimal, unsigned_abs}
use Rattle.std.specs.List.{list_all, AllByRecursion}
use Rattle.std.proofs.lemmas.Fmt.{length-decimal-le_wide}
use Rattle.std.proofs.lemmas.Int.{ints}
use Rattle.std.proofs.lemmas.List.{length-append, length-map}
use Rattle.mp_cert.proofs.TextLengthLemmas.{line_length}
use Rattle.mp_cert.proofs.WrittenLemmas.{Written, is_inner, inner_append, digits_inner, line_inner, line_read, lines_written, rows_written}
use Rattle.mp_cert.specs.TextLaws.{IsNumber}
use Rattle.mp_cert.specs.TextMeaning.{made, rows_of}
use Rattle.mp_laws.proofs.Lists.{at_number, back_one}
use Rattle.mp_model.specs.Guard.{Guard, HasGuardLengths, greens_at}
use Rattle.mp_model.specs.Log.{text_of}
use Rattle.mp_model.specs.Network.{Network, Junction, junction_at, no_junction}
use Rattle.mp_model.specs.NetworkRules.{IsInRange}
use Rattle.mp_text.proofs.Decimals.{decimal_digits}
use Rattle.mp_guard.specs.GuardText.{green_words, guard_line, green_lines, guard_lines, guard_text, green_forms, guard_forms, guard_of_rows, guard_meaning}
use Rattle.mp_guard.specs.TextLaws.{IsWritable}

abbrev Small : List ℕ → Type 0
Small ns = AllByRecursion (λ n. n < 2 ^ 127) ns

number : (n : ℕ) → n < 2 ^ 127 → IsNumber (pos n)
number n small = (omega (arith, ints), omega (arith, ints))

numbers : (ns : List ℕ) → Small ns → AllByRecursion IsNumber (map pos ns)
numbers [] all = tt
numbers (n ∷ ns) all = (number n all.0, numbers ns all.1)

back : (ns : List ℕ) → map unsigned_abs (map pos ns) ≡ ns
back [] = refl
back (n ∷ ns) = ap (λ xs. n ∷ xs) (back ns)

rows_back : (rows : List (List ℕ)) → map (λ row. map unsigned_abs row) (map (λ row. map pos row) rows) ≡ rows
rows_back [] = refl
rows_back (row ∷ rows) = ap₂ (λ r rs. r ∷ rs) (back row) (rows_back rows)

greens_written : (j : ℕ) (junctions : List Junction) (rows : List (List ℕ)) → length rows ≡ length junctions
    → ((i : ℕ) → i < length junctions → length (get_or rows i []) ≡ length (get_or junctions i no_junction).stages)
    → AllByRecursion Small rows → Written (green_forms j junctions) (green_lines j rows) (map (λ row. map pos row) rows)
greens_written j [] [] size parts all = tt
greens_written j [] (row ∷ rows) size parts all = absurd (omega arith)
greens_written j (junction ∷ junctions) [] size parts all = absurd (omega arith)
greens_written j (junction ∷ junctions) (row ∷ rows) size parts all =
    let stages : length row ≡ length junction.stages = parts 0 (omega arith) in (
      refl,
      line_read (green_words j) (length junction.stages) (map pos row) (length-map row pos ∙ stages) (numbers row all.0),
      greens_written (j + 1) junctions rows (omega arith) (λ i within. parts (suc i) (omega arith)) all.1,
    )

greens_inner : (j : ℕ) (rows : List (List ℕ)) → j + length rows ≤ 100 → AllByRecursion Small rows → AllByRecursion (λ line. list_all is_inner line ≡ true) (green_lines j rows)
greens_inner j [] few all = tt
greens_inner j (row ∷ rows) few all = (
  line_inner (green_words j) (map pos row) (inner_append (codes "green ") (decimal j) refl (digits_inner (decimal j) (decimal_digits j (omega arith)))) (numbers row all.0),
  greens_inner (j + 1) rows (omega arith) all.1,
)

-- the greens of a junction, by its place
greens_there : (net : Network) (guard : Guard) → HasGuardLengths net guard → (i : ℕ) → i < length net.junctions → length (get_or guard.greens i []) ≡ length (get_or net.junctions i no_junction).stages
greens_there net guard lengths i within =
    let P : ℕ → Type 0 = λ k. length (get_or guard.greens k []) ≡ length (get_or net.junctions k no_junction).stages in
    subst P (back_one i) (at_number (λ j. length (greens_at guard j) ≡ length (junction_at net j).stages) (length net.junctions) i within lengths.greens)

pub guard_read_back : (net : Network) (guard : Guard) → IsInRange net → HasGuardLengths net guard → IsWritable guard → guard_meaning net (guard_text guard) ≡ Ok guard
guard_read_back net guard range lengths writable =
    let c : Small (guard.cycle ∷ []) = (writable.cycle, tt) in
    let l : Small (guard.lost ∷ []) = (writable.lost, tt) in
    let d : Small (guard.denominator ∷ []) = (writable.denominator, tt) in
    let few : 1 + length guard.greens ≤ 100 = omega (arith, lengths.junctions, range.junctions.1) in
    let rows : List (List ℤ) = [] ∷ (pos guard.cycle ∷ []) ∷ (pos guard.lost ∷ []) ∷ (pos guard.denominator ∷ []) ∷ map pos guard.rates ∷ map (λ row. map pos row) guard.greens in
    let inner : AllByRecursion (λ line. list_all is_inner line ≡ true) (guard_lines guard) =
    (refl, (line_inner (codes "cycle") (pos guard.cycle ∷ []) refl (numbers (guard.cycle ∷ []) c), (line_inner (codes "lost") (pos guard.lost ∷ []) refl (numbers (guard.lost ∷ []) l), (line_inner (codes "d") (pos guard.denominator ∷ []) refl (numbers (guard.denominator ∷ []) d), (line_inner (codes "h") (map pos guard.rates) refl (numbers guard.rates writable.rates), greens_inner 1 guard.greens few writable.greens))))) in
    let greens = greens_written 1 net.junctions guard.greens lengths.junctions (greens_there net guard lengths) writable.greens in
    let h_line = line_read (codes "h") (length net.movements) (map pos guard.rates) (length-map guard.rates pos ∙ lengths.rates) (numbers guard.rates writable.rates) in
    let d_line = line_read (codes "d") 1 (pos guard.denominator ∷ []) refl (numbers (guard.denominator ∷ []) d) in
    let l_line = line_read (codes "lost") 1 (pos guard.lost ∷ []) refl (numbers (guard.lost ∷ []) l) in
    let c_line = line_read (codes "cycle") 1 (pos guard.cycle ∷ []) refl (numbers (guard.cycle ∷ []) c) in
    let all : Written (guard_forms net) (guard_lines guard) rows =
    (refl, line_read (codes "guard 1") 0 [] refl tt, (refl, c_line, (refl, l_line, (refl, d_line, (refl, h_line, greens))))) in
    ap (λ lines. made guard_of_rows (rows_of 1 (guard_forms net) lines)) (lines_written (guard_lines guard) inner)
    ∙ ap (made guard_of_rows) (rows_written 1 (guard_forms net) (guard_lines guard) rows all)
    ∙ ap₂ (λ h g. Ok (record { cycle = guard.cycle; lost = guard.lost; denominator = guard.denominator; rates = h; greens = g })) (back guard.rates) (rows_back guard.greens)

-- ---- how long it is
words_length : (j : ℕ) → j < 100 → length (green_words j) ≤ 8
words_length j few = omega (arith, length-append (codes "green ") (decimal j), length-decimal-le_wide 2 j (omega arith) (omega arith) (omega arith))

a_line : (words : List ℕ) (ns : List ℕ) (text : List ℕ) → Small ns → length ((guard_line words ns ++ 10 ∷ []) ++ text) ≤ ((length words + 40 * length ns) + 1) + length text
a_line words ns text all = omega (arith, line_length words (map pos ns) text (numbers ns all), length-map ns pos)

greens_length : (j : ℕ) (junctions : List Junction) (rows : List (List ℕ)) → j + length rows ≤ 100 → length rows ≡ length junctions
    → ((i : ℕ) → i < length junctions → length (get_or rows i []) ≡ length (get_or junctions i no_junction).stages) → AllByRecursion (λ junction. length junction.stages ≤ 16) junctions
    → AllByRecursion Small rows → length (text_of (green_lines j rows)) ≤ 649 * length rows
greens_length j [] [] few size parts small all = omega arith
greens_length j [] (row ∷ rows) few size parts small all = absurd (omega arith)
greens_length j (junction ∷ junctions) [] few size parts small all = absurd (omega arith)
greens_length j (junction ∷ junctions) (row ∷ rows) few size parts small all =
    let rest = greens_length (j + 1) junctions rows (omega arith) (omega arith) (λ i within. parts (suc i) (omega arith)) small.1 all.1 in
    let stages : length row ≡ length junction.stages = parts 0 (omega arith) in
    omega (arith, a_line (green_words j) row (text_of (green_lines (j + 1) rows)) all.0, words_length j (omega arith), small.0)

pub guard_length : (net : Network) (guard : Guard) → IsInRange net → HasGuardLengths net guard → IsWritable guard → length (guard_text guard) < 100000
guard_length net guard range lengths writable =
    let greens = greens_length 1 net.junctions guard.greens (omega (arith, lengths.junctions, range.junctions.1)) lengths.junctions (greens_there net guard lengths) range.stages writable.greens in
    let g_text = text_of (green_lines 1 guard.greens) in
    let h_text = (guard_line (codes "h") guard.rates ++ 10 ∷ []) ++ g_text in
    let d_text = (guard_line (codes "d") (guard.denominator ∷ []) ++ 10 ∷ []) ++ h_text in
    let l_text = (guard_line (codes "lost") (guard.lost ∷ []) ++ 10 ∷ []) ++ d_text in
    let c_text = (guard_line (codes "cycle") (guard.cycle ∷ []) ++ 10 ∷ []) ++ l_text in
    let h = a_line (codes "h") guard.rates g_text writable.rates in
    let d = a_line (codes "d") (guard.denominator ∷ []) h_text (writable.denominator, tt) in
    let l = a_line (codes "lost") (guard.lost ∷ []) d_text (writable.lost, tt) in
    let c = a_line (codes "cycle") (guard.cycle ∷ []) l_text (writable.cycle, tt) in
    let first = a_line (codes "guard 1") [] c_text tt in
    omega (arith, first, c, l, d, h, greens, lengths.rates, lengths.junctions, range.movements.1, range.junctions.1)
