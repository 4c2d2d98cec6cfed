-- How long texts are.
use Rattle.std.proofs.Common.{◌≡◌, ◌<◌, ◌≤◌, ℕ, suc, ◌+◌, ◌*◌, List, [], ◌∷◌, ◌++◌, ℤ, length, get_or, arith}
use Rattle.std.specs.Prelude.{codes, decimal}
use Rattle.std.specs.Fmt.{signed_decimal}
use Rattle.std.specs.List.{flat_map, AllByRecursion}
use Rattle.std.proofs.lemmas.Fmt.{length-decimal-le_wide}
use Rattle.std.proofs.lemmas.List.{length-append}
use Rattle.mp_model.specs.Certificate.{Cert, Mix, HasLengths, no_mix}
use Rattle.mp_model.specs.Log.{text_of}
use Rattle.mp_model.specs.Network.{Network, Junction, no_junction}
use Rattle.mp_model.specs.NetworkRules.{IsInRange}
use Rattle.mp_cert.specs.Texts.{line_with, mix_words, mix_numbers, mix_lines, cert_text, vector_text}
use Rattle.mp_cert.specs.TextLaws.{IsNumber, IsWritable}
use Rattle.mp_cert.proofs.DecimalLemmas.{written_length}
use Rattle.mp_cert.proofs.WrittenLemmas.{parts_at}

numbers_length : (ns : List ℤ) → AllByRecursion IsNumber ns → length (flat_map (λ n. 32 ∷ signed_decimal n) ns) ≤ 40 * length ns
numbers_length [] all = omega arith
numbers_length (n ∷ ns) all =
    let rest = numbers_length ns all.1 in
    let here = written_length n all.0 in
    omega (arith, length-append (32 ∷ signed_decimal n) (flat_map (λ m. 32 ∷ signed_decimal m) ns))

-- a line, with its end
pub line_length : (words : List ℕ) (ns : List ℤ) (text : List ℕ) → AllByRecursion IsNumber ns → length ((line_with words ns ++ 10 ∷ []) ++ text) ≤ ((length words + 40 * length ns) + 1) + length text
line_length words ns text all =
    omega (arith, numbers_length ns all, length-append (line_with words ns ++ 10 ∷ []) text, length-append (line_with words ns) (10 ∷ []), length-append words (flat_map (λ n. 32 ∷ signed_decimal n) ns))

words_length : (j : ℕ) → j < 100 → length (mix_words j) ≤ 6
words_length j few = omega (arith, length-append (codes "mix ") (decimal j), length-decimal-le_wide 2 j (omega arith) (omega arith) (omega arith))

-- the lines of mixes with at most 16 parts
mixes_length : (j : ℕ) (junctions : List Junction) (mixes : List Mix) → j + length mixes ≤ 100 → length mixes ≡ length junctions
    → ((i : ℕ) → i < length junctions → length (get_or mixes i no_mix).parts ≡ length (get_or junctions i no_junction).stages) → AllByRecursion (λ junction. length junction.stages ≤ 16) junctions
    → AllByRecursion (λ mix. IsNumber mix.whole × AllByRecursion IsNumber mix.parts) mixes → length (text_of (mix_lines j mixes)) ≤ 687 * length mixes
mixes_length j [] [] few size parts small all = omega arith
mixes_length j [] (mix ∷ mixes) few size parts small all = absurd (omega arith)
mixes_length j (junction ∷ junctions) [] few size parts small all = absurd (omega arith)
mixes_length j (junction ∷ junctions) (mix ∷ mixes) few size parts small all =
    let rest = mixes_length (j + 1) junctions mixes (omega arith) (omega arith) (λ i within. parts (suc i) (omega arith)) small.1 all.1 in
    let stages : length mix.parts ≡ length junction.stages = parts 0 (omega arith) in
    omega (arith, line_length (mix_words j) (mix_numbers mix) (text_of (mix_lines (j + 1) mixes)) all.0, words_length j (omega arith), small.0)

pub cert_length : (net : Network) (cert : Cert) → IsInRange net → HasLengths net cert → IsWritable cert → length (cert_text cert) < 100000
cert_length net cert range lengths writable =
    let mixes = mixes_length 1 net.junctions cert.mixes (omega (arith, range.junctions.1, lengths.mixes)) lengths.mixes
    (parts_at net cert lengths) range.stages writable.mixes in
    let h_text = text_of (mix_lines 1 cert.mixes) in
    let e_text = (line_with (codes "h") cert.h ++ 10 ∷ []) ++ h_text in
    let d_text = (line_with (codes "e") (cert.e ∷ []) ++ 10 ∷ []) ++ e_text in
    let first_text = (line_with (codes "d") (cert.d ∷ []) ++ 10 ∷ []) ++ d_text in
    let h = line_length (codes "h") cert.h h_text writable.rates in
    let e = line_length (codes "e") (cert.e ∷ []) e_text (writable.excess, tt) in
    let d = line_length (codes "d") (cert.d ∷ []) d_text (writable.denominator, tt) in
    let first = line_length (codes "certificate 1") [] first_text tt in
    omega (arith, first, d, e, h, mixes, lengths.rates, lengths.mixes, range.movements.1, range.junctions.1)

pub vector_length : (net : Network) (p : List ℤ) → IsInRange net → length p ≡ length net.movements → AllByRecursion IsNumber p → length (vector_text p) < 100000
vector_length net p range size all =
    let p_text = (line_with (codes "p") p ++ 10 ∷ []) ++ [] in
    let numbers = line_length (codes "p") p [] all in
    let first = line_length (codes "vector 1") [] p_text tt in
    omega (arith, first, numbers, range.movements.1)
