-- Numbers and the lines of mixes, one after another.
use Rattle.std.proofs.Common.{◌≡◌, ◌<◌, ℕ, ◌+◌, List, [], ◌∷◌, ◌++◌, ℤ, pos, length, take, map, get_or, sym, ◌∙◌, ap, arith, add-zero}
use Rattle.std.specs.Fmt.{signed_decimal}
use Rattle.std.specs.List.{flat_map}
use Rattle.std.proofs.lemmas.List.{append_assoc, append-nil, take_more, length-take-le, length-map, take-map, get_or-map}
use Rattle.std.proofs.lemmas.Grind.{flat_map-append}
use Rattle.mp_model.specs.Certificate.{Mix}
use Rattle.mp_model.specs.Log.{text_of}
use Rattle.mp_cert.specs.declared.types.Mix as code
use Rattle.mp_cert.specs.Views.{mix_of}
use Rattle.mp_cert.specs.Texts.{line_with, mix_words, mix_numbers, mix_lines}

-- one number more was appended
pub numbers_next : (numbers : List ℤ) (i : ℕ) → i < length numbers
    → flat_map (λ n. 32 ∷ signed_decimal n) (take (i + 1) numbers) ≡ flat_map (λ n. 32 ∷ signed_decimal n) (take i numbers) ++ 32 ∷ signed_decimal (get_or numbers i (pos 0))
numbers_next numbers i within =
    ap (flat_map (λ n. 32 ∷ signed_decimal n)) (take_more numbers i (pos 0) within)
    ∙ flat_map-append (λ n. 32 ∷ signed_decimal n) (take i numbers) (get_or numbers i (pos 0) ∷ [])
    ∙ ap (λ bs. flat_map (λ n. 32 ∷ signed_decimal n) (take i numbers) ++ bs) (append-nil (32 ∷ signed_decimal (get_or numbers i (pos 0))))

-- the lines of mixes, and one more
mixes_push : (j : ℕ) (mixes : List Mix) (mix : Mix) → text_of (mix_lines j (mixes ++ mix ∷ [])) ≡ text_of (mix_lines j mixes) ++ (line_with (mix_words (j + length mixes)) (mix_numbers mix) ++ 10 ∷ [])
mixes_push j [] mix = rw (add-zero j) (append-nil (line_with (mix_words j) (mix_numbers mix) ++ 10 ∷ []))
mixes_push j (first ∷ mixes) mix =
    let here = line_with (mix_words j) (mix_numbers first) ++ 10 ∷ [] in
    let same : (j + 1) + length mixes ≡ j + length (first ∷ mixes) = omega arith in
    ap (λ bs. here ++ bs) (mixes_push (j + 1) mixes mix)
    ∙ sym (append_assoc here (text_of (mix_lines (j + 1) mixes)) (line_with (mix_words ((j + 1) + length mixes)) (mix_numbers mix) ++ 10 ∷ []))
    ∙ ap (λ i. (here ++ text_of (mix_lines (j + 1) mixes)) ++ (line_with (mix_words i) (mix_numbers mix) ++ 10 ∷ [])) same

-- one mix more was appended
mixes_more : (mixes : List Mix) (i : ℕ) (d : Mix) → i < length mixes
    → text_of (mix_lines 1 (take (i + 1) mixes)) ≡ text_of (mix_lines 1 (take i mixes)) ++ (line_with (mix_words (i + 1)) (mix_numbers (get_or mixes i d)) ++ 10 ∷ [])
mixes_more mixes i d within =
    let same : 1 + length (take i mixes) ≡ i + 1 = omega (arith, length-take-le i mixes (omega arith)) in
    ap (λ ms. text_of (mix_lines 1 ms)) (take_more mixes i d within)
    ∙ mixes_push 1 (take i mixes) (get_or mixes i d)
    ∙ ap (λ j. text_of (mix_lines 1 (take i mixes)) ++ (line_with (mix_words j) (mix_numbers (get_or mixes i d)) ++ 10 ∷ [])) same

-- the same of the mixes of the program
pub mixes_next : (mixes : List code.Mix) (i : ℕ) (mix : code.Mix) → i < length mixes → mix ≡ get_or mixes i mix
    → text_of (mix_lines 1 (map mix_of (take (i + 1) mixes))) ≡ text_of (mix_lines 1 (map mix_of (take i mixes))) ++ (line_with (mix_words (i + 1)) (mix_numbers (mix_of mix)) ++ 10 ∷ [])
mixes_next mixes i mix within is =
    let inside : i < length (map mix_of mixes) = omega (arith, length-map mixes mix_of) in
    ap (λ ms. text_of (mix_lines 1 ms)) (sym (take-map mix_of (i + 1) mixes))
    ∙ mixes_more (map mix_of mixes) i (mix_of mix) inside
    ∙ ap (λ ms. text_of (mix_lines 1 ms) ++ (line_with (mix_words (i + 1)) (mix_numbers (get_or (map mix_of mixes) i (mix_of mix))) ++ 10 ∷ [])) (take-map mix_of i mixes)
    ∙ ap (λ m. text_of (mix_lines 1 (map mix_of (take i mixes))) ++ (line_with (mix_words (i + 1)) (mix_numbers m) ++ 10 ∷ [])) (get_or-map mix_of mixes i mix (mix_of mix) within ∙ ap mix_of (sym is))
