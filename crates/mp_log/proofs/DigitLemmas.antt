-- The digits of a count are read back as the count.
use Rattle.std.proofs.Common.{◌≡◌, ◌<◌, ◌≤◌, ℕ, zero, suc, ◌+◌, ◌/◌, ◌%◌, ◌^◌, List, [], ◌∷◌, Bool, true, false, cond, nat_le, length, get_or, Some, None, refl, sym, ◌∙◌, ap, arith}
use Rattle.std.specs.Prelude.{◌==◌, ◌&&◌, decimal}
use Rattle.std.specs.Char.{digit_value}
use Rattle.std.specs.Fmt.{digits, digits_onto, digit_glyph}
use Rattle.std.specs.List.{list_all, All}
use Rattle.std.specs.Str.Parse.{AllDigits, digits_value}
use Rattle.std.proofs.lemmas.Bool.Decides.{nat_tests}
use Rattle.std.proofs.lemmas.Fmt.{decimal_is_IsNumeral_wide, length-decimal-le_wide, decimal-digits_value}
use Rattle.std.proofs.lemmas.Option.{same_Some}
use Rattle.std.proofs.lemmas.Str.Parse.{IsNumeralModel, numerals_by_value, tells_digits, digits_value_short}
use Rattle.std.proofs.lemmas.List.Elements.{All-cons}
use Rattle.mp_model.specs.Stream.{is_digit, is_plain, count_of}
use Rattle.mp_text.proofs.Decimals.{decimal_plain, decimal_digits}

-- the digits of a number are no spaces
other_byte : (c : ℕ) → digit_value c < 10 → (c == 32) ≡ false
other_byte c small = grind (arith, nat_tests)

no_spaces : (ds : List ℕ) → AllDigits 10 ds → All (λ b. (b == 32) ≡ false) ds
no_spaces [] all = λ k d low. absurd (omega arith)
no_spaces (c ∷ cs) all = All-cons (λ b. (b == 32) ≡ false) c cs (other_byte c all.0) (no_spaces cs all.1)

pub spaceless : (n : ℕ) → n < 10 ^ 9 → All (λ b. (b == 32) ≡ false) (decimal n)
spaceless n small = no_spaces (decimal n) (decimal_is_IsNumeral_wide n (omega arith)).0.1

-- a count is read off its digits
pub count_written : (n : ℕ) → n < 10 ^ 9 → count_of (decimal n) ≡ Some n
count_written n small =
    let wide : n < 10 ^ 64 = omega arith in
    let numeral = decimal_is_IsNumeral_wide n wide in
    let value : digits_value 10 (decimal n) ≡ n = numeral.1 in
    let plain = decimal_plain n wide in
    let all = decimal_digits n wide in
    let size : length (decimal n) ≤ 9 = length-decimal-le_wide 9 n (omega arith) small wide in
    let short : nat_le (length (decimal n)) 9 ≡ true = grind (arith, nat_tests) in
    rw (plain, all, short, value) refl

-- and a count has the digits of its number
own : IsNumeralModel (AllDigits 10) (digits_value 10)
own = numerals_by_value (AllDigits 10) tells_digits

value_of_digit : (c : ℕ) → is_digit c ≡ true → digit_value c < 10
value_of_digit c passes = grind (arith, nat_tests)

and_parts : (b c : Bool) → (b && c) ≡ true → (b ≡ true) × (c ≡ true)
and_parts true true e = (refl, refl)
and_parts true false e = cc
and_parts false c e = cc

digits_to : (ds : List ℕ) → list_all is_digit ds ≡ true → AllDigits 10 ds
digits_to [] all = tt
digits_to (c ∷ cs) all = let parts = and_parts (is_digit c) (list_all is_digit cs) all in (value_of_digit c parts.0, digits_to cs parts.1)

plain_some : (ds : List ℕ) → is_plain ds ≡ true → 0 < length ds
plain_some [] plain = cc
plain_some (b ∷ bs) plain = omega arith

plain_leads : (ds : List ℕ) → is_plain ds ≡ true → get_or ds 0 0 ≡ 48 → length ds ≡ 1
plain_leads [] plain zero_first = cc
plain_leads (b ∷ []) plain zero_first = refl
plain_leads (b ∷ c ∷ bs) plain zero_first = let zero_is : (b == 48) ≡ true = grind (arith, nat_tests) in let none : cond (b == 48) false true ≡ false = rw zero_is refl in cc

count_parts : (b c d : Bool) (v n : ℕ) → cond (b && c && d) (Some v) None ≡ Some n → (b ≡ true) × (c ≡ true) × (d ≡ true) × (v ≡ n)
count_parts true true true v n e = (refl, refl, refl, same_Some v n e)
count_parts true true false v n e = cc
count_parts true false d v n e = cc
count_parts false c d v n e = cc

pub written_count : (bs : List ℕ) (n : ℕ) → count_of bs ≡ Some n → decimal n ≡ bs
written_count bs n is =
    let parts = count_parts (is_plain bs) (list_all is_digit bs) (nat_le (length bs) 9) (digits_value 10 bs) n is in
    let short : length bs ≤ 9 = let h = parts.2 in grind (arith, nat_tests) in
    let digits = digits_to bs parts.1 in
    let small : digits_value 10 bs < 10 ^ 9 = digits_value_short own bs 9 digits short in
    ap decimal (sym parts.3) ∙ decimal-digits_value own bs digits (plain_some bs parts.0) (plain_leads bs parts.0) (omega arith)

-- no number has more than 64 digits written
onto_either : (b : Bool) (n k : ℕ) (xs acc : List ℕ) → length acc ≤ n → length xs ≤ k + n → length (cond b acc xs) ≤ k + n
onto_either true n k xs acc short long = omega arith
onto_either false n k xs acc short long = long

onto_length : (k n : ℕ) (acc : List ℕ) → length (digits_onto k 10 false n acc) ≤ k + length acc
onto_length zero n acc = omega arith
onto_length (suc k) n acc =
    let glyph = digit_glyph false (n % 10) in
    let rest : length (digits_onto k 10 false (n / 10) (glyph ∷ acc)) ≤ k + length (glyph ∷ acc) = onto_length k (n / 10) (glyph ∷ acc) in
    let most = onto_either (n / 10 == 0) (length (glyph ∷ acc)) k (digits_onto k 10 false (n / 10) (glyph ∷ acc)) (glyph ∷ acc) (omega arith) rest in omega (arith, most)

pub digits_few : (n : ℕ) → length (decimal n) ≤ 64
unfolding digits
digits_few n = onto_length 64 n []
