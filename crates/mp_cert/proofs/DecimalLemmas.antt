-- The digits of a number are read back as the number.
use Rattle.std.proofs.Common.{◌≡◌, ◌<◌, ◌≤◌, ℕ, ◌-◌, ◌^◌, true, nat_le, ℤ, pos, negsuc, length, Some, refl, arith}
use Rattle.std.specs.Prelude.{decimal}
use Rattle.std.specs.Fmt.{signed_decimal}
use Rattle.std.specs.List.{list_all}
use Rattle.std.specs.Str.Parse.{digits_value}
use Rattle.std.proofs.lemmas.Bool.Decides.{nat_tests}
use Rattle.std.proofs.lemmas.Fmt.{decimal_is_IsNumeral_wide, length-decimal-le_wide}
use Rattle.std.proofs.lemmas.Int.{ints}
use Rattle.mp_model.specs.Stream.{is_digit}
use Rattle.mp_text.specs.Bigs.{big_of}
use Rattle.mp_text.proofs.Decimals.{decimal_plain, decimal_digits}
use Rattle.mp_cert.specs.TextLaws.{IsNumber}

-- numbers below 2^127 have at most 39 digits, and more room than that is there
wide : (n : ℕ) → n < 2 ^ 127 → n < 10 ^ 64
wide n small = omega arith

small_enough : (n : ℕ) → n < 2 ^ 127 → nat_le n (2 ^ 127 - 1) ≡ true
small_enough n small = let low : n ≤ 2 ^ 127 - 1 = omega arith in grind (arith, nat_tests)

pub big_decimal : (n : ℕ) → n < 2 ^ 127 → big_of (decimal n) ≡ Some (pos n)
big_decimal n small =
    let value : digits_value 10 (decimal n) ≡ n = (decimal_is_IsNumeral_wide n (wide n small)).1 in
    let plain = decimal_plain n (wide n small) in
    let all = decimal_digits n (wide n small) in
    let low = small_enough n small in
    rw (plain, all, value, low) refl

-- the same of a number of a text
pub big_written : (z : ℤ) → IsNumber z → big_of (signed_decimal z) ≡ Some z
big_written (pos n) number = big_decimal n (omega (arith, ints, number.1))
big_written (negsuc n) number = absurd (omega (arith, ints, number.0))

pub written_digits : (z : ℤ) → IsNumber z → list_all is_digit (signed_decimal z) ≡ true
written_digits (pos n) number = decimal_digits n (wide n (omega (arith, ints, number.1)))
written_digits (negsuc n) number = absurd (omega (arith, ints, number.0))

short : (n : ℕ) → n < 2 ^ 127 → n < 10 ^ 39
short n small = omega arith

pub written_length : (z : ℤ) → IsNumber z → length (signed_decimal z) ≤ 39
written_length (pos n) number = length-decimal-le_wide 39 n (omega arith) (short n (omega (arith, ints, number.1))) (wide n (omega (arith, ints, number.1)))
written_length (negsuc n) number = absurd (omega (arith, ints, number.0))
