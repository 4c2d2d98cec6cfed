-- The names on the demonstration networks.
use Rattle.std.proofs.Common.{◌≡◌, ◌<◌, ℕ, ◌+◌, true, [], ◌∷◌, arith, sym, refl, ◌∙◌, ap, decimal}
use Rattle.std.proofs.lemmas.Bool.Decides.{nat_tests}
use Rattle.std.proofs.lemmas.Fmt.{decimal_digit}
use Rattle.mp_model.specs.Names.{is_name_byte, is_name}

-- a digit is a byte of a name
digit_is : (i : ℕ) → i < 10 → is_name_byte (48 + i) ≡ true
digit_is i low = grind (arith, nat_tests)

pub short_is : (letter i digit : ℕ) → i < 10 → is_name_byte letter ≡ true → digit ≡ 48 + i → is_name (letter ∷ digit ∷ []) ≡ true
short_is letter i digit low byte is = rw (is, byte, digit_is i low) refl

pub way_is : (letter i digit way : ℕ) → i < 10 → is_name_byte letter ≡ true → is_name_byte way ≡ true → digit ≡ 48 + i → is_name (letter ∷ digit ∷ way ∷ []) ≡ true
way_is letter i digit way low byte other is = rw (is, byte, digit_is i low, other) refl

-- a number of one digit is that digit
pub one_digit : (i digit : ℕ) → i < 10 → digit ≡ 48 + i → digit ∷ [] ≡ decimal i
one_digit i digit low is = ap (λ d. d ∷ []) is ∙ sym (decimal_digit i low)
