-- The digits of a number: no zero leads them, and they are digits.
use Rattle.std.proofs.Common.{◌≡◌, ◌≢◌, ◌<◌, ◌≤◌, ℕ, ◌+◌, ◌/◌, ◌%◌, ◌^◌, List, [], ◌∷◌, ◌++◌, true, false, refl, arith}
use Rattle.std.specs.Prelude.{◌==◌, decimal}
use Rattle.std.specs.Char.{digit_value}
use Rattle.std.specs.List.{list_all}
use Rattle.std.specs.Str.Parse.{AllDigits}
use Rattle.std.proofs.lemmas.Bool.Decides.{nat_tests}
use Rattle.std.proofs.lemmas.Fmt.{decimal_is_IsNumeral_wide, decimal_by_steps_wide}
use Rattle.mp_model.specs.Stream.{is_digit, is_plain}

-- no zero leads the digits of a number
abbrev LeadsWell : ℕ → List ℕ → Type 0
LeadsWell n [] = ⊥
LeadsWell n (b ∷ []) = 0 < n → (b == 48) ≡ false
LeadsWell n (b ∷ c ∷ bs) = (b == 48) ≡ false

one_digit : (n : ℕ) → n < 10 → LeadsWell n ((48 + n) ∷ [])
one_digit n small = λ some. let other : 48 + n ≢ 48 = omega arith in grind (arith, nat_tests)

more_digits : (n : ℕ) (ds : List ℕ) → 10 ≤ n → LeadsWell (n / 10) ds → LeadsWell n (ds ++ ((48 + n % 10) ∷ []))
more_digits n [] big led = absurd led
more_digits n (b ∷ []) big led = led (omega arith)
more_digits n (b ∷ c ∷ bs) big led = led

plain_from : (n : ℕ) (ds : List ℕ) → LeadsWell n ds → is_plain ds ≡ true
plain_from n [] led = absurd led
plain_from n (b ∷ []) led = refl
plain_from n (b ∷ c ∷ bs) led = rw led refl

pub decimal_plain : (n : ℕ) → n < 10 ^ 64 → is_plain (decimal n) ≡ true
decimal_plain n small = plain_from n (decimal n) (decimal_by_steps_wide LeadsWell one_digit more_digits n small)

digit_of : (c : ℕ) → digit_value c < 10 → is_digit c ≡ true
digit_of c small = grind (arith, nat_tests)

digits_from : (ds : List ℕ) → AllDigits 10 ds → list_all is_digit ds ≡ true
digits_from [] all = refl
digits_from (c ∷ cs) all = let here = digit_of c all.0 in let rest = digits_from cs all.1 in rw (here, rest) refl

pub decimal_digits : (n : ℕ) → n < 10 ^ 64 → list_all is_digit (decimal n) ≡ true
decimal_digits n small = digits_from (decimal n) (decimal_is_IsNumeral_wide n small).0.1
