-- Fractions of whole numbers in lowest terms.
use Rattle.std.specs.Prelude.{◌≡◌, ℕ, ℤ, pos, ◌≤ℤ◌, unsigned_abs, int_div}
use Rattle.mp_num.specs.Divisor.{gcd_of}

-- A fraction has a numerator and a denominator.
pub record Fraction : Type 0 where
  pub num : ℤ
  pub den : ℤ

-- This is the numerator of a fraction that is not below 0.
abbrev pub numerator : Fraction → ℕ
numerator fraction = unsigned_abs fraction.num

-- This is the denominator of a fraction, which is above 0.
abbrev pub denominator : Fraction → ℕ
denominator fraction = unsigned_abs fraction.den

-- A fraction is in lowest terms where its denominator is at least 1 and the greatest common divisor of both numbers is 1.
pub record IsLowest (num den : ℤ) : Type 0 where
  pub positive : pos 1 ≤ℤ den
  pub lowest : gcd_of (unsigned_abs den) (unsigned_abs num) ≡ 1

-- This is the fraction of two numbers after both were divided by their greatest common divisor.
abbrev pub lowest_terms : ℤ → ℤ → Fraction
lowest_terms num den =
    let divisor = pos (gcd_of (unsigned_abs den) (unsigned_abs num)) in
    record { num = int_div num divisor; den = int_div den divisor }
