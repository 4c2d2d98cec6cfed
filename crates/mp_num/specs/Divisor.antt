-- Greatest common divisors, of two numbers and of a list.
use Rattle.std.specs.Prelude.{ℕ, zero, suc, ℤ, pos, ◌-◌, ◌%◌, ◌^◌, ◌||◌, nat_eq, nat_lt, if◌then◌else◌, List, fold, map, unsigned_abs, int_div}

-- These are at most so many of Euclid's steps.
unfoldable pub euclid : ℕ → ℕ → ℕ → ℕ
euclid zero a b = a
euclid (suc steps) a zero = a
euclid (suc steps) a (suc b) = euclid steps (suc b) (a % suc b)

-- This is the greatest common divisor of two numbers, 0 for two zeros.
unfoldable pub gcd_of : ℕ → ℕ → ℕ
gcd_of a b = euclid b a b

-- This is the greatest common divisor of a list of numbers, 0 for zeros alone.
unfoldable pub divisor : List ℤ → ℕ
divisor xs = fold (λ g x. gcd_of g (unsigned_abs x)) 0 xs

-- This is the list with each number divided by a divisor; at the divisor 0, or at one that has no place in 128 signed bits, it is the list itself.
unfoldable pub divided : ℕ → List ℤ → List ℤ
divided g xs = if nat_eq g 0 || nat_lt (2 ^ 127 - 1) g then xs else map (λ x. int_div x (pos g)) xs

-- This is the list with each number divided by the greatest common divisor of all.
unfoldable pub reduced : List ℤ → List ℤ
reduced xs = divided (divisor xs) xs
