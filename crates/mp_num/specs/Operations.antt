-- Products, sums and differences that may exceed 128 bits; what has exceeded them stays so.
use Rattle.std.specs.Prelude.{ℕ, ℤ, pos, ◌+ℤ◌, ◌-ℤ◌, ◌*ℤ◌, List, Option, Some, option_and_then}
use Rattle.mp_num.specs.Checked.{within}
use Rattle.mp_num.specs.Passing.{stepped}

-- This is the product of two numbers, where both are there.
unfoldable pub times : Option ℤ → Option ℤ → Option ℤ
times a b = option_and_then (λ x. option_and_then (λ y. within (x *ℤ y)) b) a

-- This is the sum of two numbers, where both are there.
unfoldable pub plus : Option ℤ → Option ℤ → Option ℤ
plus a b = option_and_then (λ x. option_and_then (λ y. within (x +ℤ y)) b) a

-- This is the first number less the second, where both are there.
unfoldable pub less : Option ℤ → Option ℤ → Option ℤ
less a b = option_and_then (λ x. option_and_then (λ y. within (x -ℤ y)) b) a

-- A natural number is there.
abbrev pub num : ℕ → Option ℤ
num n = Some (pos n)

-- A sum takes in the term of x, which is formed just before.
abbrev pub added : {X : Type 0} → (X → Option ℤ) → ℤ → X → Option ℤ
added term sum x = plus (Some sum) (term x)

-- The sum of the terms of a list begins at 0.
unfoldable pub summed : {X : Type 0} → (X → Option ℤ) → List X → Option ℤ
summed term xs = stepped (added term) (pos 0) xs
