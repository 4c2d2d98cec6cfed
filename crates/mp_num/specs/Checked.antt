-- Whole numbers that may exceed 128 bits.
use Rattle.std.specs.declared.cmp.Ordering.{Ordering}
use Rattle.std.specs.Ordering.{int_cmp}
use Rattle.std.specs.Prelude.{ℤ, pos, negsuc, Option, Some, None, Bool, if◌then◌else◌, nat_lt, ◌^◌}

-- A whole number fits where it is at least -2^127 and below 2^127.
abbrev pub fits : ℤ → Bool
fits (pos n) = nat_lt n (2 ^ 127)
fits (negsuc n) = nat_lt n (2 ^ 127)

-- This is the number itself where it fits 128 bits, and nothing where it exceeds them.
unfoldable pub within : ℤ → Option ℤ
within z = if fits z then Some z else None

-- This is how two numbers compare, and nothing where one of them has exceeded 128 bits.
abbrev pub compared : Option ℤ → Option ℤ → Option Ordering
compared (Some left) (Some right) = Some (int_cmp left right)
compared (Some left) None = None
compared None right = None
