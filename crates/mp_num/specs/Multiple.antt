-- The least common multiple as a calculation that may exceed 128 bits.
use Rattle.std.specs.Prelude.{ℤ, pos, ◌*ℤ◌, Option, unsigned_abs, int_div}
use Rattle.mp_num.specs.Checked.{within}
use Rattle.mp_num.specs.Divisor.{gcd_of}

-- This is the least common multiple of two positive numbers: the first divided by their greatest common divisor, times the second.
unfoldable pub lcm_of : ℤ → ℤ → Option ℤ
lcm_of a b = within (int_div a (pos (gcd_of (unsigned_abs a) (unsigned_abs b))) *ℤ b)
