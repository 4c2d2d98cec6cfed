-- Big numbers: those of certificates and vectors.
use Rattle.std.specs.Prelude.{ℕ, ◌-◌, ◌^◌, pos, ℤ, cond, ◌&&◌, nat_le, List, Option, Some, None}
use Rattle.std.specs.List.{list_all}
use Rattle.std.specs.Str.Parse.{digits_value}
use Rattle.mp_model.specs.Stream.{is_digit, is_plain}

-- A big number is `0`, or digits without a leading zero, of at most 2^127 - 1, and this is its number.
abbrev pub big_of : List ℕ → Option ℤ
big_of bs = cond (is_plain bs && list_all is_digit bs && nat_le (digits_value 10 bs) (2 ^ 127 - 1)) (Some (pos (digits_value 10 bs))) None
