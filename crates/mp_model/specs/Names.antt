-- What a name is.
use Rattle.std.specs.Prelude.{◌==◌, ℕ, Bool, ◌||◌, ◌&&◌, nat_le, List, length, codes}
use Rattle.std.specs.List.{list_all}
use Rattle.std.specs.Str.{bytes_eq}

-- A byte lies between two others, or is one of them.
abbrev pub is_between : ℕ → ℕ → ℕ → Bool
is_between low high b = nat_le low b && nat_le b high

-- A byte of a name is a letter, a digit, an underscore, a hyphen or a full stop.
abbrev pub is_name_byte : ℕ → Bool
is_name_byte b = is_between 97 122 b || is_between 65 90 b || is_between 48 57 b || b == 95 || b == 45 || b == 46

-- A name has 1 to 32 bytes, each one of a name.
abbrev pub is_name : List ℕ → Bool
is_name name = nat_le 1 (length name) && nat_le (length name) 32 && list_all is_name_byte name

-- This name stands for the outside.
abbrev pub is_out : List ℕ → Bool
is_out name = bytes_eq name (codes "out")
