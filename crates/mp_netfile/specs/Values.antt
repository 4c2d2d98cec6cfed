-- What stands at a key, and the version of a file.
use Rattle.std.specs.Prelude.{ℕ, ℤ, pos, negsuc, Bool, ◌==◌, ◌||◌, List, unwrap_or, codes}
use Rattle.toml.specs.Data.{Data}
use Rattle.mp_tree.specs.Tree.{integer_at}

-- This is the integer at a key, and 0 where the key is absent.
abbrev pub integer_or_zero : List ℕ → Data → ℤ
integer_or_zero key row = unwrap_or (integer_at key row) (pos 0)

-- This is a signed number that is not below 0, and 0 for one that is.
abbrev pub natural : ℤ → ℕ
natural (pos n) = n
natural (negsuc n) = 0

-- This is the number at a key, and 0 where the key is absent.
abbrev pub number_at : List ℕ → Data → ℕ
number_at key row = natural (integer_or_zero key row)

-- This is the version that a tree names, and 0 where that is no number from 0 on.
abbrev pub version_of : Data → ℕ
version_of tree = number_at (codes "version") tree

-- A number is a version of network files.
abbrev pub is_version : ℕ → Bool
is_version version = version == 1 || version == 2 || version == 3

-- The files of a version list start queues.
abbrev pub has_starts : ℕ → Bool
has_starts version = version == 2 || version == 3

-- The files of a version list a delay.
abbrev pub has_delay : ℕ → Bool
has_delay version = version == 3
