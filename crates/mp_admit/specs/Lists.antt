-- What the lists of the code stand for.
use Rattle.std.specs.Prelude.{List, ◌++◌, Option, option_map, ℤ}

-- These are the numbers of a list with those of a calculation behind them.
abbrev pub before : List ℤ → Option (List ℤ) → Option (List ℤ)
before done rest = option_map (λ ys. done ++ ys) rest
