-- The text of a guard, and what bytes mean as a guard: a value, or the number of the first line that is not in the grammar.
use Rattle.std.specs.Prelude.{ℕ, ◌+◌, ℤ, pos, List, [], ◌∷◌, ◌++◌, length, map, drop, codes, decimal, unsigned_abs, Result, slice_index_or}
use Rattle.mp_cert.specs.TextMeaning.{Form, made, rows_of, row_at}
use Rattle.mp_cert.specs.Texts.{line_with}
use Rattle.mp_model.specs.Certificate.{int_entry}
use Rattle.mp_model.specs.Guard.{Guard}
use Rattle.mp_model.specs.Log.{text_of}
use Rattle.mp_model.specs.Network.{Network, Junction}
use Rattle.mp_model.specs.Stream.{lines_of}

-- A line of greens begins with `green` and the number of its junction.
abbrev pub green_words : ℕ → List ℕ
green_words j = codes "green " ++ decimal j

-- A line of a guard is its words and then its numbers, each with a space before it.
abbrev pub guard_line : List ℕ → List ℕ → List ℕ
guard_line words numbers = line_with words (map pos numbers)

-- These are the lines of greens, of which the first is that of junction j.
abbrev pub green_lines : ℕ → List (List ℕ) → List (List ℕ)
green_lines j [] = []
green_lines j (greens ∷ more) = guard_line (green_words j) greens ∷ green_lines (j + 1) more

-- A guard is a first line, its cycle, its lost periods, its denominator, its rates, and the greens of each junction.
abbrev pub guard_lines : Guard → List (List ℕ)
guard_lines guard =
    guard_line (codes "guard 1") []
    ∷ guard_line (codes "cycle") (guard.cycle ∷ [])
    ∷ guard_line (codes "lost") (guard.lost ∷ [])
    ∷ guard_line (codes "d") (guard.denominator ∷ [])
    ∷ guard_line (codes "h") guard.rates
    ∷ green_lines 1 guard.greens

-- The text of a guard is that of these lines.
abbrev pub guard_text : Guard → List ℕ
guard_text guard = text_of (guard_lines guard)

-- The line of the greens of a junction has its number, and a green per stage.
abbrev pub green_form : ℕ → Junction → Form
green_form j junction = record { words = green_words j; count = length junction.stages }

-- These are the forms of the lines of greens, from junction j on.
abbrev pub green_forms : ℕ → List Junction → List Form
green_forms j [] = []
green_forms j (junction ∷ junctions) = green_form j junction ∷ green_forms (j + 1) junctions

-- The lines of a guard are its first line, one number behind each of `cycle`, `lost` and `d`, one per movement behind `h`, and the lines of its greens.
abbrev pub guard_forms : Network → List Form
guard_forms net =
    record { words = codes "guard 1"; count = 0 }
    ∷ record { words = codes "cycle"; count = 1 }
    ∷ record { words = codes "lost"; count = 1 }
    ∷ record { words = codes "d"; count = 1 }
    ∷ record { words = codes "h"; count = length net.movements }
    ∷ green_forms 1 net.junctions

-- This is the form of line i of a guard, from 0.
abbrev pub form_at : Network → ℕ → Form
form_at net i = slice_index_or (guard_forms net) i (record { words = []; count = 0 })

-- This is the first number of row number k.
abbrev pub number_in : List (List ℤ) → ℕ → ℕ
number_in rows k = unsigned_abs (int_entry (row_at rows k) 1)

-- The cycle stands in the second row, the lost periods in the third, the denominator in the fourth, the rates are the fifth, and the others are greens.
abbrev pub guard_of_rows : List (List ℤ) → Guard
guard_of_rows rows = record {
  cycle = number_in rows 2;
  lost = number_in rows 3;
  denominator = number_in rows 4;
  rates = map unsigned_abs (row_at rows 5);
  greens = map (λ row. map unsigned_abs row) (drop 5 rows);
}

-- This is the guard that the bytes are for a network, or the first line that is not in the grammar.
abbrev pub guard_meaning : Network → List ℕ → Result Guard ℕ
guard_meaning net bytes = made guard_of_rows (rows_of 1 (guard_forms net) (lines_of bytes))
