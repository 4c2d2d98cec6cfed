-- The numbers of a table in place.
use Rattle.std.proofs.Common.{◌≡◌, ℕ, ◌+◌, ◌*◌, ◌<◌, List, get_or, ℤ, pos, arith}
use Rattle.std.proofs.lemmas.Nat.{mul-add-lt}
use Rattle.mp_num.specs.Row.{entry, rows_of}
use Rattle.mp_num.proofs.TableLemmas.{entry-rows_of}
use Rattle.mp_simplex.specs.Tableau.{row_of}

-- A place of a row is inside the table.
pub inside_rows : (r width k rows : ℕ) → r < rows → k < width → r * width + k < rows * width
inside_rows r width k rows h l = omega (arith, mul-add-lt r width k rows h l)

-- A number of a table is found by its row and place.
pub entry_is : (rows width : ℕ) (cells : List ℤ) (r k : ℕ) → r < rows → k < width → entry (row_of (rows_of rows width cells) r) k ≡ get_or cells (r * width + k) (pos 0)
entry_is rows width cells r k h l = entry-rows_of rows width cells r k h l

pub ruleset entries = (inside_rows, entry_is)
