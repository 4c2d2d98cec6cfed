-- What a region lends.
use Rattle.std.specs.Prelude.{ℤ, List, length}
use Rattle.std.specs.List.{refill}
use Rattle.std.specs.Borrow.{Lends, MutBor, Fml, Array, i128}
use Rattle.mp_region.specs.Cells.{Cells}
use Rattle.mp_region.specs.contracts.region.Region.{the_row}

-- A region ends with the cells that the borrower leaves, who can't change how many there are.
abbrev pub LendsCells : MutBor Cells → MutBor (List ℤ) → Fml
LendsCells region all = Lends the_row (Array i128 0) region all (λ cells. record region.now { cells = refill (length region.now.cells) region.now.cells cells })
