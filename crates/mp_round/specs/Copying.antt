-- The copies that the junctions have.
use Rattle.std.specs.Prelude.{List, Option, map}
use Rattle.mp_model.specs.EventCore.{Copy}
use Rattle.mp_round.specs.declared.copies.Copies.TheInside.{Inside}

-- These are the copies of each junction.
abbrev pub copies_in : Inside → List (List (Option Copy))
copies_in copies = map (λ row. row.items) copies.rows.items
