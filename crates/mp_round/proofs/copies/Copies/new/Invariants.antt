use Rattle.std.proofs.Common.{◌≡◌, map, take, Option, None}
use Rattle.mp_model.specs.EventCore.{Copy}
use Rattle.mp_model.specs.Network.{targets}
use Rattle.mp_round.proofs.copies.Copies.new.Given as goal

abbrev pub invariant-loop-i : goal.invariant-loop-i
invariant-loop-i l = map (λ row. row.items) l.rows.items ≡ map (λ j. map (λ l. let none : Option Copy = None in none) (targets l.net j)) (take l.i l.net.junctions)
