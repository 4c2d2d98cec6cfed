use Rattle.mp_model.specs.Network.{junction_at}
use Rattle.mp_admit.proofs.RowLemmas.{Siding}
use Rattle.mp_admit.proofs.junction.right_sides.Given as goal

abbrev pub invariant-loop-s : goal.invariant-loop-s
invariant-loop-s l = Siding (junction_at l.net l.j).stages l._s l.sides.items
