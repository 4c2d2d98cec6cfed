use Rattle.mp_model.specs.Network.{junction_at}
use Rattle.mp_finder.proofs.Lists.{Looking}
use Rattle.mp_finder.proofs.greens.lowest_stage.Given as goal

abbrev pub invariant-loop-s : goal.invariant-loop-s
invariant-loop-s l = Looking (junction_at l.net l.j) l.k l.s
