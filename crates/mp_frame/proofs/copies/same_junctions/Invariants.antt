use Rattle.std.proofs.Common.{◌≡◌, map}
use Rattle.mp_model.specs.Network.{junction_at, numbers_to}
use Rattle.mp_net.specs.Parts.{junction_of}
use Rattle.mp_frame.proofs.copies.same_junctions.Given as goal

abbrev pub invariant-loop-j : goal.invariant-loop-j
invariant-loop-j l = map junction_of l.junctions.items ≡ map (junction_at l.net) (numbers_to l.j)
