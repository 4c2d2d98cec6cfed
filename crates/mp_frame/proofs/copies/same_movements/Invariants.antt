use Rattle.std.proofs.Common.{◌≡◌, map}
use Rattle.mp_model.specs.Network.{movement_at, numbers_to}
use Rattle.mp_net.specs.Parts.{movement_of}
use Rattle.mp_frame.proofs.copies.same_movements.Given as goal

abbrev pub invariant-loop-k : goal.invariant-loop-k
invariant-loop-k l = map movement_of l.movements.items ≡ map (movement_at l.net) (numbers_to l.k)
