use Rattle.std.proofs.Common.{pos, length}
use Rattle.mp_model.specs.Network.{numbers_to}
use Rattle.mp_num.specs.Operations.{added}
use Rattle.mp_cert.specs.Weighing.{junction_formed}
use Rattle.mp_cert.proofs.RunLemmas.{Running}
use Rattle.mp_cert.proofs.weighing.capacity.Given as goal

abbrev pub invariant-loop-j : goal.invariant-loop-j
invariant-loop-j l = Running (added (junction_formed l.net l.p)) (pos 0) (numbers_to (length l.net.junctions)) l.j l.sum
