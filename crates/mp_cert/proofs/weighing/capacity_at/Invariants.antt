use Rattle.std.proofs.Common.{pos, length}
use Rattle.mp_model.specs.Network.{junction_at, numbers_to}
use Rattle.mp_cert.specs.Weighing.{stage_taken}
use Rattle.mp_cert.proofs.RunLemmas.{Running}
use Rattle.mp_cert.proofs.weighing.capacity_at.Given as goal

abbrev pub invariant-loop-s : goal.invariant-loop-s
invariant-loop-s l = Running (stage_taken l.net l.p l.j) (pos 0) (numbers_to (length (junction_at l.net l.j).stages)) l.s l.most
