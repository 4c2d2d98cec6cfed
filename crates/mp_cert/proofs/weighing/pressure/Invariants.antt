use Rattle.std.proofs.Common.{pos}
use Rattle.mp_cert.specs.Weighing.{pressed}
use Rattle.mp_cert.proofs.RunLemmas.{Running}
use Rattle.mp_cert.proofs.weighing.pressure.Given as goal

abbrev pub invariant-loop-k : goal.invariant-loop-k
invariant-loop-k l = Running (pressed l.net l.p) (pos 0) l.k-items l.k-index l.sum
