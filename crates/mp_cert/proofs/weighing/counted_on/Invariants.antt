use Rattle.std.proofs.Common.{pos}
use Rattle.mp_num.specs.Operations.{added}
use Rattle.mp_cert.specs.Weighing.{counted}
use Rattle.mp_cert.proofs.RunLemmas.{Running}
use Rattle.mp_cert.proofs.weighing.counted_on.Given as goal

abbrev pub invariant-loop-j : goal.invariant-loop-j
invariant-loop-j l = Running (added (counted l.net l.p)) (pos 0) l.j-items l.j-index l.sum
