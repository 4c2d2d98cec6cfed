use Rattle.std.proofs.Common.{pos, Some}
use Rattle.mp_num.specs.Operations.{added}
use Rattle.mp_cert.proofs.RunLemmas.{Running}
use Rattle.mp_cert.proofs.rules.sum_of.Given as goal

abbrev pub invariant-loop-number : goal.invariant-loop-number
invariant-loop-number l = Running (added (λ part. Some part)) (pos 0) l.numbers l.number-index l.sum
