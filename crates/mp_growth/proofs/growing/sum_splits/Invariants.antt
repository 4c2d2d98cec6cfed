use Rattle.std.proofs.Common.{pos, length}
use Rattle.mp_model.specs.Network.{numbers_to}
use Rattle.mp_num.specs.Operations.{added}
use Rattle.mp_cert.proofs.RunLemmas.{Running}
use Rattle.mp_overload.specs.Forming.{split_formed}
use Rattle.mp_growth.proofs.growing.sum_splits.Given as goal

abbrev pub invariant-loop-k : goal.invariant-loop-k
invariant-loop-k l = Running (added (split_formed l.net l.p)) (pos 0) (numbers_to (length l.net.movements)) l.k l.sum
