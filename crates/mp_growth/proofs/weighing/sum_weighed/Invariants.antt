use Rattle.std.proofs.Common.{pos, length}
use Rattle.mp_model.specs.Network.{numbers_to, entry}
use Rattle.mp_num.specs.Operations.{added}
use Rattle.mp_press.specs.Queues.{naturals}
use Rattle.mp_cert.proofs.RunLemmas.{Running}
use Rattle.mp_overload.specs.Forming.{weighed}
use Rattle.mp_growth.proofs.weighing.sum_weighed.Given as goal

abbrev pub invariant-loop-k : goal.invariant-loop-k
invariant-loop-k l = Running (added (weighed l.net l.p (entry (naturals l.queues)))) (pos 0) (numbers_to (length l.net.movements)) l.k l.sum
