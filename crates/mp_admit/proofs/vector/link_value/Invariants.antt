use Rattle.std.proofs.Common.{Some}
use Rattle.mp_model.specs.Network.{share_of}
use Rattle.mp_model.specs.Certificate.{int_entry}
use Rattle.mp_num.specs.Operations.{times, num}
use Rattle.mp_admit.proofs.SpreadLemmas.{Bringing}
use Rattle.mp_admit.proofs.vector.link_value.Given as goal

abbrev pub invariant-loop-k : goal.invariant-loop-k
invariant-loop-k l = Bringing (λ k. times (num (share_of l.net k)) (Some (int_entry l.values k))) l.k-items l.k-index l.sum
