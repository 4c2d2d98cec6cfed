use Rattle.std.proofs.Common.{length}
use Rattle.mp_flow.specs.Calculating.{flows_of}
use Rattle.mp_verdict.specs.Rates.{need_at}
use Rattle.mp_admit.proofs.PushLemmas.{Numbering}
use Rattle.mp_admit.proofs.rates.with_needs.Given as goal

abbrev pub invariant-loop-k : goal.invariant-loop-k
invariant-loop-k l = Numbering (need_at l.net (flows_of l.flows) l.slack) (length l.net.movements) l.fn.numbers.items l.k l.row.items
