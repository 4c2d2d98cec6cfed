use Rattle.std.proofs.Common.{Some}
use Rattle.mp_flow.specs.Calculating.{flows_of}
use Rattle.mp_num.specs.Operations.{times}
use Rattle.mp_verdict.specs.Rates.{unit_need}
use Rattle.mp_admit.proofs.SumLemmas.{Summing}
use Rattle.mp_admit.proofs.turns.sum_units.Given as goal

abbrev pub invariant-loop-i : goal.invariant-loop-i
invariant-loop-i l = Summing (λ k z. times (unit_need l.net (flows_of l.flows) k) (Some z)) l.own l.values l.i l.sum
