use Rattle.std.proofs.Common.{◌∙◌, sym, arith}
use Rattle.std.proofs.lemmas.Bool.{false≢true}
use Rattle.mp_plan.proofs.Marking.{none_end, none_more}
use Rattle.mp_plan.proofs.cycles.first_on_cycle.Goals as goal

pub loop-l-preserved : goal.loop-l-preserved
loop-l-preserved c = none_more c.args.net.now c.loop-l.l c.loop-l.invariant (λ on. false≢true (sym c.if-is_on_cycle.false ∙ c.is_on_cycle.ensures.1 on))

pub returns : goal.returns
returns c = none_end c.args.net.now c.shares-shares.ensures.acceptable.network c.loop-l.l c.loop-l.invariant (omega (arith, c.links-l-end.ensures.count, c.loop-l-test.false))
