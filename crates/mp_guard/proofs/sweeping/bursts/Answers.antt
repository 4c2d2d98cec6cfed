use Rattle.std.proofs.Common.{◌∙◌, ap, sym, arith, length, rules}
use Rattle.std.proofs.lemmas.Bool.{false≢true}
use Rattle.mp_model.specs.Network.{entry}
use Rattle.mp_guard.proofs.BurstLemmas.{swept_length, found_few, sweeping_start, sweeping_more, sweeping_rests}
use Rattle.mp_guard.proofs.sweeping.bursts.Goals as goal

pub loop-sweeps-init : goal.loop-sweeps-init
loop-sweeps-init c = sweeping_start c.args.net.now c.args.guard.now (entry c.args.surpluses.now) c.from-size.result c.in_ok-bursts.bursts.items (omega arith) (search rules)

pub sweep-requires-clause-length : goal.sweep-requires-clause-length
sweep-requires-clause-length c = ap length (c.deref-in-loop-sweeps.ensures.value ∙ c.loop-sweeps.invariant.found) ∙ swept_length c.args.net.now c.args.guard.now (entry c.args.surpluses.now) c.loop-sweeps._sweeps

pub sweep-requires-clause-few : goal.sweep-requires-clause-few
sweep-requires-clause-few c = found_few c.args.net.now c.shares-shares.ensures.acceptable c.args.guard.now c.requires.guards c.args.surpluses.now c.deref-in-loop-sweeps.result.now c.requires.surpluses c.loop-sweeps._sweeps c.loop-sweeps-test.true (c.deref-in-loop-sweeps.ensures.value ∙ c.loop-sweeps.invariant.found)

pub returns-then-are_same-clause-ok : goal.returns-then-are_same-clause-ok
returns-then-are_same-clause-ok c = sweeping_rests c.args.net.now c.args.guard.now c.args.surpluses.now c.loop-sweeps._sweeps c.loop-sweeps.bursts.items c.deref-in-loop-sweeps.result.now c.in_ok-next.next.items c.loop-sweeps.invariant c.loop-sweeps-test.true
    c.deref-in-loop-sweeps.ensures.value c.in_ok-next.ensures (c.are_same.ensures.0 c.if-are_same.true)

pub loop-sweeps-preserved : goal.loop-sweeps-preserved
loop-sweeps-preserved c = sweeping_more c.args.net.now c.args.guard.now (entry c.args.surpluses.now) c.loop-sweeps._sweeps c.loop-sweeps.bursts.items c.deref-in-loop-sweeps.result.now c.in_ok-next.next.items c.loop-sweeps.invariant
    c.deref-in-loop-sweeps.ensures.value c.in_ok-next.ensures (λ is. false≢true (sym c.if-are_same.false ∙ c.are_same.ensures.1 is))

pub returns-clause-sweeps : goal.returns-clause-sweeps
returns-clause-sweeps c = λ is n within. c.loop-sweeps.invariant.none n (omega arith)
