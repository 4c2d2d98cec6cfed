use Rattle.std.proofs.Common.{◌+◌, ◌∙◌, sym, arith}
use Rattle.mp_scaled.proofs.Sweeping.{carried_is, settling_above, settling_more, settling_calm, settling_below, settling_rates}
use Rattle.mp_scaled.proofs.sweep.settle.Goals as goal

pub returns-then-is_above_flow-clause-ends : goal.returns-then-is_above_flow-clause-ends
returns-then-is_above_flow-clause-ends c =
    let net = c.args.net.now in
    let is = c.carry-rate.ensures ∙ carried_is net c.requires.acceptable.network c.args.d c.args.e c.args.rates.now c.args.brought.now (c.loop-i.i + 1) (omega arith, omega arith) c.requires.value in
    settling_above net c.args.d c.args.e c.args.rates.now c.loop-i.i c.carry-rate.result (omega arith) is (sym c.is_above_flow.ensures ∙ c.if-is_above_flow.true)

pub loop-i-preserved : goal.loop-i-preserved
loop-i-preserved c =
    let net = c.args.net.now in
    let is = c.carry-rate.ensures ∙ carried_is net c.requires.acceptable.network c.args.d c.args.e c.args.rates.now c.args.brought.now (c.loop-i.i + 1) (omega arith, omega arith) c.requires.value in
    settling_more net c.args.d c.args.e c.args.rates.now c.loop-i.i c.loop-i.stable c.is_kept-stable.result c.loop-i.rates c.from-at.result c.carry-rate.result
    c.loop-i.invariant (omega arith) (omega (arith, c.loop-i.auto.rates, c.requires.size)) c.from-at.ensures is (sym c.is_above_flow.ensures ∙ c.if-is_above_flow.false) c.is_kept-stable.ensures

pub returns-then-stable-clause-ends : goal.returns-then-stable-clause-ends
returns-then-stable-clause-ends c =
    let net = c.args.net.now in (
      settling_below net c.args.d c.args.e c.args.rates.now c.loop-i.i c.loop-i.stable c.loop-i.rates c.loop-i.invariant (omega arith),
      sym (settling_calm net c.args.d c.args.e c.args.rates.now c.loop-i.i c.loop-i.stable c.loop-i.rates c.loop-i.invariant (omega arith)) ∙ c.if-stable.true,
    )

pub returns-then-stable-clause-rates : goal.returns-then-stable-clause-rates
returns-then-stable-clause-rates c =
    settling_rates c.args.net.now c.args.d c.args.e c.args.rates.now c.loop-i.i c.loop-i.stable c.loop-i.rates c.loop-i.invariant (omega (arith, c.loop-i.auto.rates, c.requires.size)) (omega arith)

pub returns-else-stable-clause-ends : goal.returns-else-stable-clause-ends
returns-else-stable-clause-ends c =
    let net = c.args.net.now in (
      settling_below net c.args.d c.args.e c.args.rates.now c.loop-i.i c.loop-i.stable c.loop-i.rates c.loop-i.invariant (omega arith),
      sym (settling_calm net c.args.d c.args.e c.args.rates.now c.loop-i.i c.loop-i.stable c.loop-i.rates c.loop-i.invariant (omega arith)) ∙ c.if-stable.false,
    )

pub returns-else-stable-clause-rates : goal.returns-else-stable-clause-rates
returns-else-stable-clause-rates c =
    settling_rates c.args.net.now c.args.d c.args.e c.args.rates.now c.loop-i.i c.loop-i.stable c.loop-i.rates c.loop-i.invariant (omega (arith, c.loop-i.auto.rates, c.requires.size)) (omega arith)
