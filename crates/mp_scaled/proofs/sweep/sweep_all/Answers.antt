use Rattle.std.proofs.Common.{◌≡◌, refl, arith, length, replicate, rules}
use Rattle.mp_scaled.proofs.Sweeping.{kept_few, sweeping_start, sweeping_above, sweeping_stable, sweeping_more}
use Rattle.mp_trial.specs.Sweeps.{is_stable}
use Rattle.mp_scaled.proofs.sweep.sweep_all.Goals as goal

pub loop-i-init : goal.loop-i-init
loop-i-init c =
    let filled : c.fill.new.self ≡ replicate (length c.args.rates.now) 0 = search rules in
    sweeping_start c.args.net.now c.args.d c.args.e c.fill.new.self (length c.args.rates.now) 0 refl c.requires.size filled

pub bring-requires-clause-each : goal.bring-requires-clause-each
bring-requires-clause-each c =
    kept_few c.args.net.now c.requires.acceptable.range c.args.d c.loop-i.rates c.requires.denominator (omega (arith, c.loop-i.auto.rates, c.requires.size)) c.loop-i.invariant.below

pub returns-in-Above : goal.returns-in-Above
returns-in-Above c =
    sweeping_above c.args.net.now c.args.d c.args.e c.loop-i._i c.loop-i.rates c.settle.new.rates (is_stable c.args.net.now c.args.d c.args.e c.loop-i.rates) c.loop-i.invariant (omega arith) c.in-Above.ensures.ends

pub returns-in-Stable : goal.returns-in-Stable
returns-in-Stable c =
    sweeping_stable c.args.net.now c.args.d c.args.e c.loop-i._i c.loop-i.rates c.settle.new.rates c.loop-i.invariant (omega arith) (omega (arith, c.loop-i.auto.rates, c.requires.size)) c.in-Stable.ensures.ends c.in-Stable.ensures.rates

pub loop-i-preserved : goal.loop-i-preserved
loop-i-preserved c =
    sweeping_more c.args.net.now c.args.d c.args.e c.loop-i._i c.loop-i.rates c.settle.new.rates c.loop-i.invariant (omega arith) c.in-Moving.ensures.ends c.in-Moving.ensures.rates
