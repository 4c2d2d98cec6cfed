use Rattle.std.proofs.Common.{◌≡◌, ◌+◌, ◌-◌, ◌*◌, ◌∙◌, ap, ap₂, arith, length, slice_index}
use Rattle.mp_cert.proofs.PlaceLemmas.{in_list}
use Rattle.mp_model.specs.Guard.{red}
use Rattle.mp_model.specs.GuardedBursts.{least_holding}
use Rattle.mp_model.specs.Network.{entry}
use Rattle.mp_guard.proofs.BurstLemmas.{reds_give, reds_length, red_small, mapped_more}
use Rattle.mp_guard.proofs.SurplusLemmas.{surplus_few}
use Rattle.mp_guard.proofs.sweeping.sweep.Goals as goal

pub bounds-reds-at : goal.bounds-reds-at
bounds-reds-at c = omega (arith, reds_length c.args.net.now c.args.guard.now c.args.reds.now c.requires.reds)

pub overflow_mul-reds : goal.overflow_mul-reds
overflow_mul-reds c = omega (arith, (reds_give c.args.net.now c.args.guard.now c.args.reds.now c.from-at.result c.requires.reds (omega arith)), red_small c.args.net.now c.args.guard.now c.requires.guards (c.from-at.result + 1))

pub least_holding-requires-clause-periods : goal.least_holding-requires-clause-periods
least_holding-requires-clause-periods c = omega (arith, (reds_give c.args.net.now c.args.guard.now c.args.reds.now c.from-at.result c.requires.reds (omega arith)), red_small c.args.net.now c.args.guard.now c.requires.guards (c.from-at.result + 1))

pub least_holding-requires-clause-surplus : goal.least_holding-requires-clause-surplus
least_holding-requires-clause-surplus c =
    let place : c.from-at.result ≡ (c.loop-i.i + 1) - 1 = omega arith in
    omega (arith, ap (slice_index c.args.surpluses.now) place, surplus_few c.args.net.now c.requires.acceptable c.args.surpluses.now c.requires.surpluses (c.loop-i.i + 1) (in_list (length c.args.net.now.movements) (c.loop-i.i + 1) (omega arith) (omega arith)))

pub loop-i-preserved : goal.loop-i-preserved
loop-i-preserved c =
    let net = c.args.net.now in
    let guard = c.args.guard.now in
    let place : c.from-at.result ≡ (c.loop-i.i + 1) - 1 = omega arith in
    let here : c.from-at.result ≡ c.loop-i.i = omega arith in
    let periods : 2 * slice_index c.args.reds.now c.from-at.result ≡ 2 * red net guard (c.loop-i.i + 1) = ap (λ n. 2 * n) (reds_give c.args.net.now c.args.guard.now c.args.reds.now c.from-at.result c.requires.reds (omega arith) ∙ ap (λ i. red net guard (i + 1)) here) in
    mapped_more (λ k. least_holding net guard (entry c.args.surpluses.now k) c.args.before.now k (2 * red net guard k)) c.loop-i.i c.least_holding.result c.loop-i.bursts.items c.push.new.self.items c.loop-i.invariant
    (c.least_holding.ensures ∙ ap₂ (λ s p. least_holding net guard s c.args.before.now (c.loop-i.i + 1) p) (ap (slice_index c.args.surpluses.now) place) periods) c.in_ok-push.ensures.items
