use Rattle.std.proofs.Common.{◌≡◌, ◌+◌, ◌-◌, ◌*◌, ◌∙◌, ap, ap₂, arith, length, slice_index}
use Rattle.mp_cert.proofs.PlaceLemmas.{in_list}
use Rattle.mp_model.specs.Guard.{red}
use Rattle.mp_model.specs.GuardedBursts.{least_holding, guarded_bound}
use Rattle.mp_model.specs.Network.{entry}
use Rattle.mp_guard.proofs.BurstLemmas.{swept_length, found_few, mapped_more}
use Rattle.mp_guard.proofs.SurplusLemmas.{surplus_few}
use Rattle.mp_guard.proofs.sweeping.bounds.Goals as goal

pub least_holding-requires-clause-length : goal.least_holding-requires-clause-length
least_holding-requires-clause-length c = ap length c.requires.bursts.found ∙ swept_length c.args.net.now c.args.guard.now (entry c.args.surpluses.now) c.requires.bursts.sweeps

pub least_holding-requires-clause-few : goal.least_holding-requires-clause-few
least_holding-requires-clause-few c = found_few c.args.net.now c.shares-shares.ensures.acceptable c.args.guard.now c.requires.guards c.args.surpluses.now c.args.bursts.now c.requires.surpluses c.requires.bursts.sweeps c.requires.bursts.few c.requires.bursts.found

pub least_holding-requires-clause-surplus : goal.least_holding-requires-clause-surplus
least_holding-requires-clause-surplus c =
    let place : c.from.result ≡ (c.loop-i.i + 1) - 1 = omega arith in
    omega (arith, ap (slice_index c.args.surpluses.now) place, surplus_few c.args.net.now c.shares-shares.ensures.acceptable c.args.surpluses.now c.requires.surpluses (c.loop-i.i + 1) (in_list (length c.args.net.now.movements) (c.loop-i.i + 1) (omega arith) (omega arith)))

pub loop-i-preserved : goal.loop-i-preserved
loop-i-preserved c =
    let net = c.args.net.now in
    let guard = c.args.guard.now in
    let place : c.from.result ≡ (c.loop-i.i + 1) - 1 = omega arith in
    let periods : 1 + 2 * c.red.result ≡ 1 + 2 * red net guard (c.loop-i.i + 1) = ap (λ n. 1 + 2 * n) c.red.ensures.periods in
    mapped_more (guarded_bound net guard (entry c.args.surpluses.now) c.args.bursts.now) c.loop-i.i c.least_holding.result c.loop-i.bounds.items c.push.new.self.items c.loop-i.invariant
    (c.least_holding.ensures ∙ ap₂ (λ s p. least_holding net guard s c.args.bursts.now (c.loop-i.i + 1) p) (ap (slice_index c.args.surpluses.now) place) periods) c.in_ok-push.ensures.items
