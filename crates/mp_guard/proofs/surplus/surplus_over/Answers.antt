use Rattle.std.proofs.Common.{◌≡◌, true, length, arith, refl, subst}
use Rattle.mp_cert.proofs.PlaceLemmas.{in_list}
use Rattle.mp_model.specs.Network.{has, movement_numbers}
use Rattle.mp_guard.proofs.SurplusLemmas.{Spans, spans_start, spans_more, credited, credited_from, surplus_is}
use Rattle.mp_guard.proofs.surplus.surplus_over.Goals as goal

pub loop-n-init : goal.loop-n-init
loop-n-init c = record { len = c.requires.len; spans = spans_start (credited c.args.net.now c.args.k) c.from-total.result (omega (arith, c.from-total.ensures)) }

pub loop-n-preserved : goal.loop-n-preserved
loop-n-preserved c =
    let net = c.args.net.now in
    let in' : has (movement_numbers net) c.args.k ≡ true = in_list (length net.movements) c.args.k c.requires.movement.0 c.requires.movement.1 in
    let is = credited_from net c.requires.acceptable.network c.args.k in' c.loop-n.n c.credit.result c.credit.ensures.credit in
    record {
      len = c.credit.ensures.len;
      spans = rw (c.widened-span.ensures.high, c.widened-span.ensures.low) (spans_more (credited net c.args.k) c.loop-n.n c.loop-n.span.high c.loop-n.span.low c.credit.result c.loop-n.invariant.spans is);
    }

pub returns : goal.returns
returns c =
    let net = c.args.net.now in
    let in' : has (movement_numbers net) c.args.k ≡ true = in_list (length net.movements) c.args.k c.requires.movement.0 c.requires.movement.1 in
    let end : c.loop-n.n ≡ net.shares = omega (arith, c.requires.acceptable.network.shares) in
    surplus_is net c.requires.acceptable.network c.args.k in' c.loop-n.span.high c.loop-n.span.low _ (subst (λ m. Spans (credited net c.args.k) m c.loop-n.span.high c.loop-n.span.low) end c.loop-n.invariant.spans) refl
