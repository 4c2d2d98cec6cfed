use Rattle.std.proofs.Common.{◌∙◌, length, ap, arith}
use Rattle.mp_model.specs.Network.{fed}
use Rattle.mp_log.proofs.FedLemmas.{fed_few}
use Rattle.mp_gen.proofs.Fills.{fed_at, filled_drawn}
use Rattle.mp_gen.proofs.arrivals.draw_all.Goals as goal

pub draw-requires : goal.draw-requires
draw-requires c = fed_at c.args.session.now.net c.fed-l-items.result.now c.loop-l.l-index (c.fed-l-items.ensures ∙ ap fed c.net-net.ensures) c.loop-l-test.true

pub push-requires : goal.push-requires
push-requires c =
    (omega arith, omega (arith, c.loop-l-test.true, c.loop-l.invariant.count, ap length c.fed-l-items.ensures, fed_few c.net-net.result.now, c.links-links.ensures.count, c.links-links.ensures.few))

pub returns-clause-drawn : goal.returns-clause-drawn
returns-clause-drawn c =
    filled_drawn c.args.session.now.net c.args.session.now.round.standing c.args.words.now c.loop-l.words c.loop-l.into.items c.loop-l.l-index c.loop-l.invariant
    (omega (arith, c.loop-l-test.false, ap length (c.fed-l-items.ensures ∙ ap fed c.net-net.ensures)))
