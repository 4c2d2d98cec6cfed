use Rattle.std.proofs.Common.{◌+◌, max, refl, ◌∙◌, ap, subst, arith}
use Rattle.mp_model.specs.Network.{Network}
use Rattle.mp_step.specs.Standing.{Standing}
use Rattle.mp_session.specs.SessionView.{SessionView}
use Rattle.mp_model.specs.Load.{greatest as greatest_of}
use Rattle.mp_gen.specs.Demonstration.{ClosesNext}
use Rattle.mp_gen.proofs.Periods.{shown_start, shown_more, shown_end}
use Rattle.mp_gen.proofs.Limits.{demonstrated_below}
use Rattle.mp_gen.proofs.demonstration.demonstrate.Goals as goal

pub loop-turn-init : goal.loop-turn-init
loop-turn-init c = record {
  shown = shown_start c.args.session.now.net c.args.n c.args.session.now.round.standing c.new-arrivals.result c.requires.network c.requires.start c.requires.taken c.new-arrivals.ensures;
  same = refl;
  period = c.requires.start.period;
}

pub next_period-requires-clause-delay : goal.next_period-requires-clause-delay
next_period-requires-clause-delay c = ap (λ (s : SessionView). s.net.delay) c.loop-turn.invariant.same ∙ ap (λ (net : Network). net.delay) c.requires.network

pub loop-turn-preserved : goal.loop-turn-preserved
loop-turn-preserved c =
    let before = c.loop-turn.invariant in
    let new = c.next_period.new.session in
    let left = c.next_period.new.arrivals in
    let closes = subst (λ (net : Network). ClosesNext net c.loop-turn.session.round.standing new.round.standing c.loop-turn.arrivals left) (ap (λ (s : SessionView). s.net) before.same) c.next_period.ensures.closes in
    let now = c.max-greatest.ensures ∙ ap (λ q. max q c.loop-turn.greatest) (c.greatest_of.ensures ∙ ap greatest_of (c.queues.ensures.value ∙ ap (λ (st : Standing). st.queues) c.state.ensures)) in
    record {
      shown = shown_more c.args.session.now.net c.args.n c.loop-turn.session.round.standing new.round.standing c.loop-turn.arrivals left c.loop-turn._turn (c.loop-turn._turn + 1) c.loop-turn.greatest c.max-greatest.result before.shown closes refl now;
      same = c.next_period.ensures.same ∙ ap (λ (s : SessionView). record s { round = new.round }) before.same;
      period = c.next_period.ensures.period ∙ ap (λ p. p + 1) before.period;
    }

pub returns-clause-bounded : goal.returns-clause-bounded
returns-clause-bounded c =
    let s = c.args.session.now in
    let last = c.loop-turn in
    let shown = shown_end s.net c.args.n last.session.round.standing last.arrivals last._turn last.greatest c.requires.network (omega arith) last.invariant.shown in
    demonstrated_below s c.round.ensures.kept c.args.n last.session.round.standing last.greatest shown
