use Rattle.std.proofs.Common.{◌≡◌, ◌+◌, ◌∙◌, length, ap, subst, arith, rules}
use Rattle.mp_edge.specs.Outside.{Tells}
use Rattle.mp_model.specs.Network.{Network}
use Rattle.mp_model.specs.NetworkRules.{IsAcceptable}
use Rattle.mp_model.specs.Log.{header_lines}
use Rattle.mp_num.specs.Fraction.{numerator, denominator}
use Rattle.mp_press.specs.Queues.{naturals}
use Rattle.mp_step.specs.Standing.{Standing}
use Rattle.mp_session.specs.SessionView.{SessionView}
use Rattle.mp_event_audit.specs.Auditing.{MovesOn, TakesNext}
use Rattle.mp_event_audit.specs.declared.auditing.Logged.TheVariants.{Period, End, Other}
use Rattle.mp_event_audit.proofs.Differing.{auditing_more, auditing_differs, auditing_ends}
use Rattle.mp_event_audit.proofs.auditing.audit_periods.Goals as goal

net_same : (old new : SessionView) → new ≡ record old { round = new.round } → new.net ≡ old.net
net_same old new same = ap (λ (s : SessionView). s.net) same

same_after : (old mid new : SessionView) → mid ≡ record old { round = mid.round } → new ≡ record mid { round = new.round } → new ≡ record old { round = new.round }
same_after old mid new before after = after ∙ ap (λ (s : SessionView). record s { round = new.round }) before

pub loop-input-smaller : goal.loop-input-smaller
loop-input-smaller g c = let low = c.in-Period.ensures.moves.1 in let period = c.in-Period.ensures.moves.2.period in omega (arith, low, period)

pub loop-input-preserved : goal.loop-input-preserved
loop-input-preserved g c =
    let s = c.args.session.now in
    let old = c.loop-input.session.round in
    let new = c.take_next.new.session.round in
    let net : c.loop-input.session.net ≡ s.net = net_same s c.loop-input.session c.loop-input.invariant.same in
    let ok : IsAcceptable s.net = subst IsAcceptable net c.round.ensures.kept.acceptable in
    let moves = subst (λ (n : Network). MovesOn n c.take_next.new.cutter.line Period old new) net c.in-Period.ensures.moves in
    let takes = subst (λ (n : Network). Tells (g.In.Source.left c.loop-input.input) (g.In.Source.left c.take_next.new.input) (TakesNext n Period old c.loop-input.cutter c.take_next.new.cutter)) net c.in-Period.ensures.takes in
    record {
      auditing = λ whole seen. auditing_more s.net ok (numerator s.slack) (denominator s.slack) (naturals s.bounds) whole (g.In.Source.left c.loop-input.input) (g.In.Source.left c.take_next.new.input) c.loop-input.cutter c.take_next.new.cutter old new (c.loop-input.invariant.auditing whole seen) moves takes;
      same = same_after s c.loop-input.session c.take_next.new.session c.loop-input.invariant.same c.take_next.ensures.same;
      later = search rules;
    }

pub returns-in-End-clause-ends : goal.returns-in-End-clause-ends
returns-in-End-clause-ends g c =
    let s = c.args.session.now in
    let old = c.loop-input.session.round in
    let new = c.take_next.new.session.round in
    let net : c.loop-input.session.net ≡ s.net = net_same s c.loop-input.session c.loop-input.invariant.same in
    let ok : IsAcceptable s.net = subst IsAcceptable net c.round.ensures.kept.acceptable in
    let moves = subst (λ (n : Network). MovesOn n c.take_next.new.cutter.line End old new) net c.in-End.ensures.moves in
    let takes = subst (λ (n : Network). Tells (g.In.Source.left c.loop-input.input) (g.In.Source.left c.take_next.new.input) (TakesNext n End old c.loop-input.cutter c.take_next.new.cutter)) net c.in-End.ensures.takes in
    let period : c.period-period.result ≡ old.standing.period = c.period-period.ensures.value ∙ ap (λ (st : Standing). st.period) c.state.ensures in
    let header : c.from-header.result ≡ length (header_lines s.net (numerator s.slack) (denominator s.slack) (naturals s.bounds)) =
    c.from-header.ensures ∙ c.header_lines.ensures.count (numerator s.slack) (denominator s.slack) (naturals s.bounds) ∙ ap (λ (n : Network). length (header_lines n (numerator s.slack) (denominator s.slack) (naturals s.bounds))) c.net.ensures in
    λ whole seen. auditing_ends s.net ok (numerator s.slack) (denominator s.slack) (naturals s.bounds) c.finish_audit.result whole (g.In.Source.left c.loop-input.input) (g.In.Source.left c.take_next.new.input) (g.In.Source.left c.finish_audit.new.input)
    c.loop-input.cutter c.take_next.new.cutter old new c.period-period.result (c.from-header.result + c.period-period.result + 1 + 1) (c.loop-input.invariant.auditing whole seen) (omega (arith, period, c.period-period.ensures.few)) period (omega (arith, period, header)) moves takes c.finish_audit.ensures.ends

pub returns-in-Other-clause-ends : goal.returns-in-Other-clause-ends
returns-in-Other-clause-ends g c =
    let s = c.args.session.now in
    let old = c.loop-input.session.round in
    let net : c.loop-input.session.net ≡ s.net = net_same s c.loop-input.session c.loop-input.invariant.same in
    let ok : IsAcceptable s.net = subst IsAcceptable net c.round.ensures.kept.acceptable in
    let takes = subst (λ (n : Network). Tells (g.In.Source.left c.loop-input.input) (g.In.Source.left c.take_next.new.input) (TakesNext n Other old c.loop-input.cutter c.take_next.new.cutter)) net c.in-Other.ensures.takes in
    let period : c.period-period.result ≡ old.standing.period = c.period-period.ensures.value ∙ ap (λ (st : Standing). st.period) c.state.ensures in
    let header : c.from-header.result ≡ length (header_lines s.net (numerator s.slack) (denominator s.slack) (naturals s.bounds)) =
    c.from-header.ensures ∙ c.header_lines.ensures.count (numerator s.slack) (denominator s.slack) (naturals s.bounds) ∙ ap (λ (n : Network). length (header_lines n (numerator s.slack) (denominator s.slack) (naturals s.bounds))) c.net.ensures in
    λ whole seen. auditing_differs s.net ok (numerator s.slack) (denominator s.slack) (naturals s.bounds) whole (g.In.Source.left c.loop-input.input) (g.In.Source.left c.take_next.new.input)
    c.loop-input.cutter c.take_next.new.cutter old (c.from-header.result + c.period-period.result + 1) (c.loop-input.invariant.auditing whole seen) (omega (arith, period, c.period-period.ensures.few)) (omega (arith, period, header)) takes
