use Rattle.std.proofs.Common.{◌≡◌, ◌+◌, ◌∙◌, map, pos, ap, sym, refl, subst, arith}
use Rattle.mp_model.specs.Arrivals.{HasCounts}
use Rattle.mp_model.specs.Network.{Network}
use Rattle.mp_round.specs.RoundView.{RoundView}
use Rattle.mp_run.proofs.PeriodLemmas.{signed_is}
use Rattle.mp_session.specs.SessionView.{SessionView}
use Rattle.mp_step.specs.Standing.{Standing}
use Rattle.mp_event_run.proofs.Bounding.{closed_line_fits}
use Rattle.mp_event_run.proofs.Takings.{closes_arrivals, cuts_arrivals, refuses_arrivals}
use Rattle.mp_event_run.proofs.run.close_period.Goals as goal

pub put_period_in-requires : goal.put_period_in-requires
put_period_in-requires g c =
    let new = c.close_all.new.self in
    let there : c.state-state.result.now ≡ new.round.standing = c.state-state.ensures ∙ ap (λ (r : RoundView). r.standing) c.round-round.ensures.value in
    let chosen : c.stages-stages.result.now ≡ new.round.last = c.stages-stages.ensures ∙ ap (λ (r : RoundView). r.last) c.round-round.ensures.value in
    let later = c.in-Ok.ensures.advances.period in
    let here = ap (λ (st : Standing). st.period) there in
    let number = c.period-period.ensures.value in
    let net : c.args.session.now.net ≡ new.net = sym (ap (λ (s : SessionView). s.net) c.close_all.ensures.same) in
    closed_line_fits new c.round-round.ensures.kept c.state-state.result.now c.period-period.result c.args.arrivals.now c.stages-stages.result.now c.queues-queues.result.now there number (omega arith) chosen
    (subst (λ (n : Network). HasCounts n c.args.arrivals.now) net c.requires.counts) c.requires.digits c.period-period.ensures.few
    (signed_is c.queues-queues.result.now c.state-state.result.now.queues c.queues-queues.ensures.counts.none_negative c.queues-queues.ensures.value) c.queues-queues.ensures.few

pub returns-in-Err-clause-takes : goal.returns-in-Err-clause-takes
returns-in-Err-clause-takes g c =
    let old = c.args.session.now in
    let number = ap (λ (st : Standing). st.period) (c.state.ensures ∙ ap (λ (r : RoundView). r.standing) c.round.ensures.value) in
    let count = c.period-next.ensures.value in (
      refuses_arrivals old.net c.round.ensures.kept.acceptable.network c.args.arrivals.now c.requires.counts old.round (c.period-next.result + 1) c.in-Err.field-0.link (omega arith) c.in-Err.ensures.answer,
      refl,
    )

pub returns-in-Ok-put_period_in-clause-takes : goal.returns-in-Ok-put_period_in-clause-takes
returns-in-Ok-put_period_in-clause-takes g c =
    let old = c.args.session.now in
    let new = c.close_all.new.self in
    let there : c.state-state.result.now ≡ new.round.standing = c.state-state.ensures ∙ ap (λ (r : RoundView). r.standing) c.round-round.ensures.value in
    let chosen : c.stages-stages.result.now ≡ new.round.last = c.stages-stages.ensures ∙ ap (λ (r : RoundView). r.last) c.round-round.ensures.value in
    let queues : c.queues-queues.result.now ≡ map pos new.round.standing.queues =
    signed_is c.queues-queues.result.now new.round.standing.queues c.queues-queues.ensures.counts.none_negative (c.queues-queues.ensures.value ∙ ap (λ (st : Standing). st.queues) there) in
    closes_arrivals old.net c.round.ensures.kept.acceptable.network c.args.arrivals.now c.requires.counts old.round new.round c.close_all.ensures.core c.in-Ok.ensures.answer c.stages-stages.result.now c.period-period.result _ _
    chosen (c.period-period.ensures.value ∙ ap (λ (st : Standing). st.period) there) (c.in-Ok-put_period_in.ensures.bytes new.round.standing.queues queues)

pub returns-in-Err-put_period_in-clause-takes : goal.returns-in-Err-put_period_in-clause-takes
returns-in-Err-put_period_in-clause-takes g c =
    let old = c.args.session.now in
    let new = c.close_all.new.self in
    let there : c.state-state.result.now ≡ new.round.standing = c.state-state.ensures ∙ ap (λ (r : RoundView). r.standing) c.round-round.ensures.value in
    let chosen : c.stages-stages.result.now ≡ new.round.last = c.stages-stages.ensures ∙ ap (λ (r : RoundView). r.last) c.round-round.ensures.value in
    let queues : c.queues-queues.result.now ≡ map pos new.round.standing.queues =
    signed_is c.queues-queues.result.now new.round.standing.queues c.queues-queues.ensures.counts.none_negative (c.queues-queues.ensures.value ∙ ap (λ (st : Standing). st.queues) there) in
    cuts_arrivals old.net c.round.ensures.kept.acceptable.network c.args.arrivals.now c.requires.counts old.round new.round c.close_all.ensures.core c.in-Ok.ensures.answer c.stages-stages.result.now c.period-period.result _ _
    chosen (c.period-period.ensures.value ∙ ap (λ (st : Standing). st.period) there) (c.in-Err-put_period_in.ensures.bytes new.round.standing.queues queues)
