use Rattle.std.proofs.Common.{◌≡◌, ◌+◌, ◌∙◌, map, pos, ap, refl, arith}
use Rattle.mp_step.specs.Standing.{Standing}
use Rattle.mp_plan_run.specs.Planned.{Planned}
use Rattle.mp_plan_run.proofs.PeriodLemmas.{closed_line_fits, closes_period, cuts_period, refuses_period, signed_is}
use Rattle.mp_plan_run.proofs.run.close_period.Goals as goal

pub put_period_in-requires : goal.put_period_in-requires
put_period_in-requires g c =
    closed_line_fits c.args.session.now c.period.new.self c.state-state.ensures.planned c.in-Ok.ensures.same c.in-Ok.ensures.stages c.state-state.result.now c.period-period-in-Ok.result c.args.arrivals.now c.stages-stages.result.now c.queues-queues.result.now
    c.state-state.ensures.value c.stages-stages.ensures c.requires.counts c.requires.digits c.period-period-in-Ok.ensures.few
    (signed_is c.queues-queues.result.now c.state-state.result.now.queues c.queues-queues.ensures.counts.none_negative c.queues-queues.ensures.value) c.queues-queues.ensures.few

pub returns-in-Err-clause-takes : goal.returns-in-Err-clause-takes
returns-in-Err-clause-takes g c = (
  refuses_period c.args.session.now.net c.args.session.now.plan c.args.arrivals.now c.args.session.now.at (record { period = c.period-period.result + 1; link = c.in-Err.field-0.link })
      (omega (arith, c.period-period.ensures.value, ap (λ (st : Standing). st.period) c.state.ensures.value, ap (λ (s : Planned). s.at.period) c.in-Err.ensures.stays)) c.in-Err.ensures.excess,
  refl,
)

pub returns-in-Ok-put_period_in-clause-takes : goal.returns-in-Ok-put_period_in-clause-takes
returns-in-Ok-put_period_in-clause-takes g c =
    let at = c.state-state.ensures.value in
    let queues : c.queues-queues.result.now ≡ map pos c.period.new.self.at.queues =
    signed_is c.queues-queues.result.now c.period.new.self.at.queues c.queues-queues.ensures.counts.none_negative (c.queues-queues.ensures.value ∙ ap (λ (st : Standing). st.queues) at) in
    closes_period c.args.session.now.net c.args.session.now.plan c.args.arrivals.now c.stages-stages.result.now c.args.session.now.at c.period.new.self.at c.period-period-in-Ok.result (c.stages-stages.ensures ∙ c.in-Ok.ensures.stages)
    c.in-Ok.ensures.taken c.in-Ok.ensures.step (c.period-period-in-Ok.ensures.value ∙ ap (λ (st : Standing). st.period) at) _ _ (c.in-Ok-put_period_in.ensures.bytes c.period.new.self.at.queues queues)

pub returns-in-Err-put_period_in-clause-takes : goal.returns-in-Err-put_period_in-clause-takes
returns-in-Err-put_period_in-clause-takes g c =
    let at = c.state-state.ensures.value in
    let queues : c.queues-queues.result.now ≡ map pos c.period.new.self.at.queues =
    signed_is c.queues-queues.result.now c.period.new.self.at.queues c.queues-queues.ensures.counts.none_negative (c.queues-queues.ensures.value ∙ ap (λ (st : Standing). st.queues) at) in
    cuts_period c.args.session.now.net c.args.session.now.plan c.args.arrivals.now c.stages-stages.result.now c.args.session.now.at c.period.new.self.at c.period-period-in-Ok.result (c.stages-stages.ensures ∙ c.in-Ok.ensures.stages)
    c.in-Ok.ensures.taken c.in-Ok.ensures.step (c.period-period-in-Ok.ensures.value ∙ ap (λ (st : Standing). st.period) at) _ _ (c.in-Err-put_period_in.ensures.bytes c.period.new.self.at.queues queues)
