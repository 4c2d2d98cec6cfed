use Rattle.std.proofs.Common.{◌≡◌, ◌+◌, ◌∙◌, map, pos, ap, refl, arith}
use Rattle.mp_run.proofs.PeriodLemmas.{signed_is}
use Rattle.mp_step.specs.Standing.{Standing}
use Rattle.mp_guard_run.specs.Session.{Guarded}
use Rattle.mp_guard_run.proofs.Bounded.{closed_line_fits}
use Rattle.mp_guard_run.proofs.Lines.{closes_period, cuts_period, refuses_period}
use Rattle.mp_guard_run.proofs.run.close_period.Goals as goal

pub put_period_in-requires : goal.put_period_in-requires
put_period_in-requires g c =
    closed_line_fits c.args.session.now c.period.new.self c.state-state.ensures.guarding c.in-Ok.ensures.same c.in-Ok.ensures.stages c.in-Ok.ensures.known c.state-state.result.now c.period-period-in-Ok.result c.args.arrivals.now c.stages-stages.result.now c.queues-queues.result.now
    c.state-state.ensures.value c.stages-stages.ensures c.requires.counts c.requires.digits c.period-period-in-Ok.ensures.few
    (signed_is c.queues-queues.result.now c.state-state.result.now.queues c.queues-queues.ensures.counts.none_negative c.queues-queues.ensures.value) c.queues-queues.ensures.few

pub returns-in-Err-clause-takes : goal.returns-in-Err-clause-takes
returns-in-Err-clause-takes g c = (
  refuses_period c.args.session.now c.args.arrivals.now (record { period = c.period-period.result + 1; link = c.in-Err.field-0.link })
      (omega (arith, c.period-period.ensures.value, ap (λ (st : Standing). st.period) c.state.ensures.value, ap (λ (s : Guarded). s.at.period) c.in-Err.ensures.stays)) c.in-Err.ensures.excess,
  refl,
)

pub returns-in-Ok-put_period_in-clause-takes : goal.returns-in-Ok-put_period_in-clause-takes
returns-in-Ok-put_period_in-clause-takes g c =
    let at = c.state-state.ensures.value in
    let queues : c.queues-queues.result.now ≡ map pos c.period.new.self.at.queues =
    signed_is c.queues-queues.result.now c.period.new.self.at.queues c.queues-queues.ensures.counts.none_negative (c.queues-queues.ensures.value ∙ ap (λ (st : Standing). st.queues) at) in
    closes_period c.args.session.now c.period.new.self c.in-Ok.ensures.same c.args.arrivals.now c.stages-stages.result.now c.period-period-in-Ok.result _ _
    c.in-Ok.ensures.taken c.in-Ok.ensures.step (c.period-period-in-Ok.ensures.value ∙ ap (λ (st : Standing). st.period) at) (c.stages-stages.ensures ∙ c.in-Ok.ensures.stages) (c.in-Ok-put_period_in.ensures.bytes c.period.new.self.at.queues queues)

pub returns-in-Err-put_period_in-clause-takes : goal.returns-in-Err-put_period_in-clause-takes
returns-in-Err-put_period_in-clause-takes g c =
    let at = c.state-state.ensures.value in
    let queues : c.queues-queues.result.now ≡ map pos c.period.new.self.at.queues =
    signed_is c.queues-queues.result.now c.period.new.self.at.queues c.queues-queues.ensures.counts.none_negative (c.queues-queues.ensures.value ∙ ap (λ (st : Standing). st.queues) at) in
    cuts_period c.args.session.now c.period.new.self c.in-Ok.ensures.same c.args.arrivals.now c.stages-stages.result.now c.period-period-in-Ok.result _ _
    c.in-Ok.ensures.taken c.in-Ok.ensures.step (c.period-period-in-Ok.ensures.value ∙ ap (λ (st : Standing). st.period) at) (c.stages-stages.ensures ∙ c.in-Ok.ensures.stages) (c.in-Err-put_period_in.ensures.bytes c.period.new.self.at.queues queues)
