use Rattle.std.proofs.Common.{◌+◌, ◌∙◌, sym, ap, refl}
use Rattle.mp_model.specs.StreamEnd.{refusal_of}
use Rattle.mp_round.specs.Events.{answer_of, event_of}
use Rattle.mp_step.specs.Standing.{Standing}
use Rattle.mp_event_run.proofs.Takings.{performs_event, refuses_event, takes_event}
use Rattle.mp_event_run.proofs.run.take_event.Goals as goal

pub returns-in-Some-clause-performs : goal.returns-in-Some-clause-performs
returns-in-Some-clause-performs c = λ kind is. performs_event c.args.session.now.net kind (event_of c.args.event.now) is (answer_of c.apply.result) c.args.session.now.round c.apply.new.self.round c.apply.ensures.applied

pub returns-in-None-clause-performs : goal.returns-in-None-clause-performs
returns-in-None-clause-performs c = λ kind is. performs_event c.args.session.now.net kind (event_of c.args.event.now) is (answer_of c.apply.result) c.args.session.now.round c.apply.new.self.round c.apply.ensures.applied

pub returns-in-Some-clause-takes : goal.returns-in-Some-clause-takes
returns-in-Some-clause-takes c = λ kind is held. (
  refuses_event c.args.session.now.net kind (event_of c.args.event.now) is (answer_of c.apply.result) c.args.session.now.round c.apply.new.self.round c.apply.ensures.applied c.in-Some.refusal
      (λ line. ap (λ p. refusal_of line (p + 1) (answer_of c.apply.result)) (sym (c.period-period.ensures.value ∙ ap (λ (st : Standing). st.period) c.state.ensures)) ∙ c.in-Some.ensures line),
  refl,
)

pub returns-in-None-clause-takes : goal.returns-in-None-clause-takes
returns-in-None-clause-takes c = λ kind is held. takes_event c.args.session.now.net kind (event_of c.args.event.now) is (answer_of c.apply.result) c.args.session.now.round c.apply.new.self.round c.apply.ensures.applied held
    (λ line. ap (λ p. refusal_of line (p + 1) (answer_of c.apply.result)) (sym (c.period-period.ensures.value ∙ ap (λ (st : Standing). st.period) c.state.ensures)) ∙ c.in-None.ensures line)
