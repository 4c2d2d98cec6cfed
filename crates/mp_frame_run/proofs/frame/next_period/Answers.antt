use Rattle.std.proofs.Common.{◌∙◌, length, refl, sym}
use Rattle.std.proofs.lemmas.Bool.{true≢false}
use Rattle.mp_drift.proofs.Loops.{value_count}
use Rattle.mp_frame_run.specs.FrameView.{shown}
use Rattle.mp_frame_run.proofs.Advances.{next_leads}
use Rattle.mp_frame_run.proofs.frame.next_period.Goals as goal

pub close_open-requires-clause-flags : goal.close_open-requires-clause-flags
close_open-requires-clause-flags c = value_count _ (length c.args.net.now.movements) c.deref.result.now (c.deref.ensures.0 ∙ c.requires.set.chosen c.requires.within)

pub returns-then-begins-clause-step : goal.returns-then-begins-clause-step
returns-then-begins-clause-step c =
    next_leads c.args.net.now c.args.f c.args.state.now c.close_open.new.self (shown c.args.frame.now) _ c.args.arrivals.now c.deref.result.now c.requires.within (c.deref.ensures.0 ∙ c.requires.set.chosen c.requires.within) c.in_ok-close_open.ensures.step refl refl
    (λ e. c.renew.ensures.value ∙ c.queues.ensures.value) (λ e. absurd (true≢false (sym (sym c.begins.ensures ∙ c.if-begins.true) ∙ e)))

pub returns-else-begins-clause-step : goal.returns-else-begins-clause-step
returns-else-begins-clause-step c =
    next_leads c.args.net.now c.args.f c.args.state.now c.close_open.new.self (shown c.args.frame.now) _ c.args.arrivals.now c.deref.result.now c.requires.within (c.deref.ensures.0 ∙ c.requires.set.chosen c.requires.within) c.in_ok-close_open.ensures.step refl refl
    (λ e. absurd (true≢false (sym e ∙ sym c.begins.ensures ∙ c.if-begins.false))) (λ e. refl)
