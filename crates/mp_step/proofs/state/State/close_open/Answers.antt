use Rattle.std.proofs.Common.{◌≡◌, ◌∙◌, ap, map, sym}
use Rattle.std.proofs.lemmas.List.{with_items_is}
use Rattle.mp_model.specs.Network.{movement_numbers, entry}
use Rattle.mp_model.specs.Step.{departing_by}
use Rattle.mp_press.specs.Queues.{naturals}
use Rattle.mp_step.specs.OpenStep.{passed_open}
use Rattle.mp_step.specs.Standing.{Standing}
use Rattle.mp_step.specs.TrafficView.{stands}
use Rattle.mp_step.proofs.SamePasses.{flags_fit, flags_close, flags_step, ok_map}
use Rattle.mp_step.proofs.state.State.close_open.Goals as goal

written : (c : goal.After-deref) → c.deref.result.now ≡ c.serve_open-left.new.passes
written c =
    c.deref.ensures.value ∙ with_items_is c.self.inside.passes c.serve_open-left.new.passes (c.serve_open-left.auto.passes ∙ c.deref_mut.ensures.len)

passes : (c : goal.After-deref) → c.deref.result.now ≡ map (passed_open c.args.net.now c.args.passing.now (entry (stands c.self.inside.traffic).queues)) (movement_numbers c.args.net.now)
passes c = written c ∙ c.serve_open-left.ensures.value ∙ ap (λ zs. map (passed_open c.args.net.now c.args.passing.now (entry (naturals zs))) (movement_numbers c.args.net.now)) c.queues.ensures.value

pub advance-requires-clause-passes : goal.advance-requires-clause-passes
advance-requires-clause-passes c = flags_fit c.args.net.now c.args.passing.now (entry (stands c.self.inside.traffic).queues) c.deref.result.now (passes c)

pub advance-requires-clause-left : goal.advance-requires-clause-left
advance-requires-clause-left c = c.serve_open-left.ensures.left ∙ ap (λ p. departing_by c.args.net.now (entry p)) (sym (written c))

pub returns-clause-closed : goal.returns-clause-closed
returns-clause-closed c =
    let st : Standing = stands c.self.inside.traffic in
    let p : c.deref.result.now ≡ map (passed_open c.args.net.now c.args.passing.now (entry st.queues)) (movement_numbers c.args.net.now) =
    c.deref.ensures.value ∙ with_items_is c.self.inside.passes c.serve_open-left.new.passes (c.serve_open-left.auto.passes ∙ c.deref_mut.ensures.len)
    ∙ c.serve_open-left.ensures.value ∙ ap (λ zs. map (passed_open c.args.net.now c.args.passing.now (entry (naturals zs))) (movement_numbers c.args.net.now)) c.queues.ensures.value in
    ok_map c.advance.result _ _ (λ e. flags_close c.args.net.now st c.args.self.now _ c.args.passing.now c.args.arrivals.now c.deref.result.now c.self.view_is p e) c.advance.ensures.closed

pub returns-clause-step : goal.returns-clause-step
returns-clause-step c = ok_map c.advance.result _ _ (λ e state s. flags_step c.args.net.now c.shares.ensures.acceptable.network c.args.self.now _ c.args.passing.now c.args.arrivals.now e state s) (returns-clause-closed c)
