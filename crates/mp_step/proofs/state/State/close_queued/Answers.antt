use Rattle.std.proofs.Common.{◌≡◌, ◌∙◌, ap, map, sym, subst}
use Rattle.std.proofs.lemmas.List.{with_items_is}
use Rattle.mp_model.specs.Network.{movement_numbers, entry}
use Rattle.mp_model.specs.Step.{passed, departing_by}
use Rattle.mp_press.specs.Queues.{naturals}
use Rattle.mp_press.specs.LinkSums.{AreSums}
use Rattle.mp_step.specs.Standing.{Standing}
use Rattle.mp_step.specs.TrafficView.{stands}
use Rattle.mp_step.proofs.SamePasses.{stages_fit, stages_close, stages_step, ok_map}
use Rattle.mp_step.proofs.state.State.close_queued.Goals as goal

written : (c : goal.After-deref) → c.deref.result.now ≡ c.serve_all-left.new.passes
written c =
    c.deref.ensures.value ∙ with_items_is c.self.inside.passes c.serve_all-left.new.passes (c.serve_all-left.auto.passes ∙ c.deref_mut.ensures.len)

passes : (c : goal.After-deref) → c.deref.result.now ≡ map (passed c.args.net.now c.args.stages.now (entry (stands c.self.inside.traffic).queues)) (movement_numbers c.args.net.now)
passes c = written c ∙ c.serve_all-left.ensures.value ∙ ap (λ zs. map (passed c.args.net.now c.args.stages.now (entry (naturals zs))) (movement_numbers c.args.net.now)) c.queues.ensures.value

pub advance-requires-clause-passes : goal.advance-requires-clause-passes
advance-requires-clause-passes c = stages_fit c.args.net.now c.args.stages.now (entry (stands c.self.inside.traffic).queues) c.deref.result.now (passes c)

pub advance-requires-clause-left : goal.advance-requires-clause-left
advance-requires-clause-left c = c.serve_all-left.ensures.left ∙ ap (λ p. departing_by c.args.net.now (entry p)) (sym (written c))

pub returns-clause-closed : goal.returns-clause-closed
returns-clause-closed c =
    let st : Standing = stands c.self.inside.traffic in
    let p : c.deref.result.now ≡ map (passed c.args.net.now c.args.stages.now (entry st.queues)) (movement_numbers c.args.net.now) =
    c.deref.ensures.value ∙ with_items_is c.self.inside.passes c.serve_all-left.new.passes (c.serve_all-left.auto.passes ∙ c.deref_mut.ensures.len)
    ∙ c.serve_all-left.ensures.value ∙ ap (λ zs. map (passed c.args.net.now c.args.stages.now (entry (naturals zs))) (movement_numbers c.args.net.now)) c.queues.ensures.value in
    ok_map c.advance.result _ _ (λ e. stages_close c.args.net.now st c.args.self.now _ c.args.stages.now c.args.arrivals.now c.deref.result.now c.self.view_is p e) c.advance.ensures.closed

pub returns-clause-step : goal.returns-clause-step
returns-clause-step c = ok_map c.advance.result _ _ (λ e state s. stages_step c.args.net.now c.shares.ensures.acceptable.network c.args.self.now _ c.args.stages.now c.args.arrivals.now e state s) (returns-clause-closed c)

pub serve_all-left-requires-clause-queued : goal.serve_all-left-requires-clause-queued
serve_all-left-requires-clause-queued c =
    subst (λ q. AreSums c.args.net.now (entry q) c.args.queued.now) (ap (λ (s : Standing). s.queues) (sym c.self.view_is) ∙ ap naturals (sym c.queues.ensures.value)) c.requires.queued

pub advance-requires-clause-each : goal.advance-requires-clause-each
advance-requires-clause-each c = rw (written c) c.serve_all-left.ensures.each
