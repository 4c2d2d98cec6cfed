use Rattle.std.proofs.Common.{◌≡◌, ◌∙◌, ℕ, List, Bool, ap, ap₂, map, sym, subst, length}
use Rattle.std.proofs.lemmas.Bool.{true≢false}
use Rattle.mp_drift.proofs.Loops.{value_count}
use Rattle.mp_model.specs.Arrivals.{arrivals_of}
use Rattle.mp_model.specs.Frames.{is_chosen}
use Rattle.mp_model.specs.Network.{entry, movement_numbers}
use Rattle.mp_model.specs.Step.{State}
use Rattle.mp_press.specs.Weighed.{IsCacheOf, Weighed}
use Rattle.mp_step.proofs.Stages.{stages_count}
use Rattle.mp_step.specs.OpenStep.{open_step}
use Rattle.mp_step.specs.Standing.{Stands}
use Rattle.mp_frame_run.specs.FrameNow.{FrameNow, first_flags}
use Rattle.mp_frame_run.specs.FrameView.{shown}
use Rattle.mp_frame_run.proofs.Advances.{first_leads, second}
use Rattle.mp_frame_run.proofs.frame.first_period.Goals as goal

pub first_flags-passing-requires-clause-chosen : goal.first_flags-passing-requires-clause-chosen
first_flags-passing-requires-clause-chosen c = ap length c.deref-4.ensures.0 ∙ value_count _ (length c.args.net.now.movements) c.choose_movements-chosen.result.items c.choose_movements-chosen.ensures

pub close_open-requires-clause-flags : goal.close_open-requires-clause-flags
close_open-requires-clause-flags c = ap length c.deref-5.ensures.0 ∙ value_count _ (length c.args.net.now.movements) c.first_flags-passing.result.items c.first_flags-passing.ensures

pub returns-clause-step : goal.returns-clause-step
returns-clause-step c =
    let net = c.args.net.now in
    let old = c.args.frame.now in
    let stages : List ℕ = c.choose_all.new.into.items in
    let chosen : List Bool = c.choose_movements-chosen.result.items in
    let first : c.choose_all.new.self.counts ≡ old.cache.counts = ap (λ (w : Weighed). w.counts) c.choose_all.ensures.same in
    let marked : chosen ≡ map (is_chosen net stages (entry old.cache.counts)) (movement_numbers net) =
    c.choose_movements-chosen.ensures ∙ ap₂ (λ ss q. map (is_chosen net ss (entry q)) (movement_numbers net)) c.deref.ensures.0 first in
    let passing : c.deref-5.result.now ≡ first_flags net old.stages.items stages chosen =
    c.deref-5.ensures.0 ∙ c.first_flags-passing.ensures ∙ ap (λ bs. first_flags net bs c.deref-3.result.now c.deref-4.result.now) c.deref-2.ensures.0 ∙ ap₂ (first_flags net old.stages.items) c.deref-3.ensures.0 c.deref-4.ensures.0 in
    let closes : (state : State) → Stands net c.args.state.now state → Stands net c.close_open.new.self (open_step net (first_flags net old.stages.items stages chosen) (arrivals_of net c.args.arrivals.now) state) =
    subst (λ (ps : List Bool). (state : State) → Stands net c.args.state.now state → Stands net c.close_open.new.self (open_step net ps (arrivals_of net c.args.arrivals.now) state)) passing c.in_ok-close_open.ensures.step in
    let next : List ℕ → List ℕ → FrameNow = λ q bs. record { first = q; stages = stages; before = bs } in
    first_leads net c.args.f c.args.state.now c.close_open.new.self (shown old) _ c.args.arrivals.now stages chosen c.requires.frames c.requires.begins (c.requires.set.fresh c.requires.begins) c.choose_all.ensures.value marked closes
    (ap₂ next first (ap (λ v. v.items) c.swap.ensures.x_after))

pub returns-clause-set : goal.returns-clause-set
returns-clause-set c =
    let net = c.args.net.now in
    let no_frame = second c.args.f c.args.state.now c.close_open.new.self c.requires.frames c.requires.begins c.in_ok-close_open.ensures.period in
    record {
      cache = subst (IsCacheOf net) (sym c.choose_all.ensures.same) c.requires.set.cache;
      fresh = λ e. absurd (true≢false (sym e ∙ no_frame));
      chosen = λ e. c.choose_movements-chosen.ensures ∙ ap (λ ss. map (is_chosen net ss (entry c.choose_all.new.self.counts)) (movement_numbers net)) c.deref.ensures.0;
      each = stages_count net.junctions c.choose_all.new.into.items c.choose_all.ensures.stages;
      stages = λ some. c.choose_all.ensures.stages;
    }
