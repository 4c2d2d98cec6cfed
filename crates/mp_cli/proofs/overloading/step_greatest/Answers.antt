use Rattle.std.proofs.Common.{◌≡◌, ◌∙◌, ap}
use Rattle.mp_model.specs.Network.{entry}
use Rattle.mp_model.specs.Run.{greatest_stages}
use Rattle.mp_step.specs.Standing.{Standing}
use Rattle.mp_cli.proofs.GrowthLemmas.{steps_greatest}
use Rattle.mp_cli.proofs.overloading.step_greatest.Goals as goal

pub returns-clause-step : goal.returns-clause-step
returns-clause-step c =
    let net = c.args.net.now in
    let st = c.args.trail.now in
    let chosen : c.deref.result.now ≡ greatest_stages net (entry st.queues) =
    c.deref.ensures.0 ∙ c.choose_all.ensures.value ∙ ap (λ qs. greatest_stages net (entry qs)) (c.queues.ensures.value ∙ ap (λ (s : Standing). s.queues) c.state.ensures.value) in
    steps_greatest net st c.step.new.self c.deref.result.now chosen c.step.ensures.step
