-- With a delay of 0 the core follows the run of the arrivals that it closed.
use Rattle.std.proofs.Common.{◌≡◌, ℕ, ◌+◌, List, [], ◌∷◌, map, arith, refl, ◌∙◌, ap, subst}
use Rattle.std.specs.List.{AllByRecursion}
use Rattle.mp_laws.specs.Order.{Agrees}
use Rattle.mp_laws.proofs.Lists.{AllOf-map}
use Rattle.mp_laws.proofs.Order.{follows_run}
use Rattle.mp_laws.proofs.Reported.{zero_stages}
use Rattle.mp_model.specs.Arrivals.{arrivals_of}
use Rattle.mp_model.specs.EventCore.{Event, core_after, core_opening, closed_of}
use Rattle.mp_model.specs.EventPeriods.{periods_of}
use Rattle.mp_model.specs.Network.{Network}
use Rattle.mp_model.specs.NetworkRules.{IsNetwork}
use Rattle.mp_model.specs.Reports.{AllTimely, History, IsTimelyAge, Period, first_history, history_after, advance_by}
use Rattle.mp_model.specs.Run.{opening, state_after}
use Rattle.mp_model.specs.Step.{step}

no_age : (net : Network) → net.delay ≡ 0 → (before : ℕ) (ages : List ℕ) → AllByRecursion (IsTimelyAge net before) ages → AllByRecursion (λ (n : ℕ). n ≡ 0) ages
no_age net prompt before ages timely = AllOf-map (IsTimelyAge net before) (λ (n : ℕ). n ≡ 0) (λ n t. let young = t.0 in omega arith) ages timely

pub prompt_state : (net : Network) → net.delay ≡ 0 → (periods : List Period) (history : History) (before : ℕ) → AllTimely net before periods → (history_after net history periods).now ≡ state_after net history.now (map (λ period. period.counts) periods)
prompt_state net prompt [] history before timely = refl
prompt_state net prompt (period ∷ periods) history before timely =
    let zeros = AllOf-map (AllByRecursion (IsTimelyAge net before)) (AllByRecursion (λ (n : ℕ). n ≡ 0)) (no_age net prompt before) period.ages timely.0.timely in
    let stages = zero_stages net history net.junctions period.ages timely.0.junctions zeros in
    prompt_state net prompt periods (advance_by net period history) (before + 1) timely.1
    ∙ ap (λ stages. state_after net (step net stages (arrivals_of net period.counts) history.now) (map (λ period. period.counts) periods)) stages

pub prompt_order : (net : Network) → IsNetwork net → net.delay ≡ 0 → (es : List Event) → Agrees net (core_after net (core_opening net) es) (state_after net (opening net) (closed_of net (core_opening net) es))
prompt_order net ok prompt es =
    let f = follows_run net ok es in
    subst (Agrees net (core_after net (core_opening net) es)) (prompt_state net prompt (periods_of net es) (first_history net) 0 f.timely ∙ ap (state_after net (opening net)) f.arrivals) f.agrees
