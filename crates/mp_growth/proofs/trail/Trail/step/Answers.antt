use Rattle.std.proofs.Common.{◌≡◌, ◌+◌, ◌∙◌, ap, sym, subst}
use Rattle.mp_model.specs.Step.{State}
use Rattle.mp_step.specs.Standing.{Standing, Stands, closed}
use Rattle.mp_overload.specs.Evens.{even_arrivals, even_periods}
use Rattle.mp_growth.specs.OnTrail.{IsTrail}
use Rattle.mp_growth.proofs.Going.{none_above, steps_on, goes_on}
use Rattle.mp_growth.proofs.trail.Trail.step.Goals as goal

pub unreachable-requires : goal.unreachable-requires
unreachable-requires c =
    let net = c.args.net.now in
    let st = c.self.inside.state in
    let on : IsTrail net st = subst (IsTrail net) (sym c.self.view_is) c.requires.on in
    let even : c.deref.result.now ≡ even_arrivals net (st.period + 1) = c.deref.ensures.0 ∙ c.even_arrivals.ensures.value ∙ ap (λ n. even_arrivals net (n + 1)) c.period.ensures.value in
    none_above net st c.deref.result.now c.in-Err.field-0.link on even (c.in-Err.ensures.excess (even_periods net st.period) on.taken)

pub returns-clause-on : goal.returns-clause-on
returns-clause-on c =
    let net = c.args.net.now in
    let st = c.self.inside.state in
    let on : IsTrail net st = subst (IsTrail net) (sym c.self.view_is) c.requires.on in
    let even : c.deref.result.now ≡ even_arrivals net (st.period + 1) = c.deref.ensures.0 ∙ c.even_arrivals.ensures.value ∙ ap (λ n. even_arrivals net (n + 1)) c.period.ensures.value in
    goes_on net st c.close.new.self c.args.stages.now c.deref.result.now on even c.in-Ok.ensures.on c.in-Ok.ensures.period c.in-Ok.ensures.taken c.in-Ok.ensures.step

pub invariant_of-self : goal.invariant_of-self
invariant_of-self c =
    let net = c.args.net.now in
    let st = c.self.inside.state in
    let on : IsTrail net st = subst (IsTrail net) (sym c.self.view_is) c.requires.on in
    let even : c.deref.result.now ≡ even_arrivals net (st.period + 1) = c.deref.ensures.0 ∙ c.even_arrivals.ensures.value ∙ ap (λ n. even_arrivals net (n + 1)) c.period.ensures.value in
    (net, goes_on net st c.close.new.self c.args.stages.now c.deref.result.now on even c.in-Ok.ensures.on c.in-Ok.ensures.period c.in-Ok.ensures.taken c.in-Ok.ensures.step)

pub returns-clause-closed : goal.returns-clause-closed
returns-clause-closed c =
    let net = c.args.net.now in
    let st = c.self.inside.state in
    let even : c.deref.result.now ≡ even_arrivals net (st.period + 1) = c.deref.ensures.0 ∙ c.even_arrivals.ensures.value ∙ ap (λ n. even_arrivals net (n + 1)) c.period.ensures.value in
    c.in-Ok.ensures.closed ∙ ap (closed net st c.args.stages.now) even ∙ ap (λ (s : Standing). closed net s c.args.stages.now (even_arrivals net (s.period + 1))) c.self.view_is

pub returns-clause-step : goal.returns-clause-step
returns-clause-step c =
    let net = c.args.net.now in
    let st = c.self.inside.state in
    let even : c.deref.result.now ≡ even_arrivals net (st.period + 1) = c.deref.ensures.0 ∙ c.even_arrivals.ensures.value ∙ ap (λ n. even_arrivals net (n + 1)) c.period.ensures.value in
    λ (state : State) stands. steps_on net st c.close.new.self c.args.stages.now c.deref.result.now even c.in-Ok.ensures.step state (subst (λ (s : Standing). Stands net s state) (sym c.self.view_is) stands)
