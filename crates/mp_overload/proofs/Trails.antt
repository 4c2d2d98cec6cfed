-- States on a trail.
use Rattle.std.proofs.Common.{◌≡◌, ℕ, zero, suc, ◌+◌, List, [], ◌∷◌, ◌++◌, map, arith, add-zero, refl, sym, ◌∙◌, ap, subst}
use Rattle.std.specs.List.{range_with_len}
use Rattle.mp_model.specs.Network.{Network}
use Rattle.mp_model.specs.Run.{opening, advance, greatest_stages, state_after}
use Rattle.mp_model.specs.Step.{State, queue}
use Rattle.mp_overload.specs.Trails.{trail_period, trail_from, even_run, IsOnTrail}
use Rattle.mp_overload.specs.Laws.{IsOnTrailAt}
use Rattle.mp_overload.specs.Evens.{even_arrivals}

-- one period more, at the end of the choices
pub trail_push : (net : Network) (state : State) (choices : List (List ℕ)) (stages : List ℕ) → trail_from net state (choices ++ stages ∷ []) ≡ trail_period net stages (trail_from net state choices)
trail_push net state [] stages = refl
trail_push net state (first ∷ choices) stages = trail_push net (trail_period net first state) choices stages

-- the opening is on a trail
pub trail_starts : (net : Network) → IsOnTrail net (opening net)
trail_starts net = ([], refl)

-- and so is the state after a period with any stages
pub trail_more : (net : Network) (state : State) → IsOnTrail net state → (stages : List ℕ) → IsOnTrail net (trail_period net stages state)
trail_more net state t stages = (t.0 ++ stages ∷ [], ap (trail_period net stages) t.1 ∙ sym (trail_push net (opening net) t.0 stages))

-- a run over even arrivals from a period on stays on a trail
run_stays : (net : Network) (T a : ℕ) (state : State) → state.period + 1 ≡ a → IsOnTrail net state → IsOnTrailAt net (state.period + T) (state_after net state (map (even_arrivals net) (range_with_len a T)))
run_stays net zero a state e on = record { on = on; period = sym (add-zero state.period) }
run_stays net (suc T) a state e on =
    let first : advance net (even_arrivals net a) state ≡ trail_period net (greatest_stages net (queue state)) state = ap (λ t. advance net (even_arrivals net t) state) (sym e) in
    let next : (advance net (even_arrivals net a) state).period + 1 ≡ a + 1 = omega (arith, e) in
    let rest = run_stays net T (a + 1) (advance net (even_arrivals net a) state) next (subst (IsOnTrail net) (sym first) (trail_more net state on (greatest_stages net (queue state)))) in
    record { on = rest.on; period = let e : (state.period + 1) + T ≡ state.period + suc T = omega arith in rest.period ∙ e }

pub run_on : (net : Network) (T : ℕ) → IsOnTrailAt net T (even_run net T)
run_on net T =
    let at = run_stays net T 1 (opening net) refl (trail_starts net) in
    record { on = at.on; period = omega (arith, at.period) }
