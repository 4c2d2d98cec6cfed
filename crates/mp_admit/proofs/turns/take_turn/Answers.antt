use Rattle.std.proofs.Common.{◌≡◌, ◌∙◌, List, ℤ, Some, None, true, false, Vec, Global, drop, Result, sym, subst, ap}
use Rattle.mp_model.specs.Network.{junction_at}
use Rattle.mp_flow.specs.Calculating.{flows_of}
use Rattle.mp_flow.specs.declared.network.Place.{Place}
use Rattle.mp_simplex.specs.declared.Optimum.{Optimum}
use Rattle.mp_simplex.specs.Outcome.{maximised}
use Rattle.mp_verdict.specs.Rates.{rates_in}
use Rattle.mp_verdict.specs.Program.{program, optimum_at}
use Rattle.mp_verdict.specs.Game.{is_over, turn, lowered, Turn as StatedTurn}
use Rattle.mp_verdict.specs.Stated.{Stated, Reached, Gives}
use Rattle.mp_admit.specs.declared.turns.Turn.{Turn}
use Rattle.mp_admit.specs.Turns.{turn_of}
use Rattle.mp_admit.proofs.TurnLemmas.{turn_no_rates, turn_no_optimum, turn_no_order, turn_carried, turn_lowers, optimum_values, asks_some}
use Rattle.mp_admit.proofs.turns.take_turn.Goals as goal

pub returns-in-Err-clause-calculation : goal.returns-in-Err-clause-calculation
returns-in-Err-clause-calculation c =
    turn_no_rates {X = Vec ℤ Global} {X' = Turn} (λ row. rates_in row.items) turn_of _ _ _ _ _ c.in-Err.fault c.in-Err.ensures.calculation

pub returns-in-Err-optimum_at-clause-calculation : goal.returns-in-Err-optimum_at-clause-calculation
returns-in-Err-optimum_at-clause-calculation c =
    let e = c.deref.ensures.value in
    let g : Gives {X = Optimum} {Y = Optimum} (λ o. o) (Result.Err c.in-Err-optimum_at.fault) (optimum_at (Place.Game c.args.j) c.args.j (maximised (program c.args.net.now (junction_at c.args.net.now c.args.j) (drop 2 c.in-Ok.rates.items)) c.args.turns)) =
    subst (λ (l : List ℤ). Gives {X = Optimum} {Y = Optimum} (λ o. o) (Result.Err c.in-Err-optimum_at.fault) (optimum_at (Place.Game c.args.j) c.args.j (maximised (program c.args.net.now (junction_at c.args.net.now c.args.j) (drop 2 l)) c.args.turns))) e c.in-Err-optimum_at.ensures.calculation in
    turn_no_optimum {X = Optimum} {X' = Turn} (λ o. o) turn_of _ _ _ _ _ (rates_in c.in-Ok.rates.items) c.in-Err-optimum_at.fault c.in-Ok.ensures.calculation g

pub returns-in_default-clause-calculation : goal.returns-in_default-clause-calculation
returns-in_default-clause-calculation c =
    let e = c.deref.ensures.value in
    let e2 = c.deref-2.ensures.value in
    let o : optimum_at (Place.Game c.args.j) c.args.j (maximised (program c.args.net.now (junction_at c.args.net.now c.args.j) (drop 2 c.in-Ok.rates.items)) c.args.turns) ≡ Reached c.in-Ok-optimum_at.optimum =
    subst (λ (l : List ℤ). optimum_at (Place.Game c.args.j) c.args.j (maximised (program c.args.net.now (junction_at c.args.net.now c.args.j) (drop 2 l)) c.args.turns) ≡ Reached c.in-Ok-optimum_at.optimum) e c.in-Ok-optimum_at.ensures.calculation in
    let v : is_over (rates_in c.in-Ok.rates.items) c.in-Ok-optimum_at.optimum ≡ None =
    subst (λ (l : List ℤ). is_over (rates_in l) c.in-Ok-optimum_at.optimum ≡ None) e2 (sym c.is_over.ensures ∙ c.in_default.is) in
    turn_no_order _ _ _ _ _ (rates_in c.in-Ok.rates.items) c.in-Ok-optimum_at.optimum c.in-Ok.ensures.calculation o v

pub returns-then-not-over-clause-calculation : goal.returns-then-not-over-clause-calculation
returns-then-not-over-clause-calculation c =
    let e = c.deref.ensures.value in
    let e2 = c.deref-2.ensures.value in
    let o : optimum_at (Place.Game c.args.j) c.args.j (maximised (program c.args.net.now (junction_at c.args.net.now c.args.j) (drop 2 c.in-Ok.rates.items)) c.args.turns) ≡ Reached c.in-Ok-optimum_at.optimum =
    subst (λ (l : List ℤ). optimum_at (Place.Game c.args.j) c.args.j (maximised (program c.args.net.now (junction_at c.args.net.now c.args.j) (drop 2 l)) c.args.turns) ≡ Reached c.in-Ok-optimum_at.optimum) e c.in-Ok-optimum_at.ensures.calculation in
    let b : c.is_over.result ≡ Some false = cc in
    let v : is_over (rates_in c.in-Ok.rates.items) c.in-Ok-optimum_at.optimum ≡ Some false =
    subst (λ (l : List ℤ). is_over (rates_in l) c.in-Ok-optimum_at.optimum ≡ Some false) e2 (sym c.is_over.ensures ∙ b) in
    turn_carried _ _ _ _ _ (rates_in c.in-Ok.rates.items) c.in-Ok-optimum_at.optimum c.in-Ok.ensures.calculation o v

pub lower-requires-clause-values : goal.lower-requires-clause-values
lower-requires-clause-values c = optimum_values _ _ _ _ c.in-Ok-optimum_at.ensures.meaning

pub lower-requires-clause-some : goal.lower-requires-clause-some
lower-requires-clause-some c =
    let e2 = c.deref-2.ensures.value in
    let b : c.is_over.result ≡ Some true = cc in
    let v : is_over (rates_in c.in-Ok.rates.items) c.in-Ok-optimum_at.optimum ≡ Some true =
    subst (λ (l : List ℤ). is_over (rates_in l) c.in-Ok-optimum_at.optimum ≡ Some true) e2 (sym c.is_over.ensures ∙ b) in
    asks_some _ c.in-Ok-optimum_at.optimum (rates_in c.in-Ok.rates.items) c.in-Ok-optimum_at.ensures.meaning c.in-Ok.ensures.sign v

pub returns-clause-calculation : goal.returns-clause-calculation
returns-clause-calculation c =
    let e = c.deref.ensures.value in
    let e2 = c.deref-2.ensures.value in
    let o : optimum_at (Place.Game c.args.j) c.args.j (maximised (program c.args.net.now (junction_at c.args.net.now c.args.j) (drop 2 c.in-Ok.rates.items)) c.args.turns) ≡ Reached c.in-Ok-optimum_at.optimum =
    subst (λ (l : List ℤ). optimum_at (Place.Game c.args.j) c.args.j (maximised (program c.args.net.now (junction_at c.args.net.now c.args.j) (drop 2 l)) c.args.turns) ≡ Reached c.in-Ok-optimum_at.optimum) e c.in-Ok-optimum_at.ensures.calculation in
    let b : c.is_over.result ≡ Some true = cc in
    let v : is_over (rates_in c.in-Ok.rates.items) c.in-Ok-optimum_at.optimum ≡ Some true =
    subst (λ (l : List ℤ). is_over (rates_in l) c.in-Ok-optimum_at.optimum ≡ Some true) e2 (sym c.is_over.ensures ∙ b) in
    let w : turn c.args.net.now (flows_of c.args.flows.now) c.args.j c.args.turns c.args.slack.now ≡ lowered c.args.net.now (flows_of c.args.flows.now) c.args.j c.saturating_sub-left.result c.in-Ok-optimum_at.optimum =
    turn_lowers _ _ _ _ _ (rates_in c.in-Ok.rates.items) c.in-Ok-optimum_at.optimum c.in-Ok.ensures.calculation o v ∙ ap (λ n. lowered c.args.net.now (flows_of c.args.flows.now) c.args.j n c.in-Ok-optimum_at.optimum) (sym c.saturating_sub-left.ensures) in
    subst (λ (t : Stated StatedTurn). Gives turn_of c.lower.result t) (sym w) c.lower.ensures.calculation
