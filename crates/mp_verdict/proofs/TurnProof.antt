-- Each turn lowers the slack and spends a turn.
use Rattle.std.proofs.Common.{◌≡◌, ℕ, zero, suc, ◌-◌, ◌<◌, Bool, true, false, sum_by, ℤ, pos, ◌*ℤ◌, ◌<ℤ◌, unsigned_abs, Some, arith, refl, sym, ◌∙◌, ap, subst}
use Rattle.std.proofs.lemmas.Int.{ints}
use Rattle.mp_model.specs.Network.{Network, junction_at, own}
use Rattle.mp_model.specs.Certificate.{int_entry}
use Rattle.mp_num.specs.Fraction.{Fraction}
use Rattle.mp_flow.specs.declared.network.Place.{Place}
use Rattle.mp_flow.specs.Systems.{Flows}
use Rattle.mp_simplex.specs.declared.Optimum.{Optimum}
use Rattle.mp_simplex.specs.Outcome.{Optimal, maximised}
use Rattle.mp_verdict.specs.Stated.{Stated, Reached, PassesAt, LimitAt, then, at_place}
use Rattle.mp_verdict.specs.Rates.{Rates, rates_at}
use Rattle.mp_verdict.specs.Program.{program, optimum_at}
use Rattle.mp_verdict.specs.Game.{Score, is_over, slack_of, Turn, Carried, Lowered, spent, lowered, by_value, turn, after_turn, played}
use Rattle.mp_verdict.specs.TurnLaws.{FallsLaw, RoundsLaw}
use Rattle.mp_verdict.proofs.Plain.{values_of}
use Rattle.mp_verdict.proofs.Duality.{full_stage}
use Rattle.mp_verdict.proofs.Falls.{turn as falls, some_values, good_at}
use Rattle.mp_verdict.proofs.FlowNumbers.{abs_is, positive_is, flow_is}
use Rattle.mp_verdict.proofs.RatesAt.{d_of, f_of, g_of, rates_are}
use Rattle.mp_verdict.proofs.Places.{values_outside}
use Rattle.mp_verdict.proofs.Solved.{plan_of}
use Rattle.mp_verdict.proofs.Programs.{solved_by}
use Rattle.mp_verdict.proofs.Turns.{over_is, over_numbers, next_slack}
use Rattle.mp_verdict.proofs.Reaching.{then_reached, same_reached, at_place_reached, optimum_reached}

-- the turns that are left
spent_less : (j turns left : ℕ) → spent j turns ≡ Reached left → left < turns
spent_less j zero left e = absurd (cc)
spent_less j (suc turns) left e = let s : turns ≡ left = same_reached turns left e in omega arith

by_lowered : {P : Type 0} (over : Bool) (lower : Stated Turn) (left : ℕ) (next : Score) → by_value over lower ≡ Reached (Lowered left next) → (over ≡ true → lower ≡ Reached (Lowered left next) → P) → P
by_lowered true lower left next e h = h refl e
by_lowered false lower left next e h = absurd (cc)

-- what a turn that lowers the slack came from
pub record IsLowered (net : Network) (flows : Flows) (j turns : ℕ) (slack : Fraction) (left : ℕ) (next : Score) : Type 0 where
  pub rates : Rates
  pub there : rates_at net flows slack ≡ Some rates
  pub o : Optimum
  pub optimal : maximised (program net (junction_at net j) rates.h) turns ≡ Optimal o
  pub over : is_over rates o ≡ Some true
  pub less : left < turns
  pub slack_is : slack_of net flows (own net (junction_at net j)) o.primal o.primal_den ≡ Some next.slack

same_turn : (left left' : ℕ) (next next' : Score) → (let t : Stated Turn = Reached (Lowered left next) in t) ≡ Reached (Lowered left' next') → (left ≡ left') × (next ≡ next')
same_turn left left' next next' e = (cc, cc)

pub turn_lowered : (net : Network) (flows : Flows) (j turns : ℕ) (slack : Fraction) (left : ℕ) (next : Score) → turn net flows j turns slack ≡ Reached (Lowered left next) → IsLowered net flows j turns slack left next
unfolding turn lowered
turn_lowered net flows j turns slack left next e =
    let t : Turn = Lowered left next in
    then_reached (at_place (Place.Game j) (rates_at net flows slack)) _ t e (λ rates hr e1.
    then_reached (optimum_at (Place.Game j) j (maximised (program net (junction_at net j) rates.h) turns)) _ t e1 (λ o ho e2.
    then_reached (at_place (Place.Game j) (is_over rates o)) _ t e2 (λ over hv e3.
    by_lowered over _ left next e3 (λ yes e4.
    then_reached (spent j (turns - o.pivots)) _ t e4 (λ left' hl e5.
    then_reached (at_place (Place.Game j) (slack_of net flows (own net (junction_at net j)) o.primal o.primal_den)) _ t e5 (λ a ha e6.
    (let made : Score = record { slack = a; junction = j; values = o.primal } in
    let s = same_turn left' left made next e6 in
    let fewer = spent_less j (turns - o.pivots) left' hl in
    let there = at_place_reached (Place.Game j) (slack_of net flows (own net (junction_at net j)) o.primal o.primal_den) a ha in
    record {
      rates = rates;
      there = at_place_reached (Place.Game j) (rates_at net flows slack) rates hr;
      o = o;
      optimal = optimum_reached (Place.Game j) j (maximised (program net (junction_at net j) rates.h) turns) o ho;
      over = at_place_reached (Place.Game j) (is_over rates o) over hv ∙ ap Some yes;
      less = omega (arith, fewer, s.0);
      slack_is = there ∙ ap (λ (st : Score). Some st.slack) s.1;
    })))))))

pub falls_lower : FallsLaw
falls_lower net ok flows are j some most turns slack one left next e =
    let t = turn_lowered net flows j turns slack left next e in
    let rates = t.rates in
    let o = t.o in
    let here = junction_at net j in
    let good = good_at net net.junctions (j - 1) (omega (arith, some, most)) ok.stages in
    let solved = solved_by net here rates.h ok good turns o t.optimal in
    let q = unsigned_abs slack.den in
    let D = unsigned_abs rates.d in
    let r = rates_are net flows are slack q rates (positive_is slack.den one) t.there in
    let dh : rates.d ≡ pos D = abs_is rates.d r.sign in
    let vd : o.value.den ≡ pos (unsigned_abs o.value.den) = positive_is o.value.den solved.value_den in
    let S = sum_by (λ y. y) (plan_of o).parts in
    let m = (plan_of o).whole in
    let value : pos S *ℤ pos (unsigned_abs o.value.den) ≡ o.value.num *ℤ pos m = ap (λ t. pos S *ℤ t) (sym vd) ∙ solved.value in
    let test = over_is rates o true t.over in
    let lt0 : (rates.d *ℤ o.value.den) <ℤ o.value.num = omega (arith, ints, test) in
    let lt : (pos D *ℤ pos (unsigned_abs o.value.den)) <ℤ o.value.num = subst (λ (t : ℤ). (pos D *ℤ t) <ℤ o.value.num) vd (subst (λ (t : ℤ). (t *ℤ o.value.den) <ℤ o.value.num) dh lt0) in
    let more = over_numbers S m D (unsigned_abs o.value.den) o.value.num solved.optimum.whole value lt in
    let Z = values_of (own net here) o.primal in
    let z = unsigned_abs o.primal_den in
    let top = full_stage net here (int_entry rates.h) Z z (plan_of o) solved.optimum (omega (arith, more)) in
    let asks = some_values net ok j z Z solved.optimum.some top good in
    let made = next_slack net ok flows are here o.primal o.primal_den next.slack solved.values solved.den asks t.slack_is in
    let both = falls net ok (d_of flows) (f_of flows) (g_of flows) slack.num q D rates.e (int_entry rates.h) j Z z (plan_of o) next.slack.num (unsigned_abs next.slack.den) (flow_is net flows are) r.are (some, most) (λ k i out. values_outside net here o.primal k out) solved.optimum more made.1 in
    let lower : (next.slack.num *ℤ slack.den) <ℤ (slack.num *ℤ next.slack.den) =
    subst (λ (t : ℤ). (next.slack.num *ℤ t) <ℤ (slack.num *ℤ next.slack.den)) (sym (positive_is slack.den one))
    (subst (λ (t : ℤ). (next.slack.num *ℤ pos q) <ℤ (slack.num *ℤ t)) (sym (positive_is next.slack.den made.0.positive)) both.1) in
    (t.less, made.0.positive, lower)

module _ (net : Network) (flows : Flows) (j : ℕ) where
  same_play : (rounds turns : ℕ) (score : Score) (s : Stated Turn) → turn net flows j turns score.slack ≡ s → turns < suc rounds →
      ((left : ℕ) (next : Score) → left < rounds → played net flows j rounds left next ≡ played net flows j (suc rounds) left next) →
      then s (λ t. after_turn score t (played net flows j rounds)) ≡ then s (λ t. after_turn score t (played net flows j (suc rounds)))
  same_play rounds turns score (Reached Carried) e l more = refl
  same_play rounds turns score (Reached (Lowered left next)) e l more = let t = (turn_lowered net flows j turns score.slack left next e).less in more left next (omega (arith, t, l))
  same_play rounds turns score (PassesAt place) e l more = refl
  same_play rounds turns score (LimitAt i) e l more = refl

  rounds_same : (rounds turns : ℕ) (score : Score) → turns < rounds → played net flows j rounds turns score ≡ played net flows j (suc rounds) turns score
  unfolding played
  rounds_same zero turns score l = absurd (omega arith)
  rounds_same (suc rounds) turns score l = same_play rounds turns score (turn net flows j turns score.slack) refl l (rounds_same rounds)

pub turns_first : RoundsLaw
turns_first net flows j rounds turns score l = rounds_same net flows j rounds turns score l
