-- The turns of a junction keep the score sound, and leave one that the junction carries.
use Rattle.std.proofs.Common.{◌≡◌, ℕ, zero, suc, ◌+◌, ◌-◌, ◌*◌, ◌≤◌, ◌<◌, Bool, true, false, List, length, sum_by, ℤ, pos, ◌-ℤ◌, ◌*ℤ◌, ◌≤ℤ◌, ◌<ℤ◌, int_lt, unsigned_abs, Some, arith, refl, sym, ◌∙◌, ap, subst, mul-le-mul, mul-le-mul_right, ⊎_elim}
use Rattle.std.specs.List.{AllByRecursion}
use Rattle.std.proofs.lemmas.Int.{ints}
use Rattle.std.proofs.lemmas.Bool.{cases_lt}
use Rattle.mp_model.specs.Network.{Network, Junction, movement_numbers, junction_at, from_of, share_of, own}
use Rattle.mp_model.specs.NetworkRules.{IsNetwork}
use Rattle.mp_model.specs.Certificate.{int_entry}
use Rattle.mp_num.specs.Checked.{within}
use Rattle.mp_num.specs.Fraction.{Fraction, IsLowest}
use Rattle.mp_num.proofs.CheckedLemmas.{within_some}
use Rattle.mp_num.proofs.OutcomeLemmas.{option_map_some}
use Rattle.mp_flow.specs.declared.network.Place.{Place}
use Rattle.mp_flow.specs.Systems.{Flows, AreFlows}
use Rattle.mp_simplex.specs.declared.Optimum.{Optimum}
use Rattle.mp_simplex.specs.Outcome.{maximised}
use Rattle.mp_verdict.specs.Worst.{rate_weight, unit_weight, IsSlackOf}
use Rattle.mp_verdict.specs.Stated.{Stated, Reached, at_place}
use Rattle.mp_num.specs.Operations.{times, less, num}
use Rattle.mp_verdict.specs.Game.{summed_beside}
use Rattle.mp_verdict.specs.Rates.{Rates, period_unit, rate_need, unit_need, rates_at}
use Rattle.mp_verdict.specs.Program.{program, optimum_at}
use Rattle.mp_verdict.specs.Game.{Score, is_over, slack_of, Turn, Carried, Lowered, spent, lowered, by_value, turn, after_turn, played}
use Rattle.mp_verdict.proofs.Plain.{CarriesAt, unit_asked, values_of}
use Rattle.mp_verdict.proofs.Signed.{mul_posℤ, mul_le_nat}
use Rattle.mp_verdict.proofs.Vector.{unit_some}
use Rattle.mp_verdict.proofs.Duality.{full_stage, cancel_le}
use Rattle.mp_verdict.proofs.Falls.{turn as falls, some_values, good_at}
use Rattle.mp_verdict.proofs.Carrying.{carries_lower, carries_optimum}
use Rattle.mp_verdict.proofs.Values.{gives-some, gives-times, gives-less, gives-same}
use Rattle.mp_verdict.proofs.FlowNumbers.{abs_is, positive_is, above_one, flow_is}
use Rattle.mp_verdict.proofs.RatesAt.{d_of, f_of, g_of, period_gives, rate_gives, unit_gives, rates_are}
use Rattle.mp_verdict.proofs.Places.{values_outside, own_distinct, summed_gives, own_values}
use Rattle.mp_verdict.proofs.Solved.{IsSolved, plan_of}
use Rattle.mp_verdict.proofs.Programs.{solved_by}
use Rattle.mp_verdict.proofs.Playing.{fraction_is, slack_is}
use Rattle.mp_verdict.proofs.Sound.{IsSound}
use Rattle.mp_verdict.proofs.Reaching.{then_reached, same_reached, at_place_reached, optimum_reached}

-- the value and the denominator of the rates
pub over_is : (rates : Rates) (o : Optimum) (over : Bool) → is_over rates o ≡ Some over → over ≡ int_lt (rates.d *ℤ o.value.den) o.value.num
unfolding is_over
over_is rates o over e = option_map_some _ (within (rates.d *ℤ o.value.den)) over e (λ most hm e'. e' ∙ ap (λ t. int_lt t o.value.num) (within_some _ most hm))

pub within_numbers : (S m D vd : ℕ) (n : ℤ) → 1 ≤ vd → pos S *ℤ pos vd ≡ n *ℤ pos m → n ≤ℤ (pos D *ℤ pos vd) → S ≤ m * D
within_numbers S m D vd n some e le =
    let a = mul_le_nat m n (pos D *ℤ pos vd) le in
    let b : pos m *ℤ n ≡ n *ℤ pos m = omega (arith, ints) in
    let c : pos m *ℤ (pos D *ℤ pos vd) ≡ pos (m * (D * vd)) = ap (λ t. pos m *ℤ t) (mul_posℤ D vd) ∙ mul_posℤ m (D * vd) in
    cancel_le vd S (m * D) some (omega (arith, ints, a, b, c, e, mul_posℤ S vd))

pub over_numbers : (S m D vd : ℕ) (n : ℤ) → 1 ≤ m → pos S *ℤ pos vd ≡ n *ℤ pos m → (pos D *ℤ pos vd) <ℤ n → m * D < S
over_numbers S m D vd n some e lt =
    ⊎_elim (λ (h : m * D < S). h)
    (λ (h : S ≤ m * D).
    let a = mul_le_nat m (pos (D * vd + 1)) n (omega (arith, ints, mul_posℤ D vd)) in
    let b : pos m *ℤ n ≡ n *ℤ pos m = omega (arith, ints) in
    absurd (omega (arith, ints, a, b, mul_posℤ m (D * vd + 1), mul_posℤ S vd, e, mul-le-mul_right vd h)))
    (cases_lt (m * D) S)

module _ (net : Network) (ok : IsNetwork net) (flows : Flows) (are : AreFlows net flows) where
  -- the slack that an optimum's values give
  pub next_slack : (j : Junction) (values : List ℤ) (den : ℤ) (a : Fraction) → AllByRecursion (λ z. pos 0 ≤ℤ z) values → pos 1 ≤ℤ den → 1 ≤ sum_by (values_of (own net j) values) (movement_numbers net) → slack_of net flows (own net j) values den ≡ Some a →
      IsLowest a.num a.den × IsSlackOf net (d_of flows) (f_of flows) (g_of flows) (values_of (own net j) values) (unsigned_abs den) a.num (unsigned_abs a.den)
  unfolding slack_of
  next_slack j values den a all one some e =
      let ks = own net j in
      let Z = values_of ks values in
      let Y = net.shares * net.per * d_of flows in
      let x : ℕ → ℕ = λ k. share_of net k * f_of flows (from_of net k) in
      let u : ℕ → ℕ = λ k. unit_asked net (d_of flows) (g_of flows) k in
      let rates = gives-same _ _ (pos (rate_weight net (f_of flows) Z)) (summed_gives (λ k z. times (rate_need net flows k) (Some z)) x (λ k z. gives-times (rate_need net flows k) (Some z) (pos (x k)) z (rate_gives net flows are k) (gives-some z)) (pos 0) ks values (own_distinct net j) all) (let o = own_values net j x values in omega (arith, ints, o)) in
      let units = gives-same _ _ (pos (unit_weight net (d_of flows) (g_of flows) Z)) (summed_gives (λ k z. times (unit_need net flows k) (Some z)) u (λ k z. gives-times (unit_need net flows k) (Some z) (pos (u k)) z (unit_gives net flows are k) (gives-some z)) (pos 0) ks values (own_distinct net j) all) (let o = own_values net j u values in omega (arith, ints, o)) in
      let r = fraction_is (less (times (period_unit net flows) (Some den)) (summed_beside (λ k z. times (rate_need net flows k) (Some z)) (pos 0) ks values)) (times (num net.per) (summed_beside (λ k z. times (unit_need net flows k) (Some z)) (pos 0) ks values))
      (pos (Y * unsigned_abs den) -ℤ pos (rate_weight net (f_of flows) Z)) (net.per * unit_weight net (d_of flows) (g_of flows) Z) a
      (gives-less (times (period_unit net flows) (Some den)) (summed_beside (λ k z. times (rate_need net flows k) (Some z)) (pos 0) ks values) (pos (Y * unsigned_abs den)) (pos (rate_weight net (f_of flows) Z))
      (gives-same _ _ _ (gives-times (period_unit net flows) (Some den) (pos Y) den (period_gives net flows are) (gives-some den)) (ap (λ t. pos Y *ℤ t) (positive_is den one) ∙ mul_posℤ Y (unsigned_abs den))) rates)
      (gives-same _ _ _ (gives-times (num net.per) (summed_beside (λ k z. times (unit_need net flows k) (Some z)) (pos 0) ks values) (pos net.per) (pos (unit_weight net (d_of flows) (g_of flows) Z)) (gives-some _) units) (mul_posℤ net.per (unit_weight net (d_of flows) (g_of flows) Z)))
      (mul-le-mul ok.per (unit_some net (d_of flows) (g_of flows) Z ok.shares (above_one flows.d are.denominator) some)) e in
      (r.0, slack_is net (d_of flows) (f_of flows) (g_of flows) Z (unsigned_abs den) a r.0 r.1)

  -- a turn that lowers the slack
  turned : (n : ℕ) (st : Score) (rates : Rates) (o : Optimum) (a : Fraction) → n < length net.junctions → IsSound net flows n st → rates_at net flows st.slack ≡ Some rates → IsSolved net (junction_at net (n + 1)) (int_entry rates.h) o →
      true ≡ int_lt (rates.d *ℤ o.value.den) o.value.num → slack_of net flows (own net (junction_at net (n + 1))) o.primal o.primal_den ≡ Some a → IsSound net flows n (record { slack = a; junction = n + 1; values = o.primal })
  turned n st rates o a l sound hr solved over ha =
      let j = junction_at net (n + 1) in
      let here : (1 ≤ n + 1) × (n + 1 ≤ length net.junctions) = (omega arith, omega arith) in
      let q = unsigned_abs st.slack.den in
      let D = unsigned_abs rates.d in
      let den = positive_is st.slack.den sound.lowest.positive in
      let r = rates_are net flows are st.slack q rates den hr in
      let wh : rates.d ≡ pos D = abs_is rates.d r.sign in
      let vd : o.value.den ≡ pos (unsigned_abs o.value.den) = positive_is o.value.den solved.value_den in
      let S = sum_by (λ y. y) (plan_of o).parts in
      let m = (plan_of o).whole in
      let value : pos S *ℤ pos (unsigned_abs o.value.den) ≡ o.value.num *ℤ pos m = ap (λ t. pos S *ℤ t) (sym vd) ∙ solved.value in
      let lt0 : (rates.d *ℤ o.value.den) <ℤ o.value.num = omega (arith, ints, over) in
      let lt : (pos D *ℤ pos (unsigned_abs o.value.den)) <ℤ o.value.num = subst (λ (t : ℤ). (pos D *ℤ t) <ℤ o.value.num) vd (subst (λ (t : ℤ). (t *ℤ o.value.den) <ℤ o.value.num) wh lt0) in
      let more = over_numbers S m D (unsigned_abs o.value.den) o.value.num solved.optimum.whole value lt in
      let Z = values_of (own net j) o.primal in
      let z = unsigned_abs o.primal_den in
      let top = full_stage net j (int_entry rates.h) Z z (plan_of o) solved.optimum (omega (arith, more)) in
      let some = some_values net ok (n + 1) z Z solved.optimum.some top (good_at net net.junctions (n + 1 - 1) (omega arith) ok.stages) in
      let next = next_slack j o.primal o.primal_den a solved.values solved.den some ha in
      let both = falls net ok (d_of flows) (f_of flows) (g_of flows) st.slack.num q D rates.e (int_entry rates.h) (n + 1) Z z (plan_of o) a.num (unsigned_abs a.den) (flow_is net flows are) r.are here (λ k i out. values_outside net j o.primal k out) solved.optimum more next.1 in
      record {
        whole = z;
        lowest = next.0;
        worst = both.0;
        values = solved.values;
        carries = λ i some' i'. carries_lower net (d_of flows) (f_of flows) (g_of flows) st.slack.num q a.num (unsigned_abs a.den) (junction_at net i) sound.worst.slack.some (let lower = both.1 in omega (arith, ints, lower)) (sound.carries i some' i');
      }

  -- the junction carries the slack
  finished : (n : ℕ) (st : Score) (rates : Rates) (o : Optimum) → n < length net.junctions → IsSound net flows n st → rates_at net flows st.slack ≡ Some rates → IsSolved net (junction_at net (n + 1)) (int_entry rates.h) o →
      false ≡ int_lt (rates.d *ℤ o.value.den) o.value.num → IsSound net flows (n + 1) st
  finished n st rates o l sound hr solved over =
      let j = junction_at net (n + 1) in
      let q = unsigned_abs st.slack.den in
      let D = unsigned_abs rates.d in
      let den = positive_is st.slack.den sound.lowest.positive in
      let r = rates_are net flows are st.slack q rates den hr in
      let wh : rates.d ≡ pos D = abs_is rates.d r.sign in
      let vd : o.value.den ≡ pos (unsigned_abs o.value.den) = positive_is o.value.den solved.value_den in
      let S = sum_by (λ y. y) (plan_of o).parts in
      let m = (plan_of o).whole in
      let value : pos S *ℤ pos (unsigned_abs o.value.den) ≡ o.value.num *ℤ pos m = ap (λ t. pos S *ℤ t) (sym vd) ∙ solved.value in
      let le0 : o.value.num ≤ℤ (rates.d *ℤ o.value.den) = omega (arith, ints, over) in
      let le : o.value.num ≤ℤ (pos D *ℤ pos (unsigned_abs o.value.den)) = subst (λ (t : ℤ). o.value.num ≤ℤ (pos D *ℤ t)) vd (subst (λ (t : ℤ). o.value.num ≤ℤ (t *ℤ o.value.den)) wh le0) in
      let mass = within_numbers S m D (unsigned_abs o.value.den) o.value.num (above_one o.value.den solved.value_den) value le in
      let here = carries_optimum net (d_of flows) (f_of flows) (g_of flows) st.slack.num q D rates.e (int_entry rates.h) j (values_of (own net j) o.primal) (unsigned_abs o.primal_den) (plan_of o) r.are solved.optimum mass in
      record {
        whole = sound.whole;
        lowest = sound.lowest;
        worst = sound.worst;
        values = sound.values;
        carries = λ i some i'. (let P : ℕ → Type 0 = λ k. CarriesAt net (d_of flows) (f_of flows) (g_of flows) st.slack.num q (junction_at net k) in
            ⊎_elim (λ (h : i < n + 1). sound.carries i some (omega arith)) (λ (h : n + 1 ≤ i). let e : n + 1 ≡ i = omega arith in subst P e here) (cases_lt i (n + 1)));
      }

  abbrev TurnSound : ℕ → Score → Turn → Type 0
  TurnSound n st Carried = IsSound net flows (n + 1) st
  TurnSound n st (Lowered left next) = IsSound net flows n next

  by_value_sound : (n : ℕ) (st : Score) (over : Bool) (lower : Stated Turn) (t : Turn) → by_value over lower ≡ Reached t → (over ≡ true → lower ≡ Reached t → TurnSound n st t) → (over ≡ false → TurnSound n st Carried) → TurnSound n st t
  by_value_sound n st true lower t e h k = h refl e
  by_value_sound n st false lower t e h k = subst (TurnSound n st) (same_reached Carried t e) (k refl)

  turn_sound : (n turns : ℕ) (st : Score) (t : Turn) → n < length net.junctions → IsSound net flows n st → turn net flows (n + 1) turns st.slack ≡ Reached t → TurnSound n st t
  unfolding turn lowered
  turn_sound n turns st t l sound e =
      let j = n + 1 in
      then_reached (at_place (Place.Game j) (rates_at net flows st.slack)) _ t e (λ rates hr e1.
      then_reached (optimum_at (Place.Game j) j (maximised (program net (junction_at net j) rates.h) turns)) _ t e1 (λ o ho e2.
      then_reached (at_place (Place.Game j) (is_over rates o)) _ t e2 (λ over hv e3.
      (let rates_there = at_place_reached (Place.Game j) (rates_at net flows st.slack) rates hr in
      let solved = solved_by net (junction_at net j) rates.h ok (good_at net net.junctions (j - 1) (omega arith) ok.stages) turns o (optimum_reached (Place.Game j) j (maximised (program net (junction_at net j) rates.h) turns) o ho) in
      let over_there = over_is rates o over (at_place_reached (Place.Game j) (is_over rates o) over hv) in
      by_value_sound n st over _ t e3
      (λ yes e4. then_reached (spent j (turns - o.pivots)) _ t e4 (λ left hl e5.
      then_reached (at_place (Place.Game j) (slack_of net flows (own net (junction_at net j)) o.primal o.primal_den)) _ t e5 (λ a ha e6.
      subst (TurnSound n st) (same_reached (Lowered left (record { slack = a; junction = j; values = o.primal })) t e6)
      (turned n st rates o a l sound rates_there solved (sym yes ∙ over_there) (at_place_reached (Place.Game j) (slack_of net flows (own net (junction_at net j)) o.primal o.primal_den) a ha)))))
      (λ no. finished n st rates o l sound rates_there solved (sym no ∙ over_there))))))

  after_sound : (n rounds : ℕ) (st end : Score) (t : Turn) → TurnSound n st t → ((turns : ℕ) (next : Score) → IsSound net flows n next → played net flows (n + 1) rounds turns next ≡ Reached end → IsSound net flows (n + 1) end) →
      after_turn st t (played net flows (n + 1) rounds) ≡ Reached end → IsSound net flows (n + 1) end
  after_sound n rounds st end Carried sound more e = subst (IsSound net flows (n + 1)) (same_reached st end e) sound
  after_sound n rounds st end (Lowered left next) sound more e = more left next sound e

  -- the play of a junction
  pub played_sound : (n rounds turns : ℕ) (st end : Score) → n < length net.junctions → IsSound net flows n st → played net flows (n + 1) rounds turns st ≡ Reached end → IsSound net flows (n + 1) end
  unfolding played
  played_sound n zero turns st end l sound e = absurd (cc)
  played_sound n (suc rounds) turns st end l sound e =
      then_reached (turn net flows (n + 1) turns st.slack) _ end e (λ t ht e1.
      after_sound n rounds st end t (turn_sound n turns st t l sound ht) (λ left next s e2. played_sound n rounds left next end l s e2) e1)
