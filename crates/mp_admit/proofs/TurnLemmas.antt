-- A turn of the game.
use Rattle.std.proofs.Common.{to_z-of_z, ◌≡◌, ◌≢◌, ℕ, zero, suc, ◌+◌, ◌-◌, ◌<◌, ◌≤◌, Bool, true, false, List, [], ◌∷◌, All, get_or, length, ℤ, pos, negsuc, ◌+ℤ◌, ◌*ℤ◌, ◌≤ℤ◌, ◌<ℤ◌, Option, Some, None, option_map, Result, Ok, Err, refl, ap, sym, ◌∙◌, subst, arith, int_lt}
use Rattle.std.specs.List.{AllByRecursion}
use Rattle.std.proofs.lemmas.Int.{ints}
use Rattle.std.proofs.lemmas.List.Elements.{All-from_recursion}
use Rattle.mp_num.specs.Checked.{within}
use Rattle.mp_num.specs.Fraction.{Fraction}
use Rattle.mp_num.specs.Row.{entry}
use Rattle.mp_num.specs.Sums.{total}
use Rattle.mp_num.proofs.CheckedLemmas.{within_some}
use Rattle.mp_model.specs.Sums.{int_sum_by}
use Rattle.mp_model.specs.Network.{Network, junction_at, own}
use Rattle.mp_flow.specs.Systems.{Flows}
use Rattle.mp_flow.specs.declared.network.Place.{Place}
use Rattle.mp_flow.specs.declared.network.CalcFault.{CalcFault}
use Rattle.mp_simplex.specs.declared.Lp.{Lp}
use Rattle.mp_simplex.specs.declared.Optimum.{Optimum}
use Rattle.mp_simplex.specs.Meeting.{IsOptimum}
use Rattle.mp_simplex.specs.Optimal.{product}
use Rattle.mp_simplex.specs.Outcome.{maximised}
use Rattle.mp_verdict.specs.Rates.{Rates, rates_at}
use Rattle.mp_verdict.specs.Program.{program, optimum_at}
use Rattle.mp_verdict.specs.Game.{Turn, Carried, Lowered, is_over, slack_of, spent, lowered, by_value, turn}
use Rattle.mp_verdict.specs.Stated.{Stated, Reached, PassesAt, LimitAt, at_place, then, Gives}
use Rattle.mp_admit.specs.Scores.{AreValues, AskSome}
use Rattle.mp_admit.proofs.FaultLemmas.{fault_then}
use Rattle.mp_admit.proofs.SlackLemmas.{product_sign, product_positive}

-- ---- the slack falls
pub lowered_limit : (net : Network) (flows : Flows) (j turns : ℕ) (o : Optimum) → turns ≡ 0 → lowered net flows j turns o ≡ LimitAt j
unfolding lowered
lowered_limit net flows j turns o e = rw e refl

spent_one : (j turns : ℕ) → turns ≢ 0 → spent j turns ≡ Reached (turns - 1)
spent_one j zero h = absurd (h refl)
spent_one j (suc turns) h = ap Reached (omega arith)

pub lowered_passes : (net : Network) (flows : Flows) (j turns : ℕ) (o : Optimum) → turns ≢ 0 → slack_of net flows (own net (junction_at net j)) o.primal o.primal_den ≡ None → lowered net flows j turns o ≡ PassesAt (Place.Game j)
unfolding lowered
lowered_passes net flows j turns o h e = rw (spent_one j turns h, e) refl

pub lowered_to : (net : Network) (flows : Flows) (j turns : ℕ) (o : Optimum) (slack : Fraction) → turns ≢ 0 → slack_of net flows (own net (junction_at net j)) o.primal o.primal_den ≡ Some slack →
    lowered net flows j turns o ≡ Reached (Lowered (turns - 1) (record { slack = slack; junction = j; values = o.primal }))
unfolding lowered
lowered_to net flows j turns o slack h e = rw (spent_one j turns h, e) refl

pub ruleset lowering = (to_z-of_z, lowered_limit, lowered_passes, lowered_to)

-- ---- the values of an optimum above the denominator
entries_all : (n : ℕ) (xs : List ℤ) → length xs ≡ n → ((k : ℕ) → k < n → pos 0 ≤ℤ entry xs k) → AllByRecursion (λ z. pos 0 ≤ℤ z) xs
entries_all n [] l h = tt
entries_all zero (x ∷ xs) l h = absurd (omega (arith, l))
entries_all (suc n) (x ∷ xs) l h = (h 0 (omega arith), entries_all n xs (omega (arith, l)) (λ k m. h (suc k) (omega arith)))

pub optimum_values : (net : Network) (j : ℕ) (h : List ℤ) (o : Optimum) → IsOptimum (program net (junction_at net j) h) o → AreValues net j o.primal
optimum_values net j h o p = record {
  size = p.primal.size;
  sign = All-from_recursion (λ z. pos 0 ≤ℤ z) o.primal (entries_all (length (own net (junction_at net j))) o.primal p.primal.size p.primal.not_negative);
}

zeros : (xs : List ℤ) → AllByRecursion (λ z. pos 0 ≤ℤ z) xs → int_sum_by (λ (z : ℤ). z) xs ≤ℤ pos 0 → (k : ℕ) → entry xs k ≡ pos 0
zeros [] s h k = refl
zeros (x ∷ xs) s h zero = (let r = sums xs s.1 in let z = s.0 in omega (arith, ints, h, r, z))
  where
    sums : (xs : List ℤ) → AllByRecursion (λ z. pos 0 ≤ℤ z) xs → pos 0 ≤ℤ int_sum_by (λ (z : ℤ). z) xs
    sums [] s = omega (arith, ints)
    sums (x ∷ xs) s = (let r = sums xs s.1 in let z = s.0 in omega (arith, ints, r, z))
zeros (x ∷ xs) s h (suc k) = zeros xs s.1 (let z = s.0 in omega (arith, ints, h, z)) k

zero_product : (c : ℤ) → c *ℤ pos 0 ≡ pos 0
zero_product c = omega (arith, ints)

zero_total : (n : ℕ) (f : ℕ → ℤ) → ((k : ℕ) → f k ≡ pos 0) → total n f ≡ pos 0
zero_total zero f h = refl
zero_total (suc n) f h = (let r = zero_total n f h in let e = h n in omega (arith, ints, r, e))

below_sum : (s : ℤ) → (s ≤ℤ pos 0 → ⊥) → pos 1 ≤ℤ s
below_sum (pos zero) h = absurd (h (omega (arith, ints)))
below_sum (pos (suc n)) h = omega (arith, ints)
below_sum (negsuc n) h = absurd (h (omega (arith, ints)))

above_zero : (most num : ℤ) → pos 0 ≤ℤ most → int_lt most num ≡ true → pos 1 ≤ℤ num
above_zero most num h l = grind (arith, ints)

pub asks_some : (lp : Lp) (o : Optimum) (rates : Rates) → IsOptimum lp o → pos 0 ≤ℤ rates.d → is_over rates o ≡ Some true → AskSome o.primal
unfolding is_over
asks_some lp o rates p d over = below_sum (int_sum_by (λ (z : ℤ). z) o.primal) no
  where
    most : (r : Option ℤ) → option_map (λ most. int_lt most o.value.num) r ≡ Some true → (m : ℤ) × ((r ≡ Some m) × (int_lt m o.value.num ≡ true))
    most None e = cc
    most (Some m) e = (m, (refl, cc))

    num_positive : pos 1 ≤ℤ o.value.num
    num_positive = (let m = most (within (rates.d *ℤ o.value.den)) over in let e : m.0 ≡ rates.d *ℤ o.value.den = within_some (rates.d *ℤ o.value.den) m.0 m.1.0 in
        let one = p.value_positive in above_zero m.0 o.value.num (subst (λ (t : ℤ). pos 0 ≤ℤ t) (sym e) (product_sign rates.d o.value.den d (omega (arith, ints, one)))) m.1.1)

    no : int_sum_by (λ (z : ℤ). z) o.primal ≤ℤ pos 0 → ⊥
    no h = (let z = zeros o.primal (entries_all lp.cols o.primal p.primal.size p.primal.not_negative) h in
        let nothing : product lp.cols lp.c o.primal ≡ pos 0 = zero_total lp.cols (λ k. entry lp.c k *ℤ entry o.primal k) (λ k. ap (λ t. entry lp.c k *ℤ t) (z k) ∙ zero_product (entry lp.c k)) in
        let left : product lp.cols lp.c o.primal *ℤ o.value.den ≡ pos 0 = ap (λ t. t *ℤ o.value.den) nothing ∙ omega (arith, ints) in
        let right : pos 1 ≤ℤ (o.value.num *ℤ o.primal_den) = product_positive o.value.num o.primal_den num_positive p.primal.positive in
        let same = p.primal_value in
        omega (arith, ints, left, right, same))

-- ---- a turn
abbrev rest_of : Network → Flows → ℕ → ℕ → Rates → Optimum → Stated Turn
rest_of net flows j turns rates o = then (at_place (Place.Game j) (is_over rates o)) (λ over. by_value over (lowered net flows j (turns - o.pivots) o))

pub turn_no_rates : {X X' : Type 0} (seen : X → Rates) (seen' : X' → Turn) (net : Network) (flows : Flows) (j turns : ℕ) (slack : Fraction) (fault : CalcFault) → Gives seen (Err fault) (at_place (Place.Game j) (rates_at net flows slack)) → Gives seen' (Err fault) (turn net flows j turns slack)
unfolding turn
turn_no_rates seen seen' net flows j turns slack fault g = fault_then seen seen' fault (at_place (Place.Game j) (rates_at net flows slack)) _ _ refl g

turn_with : (net : Network) (flows : Flows) (j turns : ℕ) (slack : Fraction) (rates : Rates) → at_place (Place.Game j) (rates_at net flows slack) ≡ Reached rates →
    turn net flows j turns slack ≡ then (optimum_at (Place.Game j) j (maximised (program net (junction_at net j) rates.h) turns)) (rest_of net flows j turns rates)
unfolding turn
turn_with net flows j turns slack rates r = rw r refl

pub turn_no_optimum : {X X' : Type 0} (seen : X → Optimum) (seen' : X' → Turn) (net : Network) (flows : Flows) (j turns : ℕ) (slack : Fraction) (rates : Rates) (fault : CalcFault) → at_place (Place.Game j) (rates_at net flows slack) ≡ Reached rates →
    Gives seen (Err fault) (optimum_at (Place.Game j) j (maximised (program net (junction_at net j) rates.h) turns)) → Gives seen' (Err fault) (turn net flows j turns slack)
turn_no_optimum seen seen' net flows j turns slack rates fault r g =
    fault_then seen seen' fault (optimum_at (Place.Game j) j (maximised (program net (junction_at net j) rates.h) turns)) (rest_of net flows j turns rates) _ (turn_with net flows j turns slack rates r) g

turn_at : (net : Network) (flows : Flows) (j turns : ℕ) (slack : Fraction) (rates : Rates) (o : Optimum) → at_place (Place.Game j) (rates_at net flows slack) ≡ Reached rates → optimum_at (Place.Game j) j (maximised (program net (junction_at net j) rates.h) turns) ≡ Reached o →
    turn net flows j turns slack ≡ rest_of net flows j turns rates o
turn_at net flows j turns slack rates o r p = turn_with net flows j turns slack rates r ∙ rw p refl

pub turn_no_order : (net : Network) (flows : Flows) (j turns : ℕ) (slack : Fraction) (rates : Rates) (o : Optimum) → at_place (Place.Game j) (rates_at net flows slack) ≡ Reached rates → optimum_at (Place.Game j) j (maximised (program net (junction_at net j) rates.h) turns) ≡ Reached o →
    is_over rates o ≡ None → turn net flows j turns slack ≡ PassesAt (Place.Game j)
turn_no_order net flows j turns slack rates o r p e = turn_at net flows j turns slack rates o r p ∙ rw e refl

pub turn_carried : (net : Network) (flows : Flows) (j turns : ℕ) (slack : Fraction) (rates : Rates) (o : Optimum) → at_place (Place.Game j) (rates_at net flows slack) ≡ Reached rates → optimum_at (Place.Game j) j (maximised (program net (junction_at net j) rates.h) turns) ≡ Reached o →
    is_over rates o ≡ Some false → turn net flows j turns slack ≡ Reached Carried
turn_carried net flows j turns slack rates o r p e = turn_at net flows j turns slack rates o r p ∙ rw e refl

pub turn_lowers : (net : Network) (flows : Flows) (j turns : ℕ) (slack : Fraction) (rates : Rates) (o : Optimum) → at_place (Place.Game j) (rates_at net flows slack) ≡ Reached rates → optimum_at (Place.Game j) j (maximised (program net (junction_at net j) rates.h) turns) ≡ Reached o →
    is_over rates o ≡ Some true → turn net flows j turns slack ≡ lowered net flows j (turns - o.pivots) o
turn_lowers net flows j turns slack rates o r p e = turn_at net flows j turns slack rates o r p ∙ rw e refl

pub ruleset turning = (to_z-of_z, turn_no_order, turn_carried)
