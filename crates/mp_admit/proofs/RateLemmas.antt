-- The rates at a slack from their row.
use Rattle.std.proofs.Common.{to_z-of_z, ◌≡◌, ℕ, zero, suc, ◌+◌, ◌≤◌, List, [], ◌∷◌, ◌++◌, length, ℤ, negsuc, ◌*ℤ◌, ◌≤ℤ◌, subst, Option, Some, None, Err, option_map, refl, ap, sym, ◌∙◌, arith, Bool, true, false}
use Rattle.std.proofs.lemmas.List.{length-map}
use Rattle.std.specs.Prelude.{if◌then◌else◌, ◌-◌, map, int_div, pos, nat_eq, nat_lt, ◌||◌, ◌^◌}
use Rattle.mp_num.specs.Divisor.{divisor, divided, reduced}
use Rattle.mp_num.specs.Fraction.{Fraction}
use Rattle.mp_num.specs.Passing.{each}
use Rattle.mp_model.specs.Network.{Network, movement_numbers}
use Rattle.mp_flow.specs.Systems.{Flows, AreFlows}
use Rattle.mp_flow.specs.declared.network.Place.{Place}
use Rattle.mp_num.specs.Operations.{times, num}
use Rattle.mp_verdict.specs.Rates.{period_unit, need_at, rate_row, rates_in, rates_at, Rates}
use Rattle.mp_verdict.specs.Stated.{Gives, Reached, PassesAt, at_place}
use Rattle.mp_flow.specs.declared.network.CalcFault.{CalcFault}
use Rattle.mp_num.specs.Row.{entry}
use Rattle.mp_num.proofs.RowLemmas.{reduced_multiple}
use Rattle.std.proofs.lemmas.Int.{ints}
use Rattle.mp_admit.specs.Lists.{before}
use Rattle.mp_admit.proofs.SlackLemmas.{factors, some_injective, product_sign}
use Rattle.mp_admit.proofs.FaultLemmas.{fault_kept}

pub length-reduced : (xs : List ℤ) → length (reduced xs) ≡ length xs
unfolding reduced divided
length-reduced xs = go (nat_eq (divisor xs) 0 || nat_lt (2 ^ 127 - 1) (divisor xs))
  where
    go : (b : Bool) → length (if b then xs else map (λ x. int_div x (pos (divisor xs))) xs) ≡ length xs
    go true = refl
    go false = length-map xs (λ x. int_div x (pos (divisor xs)))

pub rates_no_whole : (place : Place) (net : Network) (flows : Flows) (slack : Fraction) → times (period_unit net flows) (Some slack.den) ≡ None → at_place place (rates_at net flows slack) ≡ PassesAt place
unfolding rates_at rate_row
rates_no_whole place net flows slack d = rw d refl

pub rates_no_excess : (place : Place) (net : Network) (flows : Flows) (slack : Fraction) (whole : ℤ) → times (period_unit net flows) (Some slack.den) ≡ Some whole → times (period_unit net flows) (Some slack.num) ≡ None → at_place place (rates_at net flows slack) ≡ PassesAt place
unfolding rates_at rate_row
rates_no_excess place net flows slack whole d e = rw (d, e) refl

pub rates_no_needs : (net : Network) (flows : Flows) (slack : Fraction) (whole excess : ℤ) → times (period_unit net flows) (Some slack.den) ≡ Some whole → times (period_unit net flows) (Some slack.num) ≡ Some excess →
    before (whole ∷ excess ∷ []) (each (need_at net flows slack) (movement_numbers net)) ≡ None → rates_at net flows slack ≡ None
unfolding rates_at rate_row
rates_no_needs net flows slack whole excess d e n = rw (d, e) (go (each (need_at net flows slack) (movement_numbers net)) n)
  where
    go : (o : Option (List ℤ)) → before (whole ∷ excess ∷ []) o ≡ None → option_map (λ row. rates_in (reduced row)) (option_map (λ h. whole ∷ excess ∷ h) o) ≡ None
    go None n = refl
    go (Some h) n = cc

pub rates_refused : {X X' : Type 0} (seen : X → List ℤ) (seen' : X' → Rates) (place : Place) (net : Network) (flows : Flows) (slack : Fraction) (whole excess : ℤ) (first : List ℤ) (fault : CalcFault) →
    times (period_unit net flows) (Some slack.den) ≡ Some whole → times (period_unit net flows) (Some slack.num) ≡ Some excess → first ≡ whole ∷ excess ∷ [] →
    Gives seen (Err fault) (at_place place (before first (each (need_at net flows slack) (movement_numbers net)))) → Gives seen' (Err fault) (at_place place (rates_at net flows slack))
rates_refused seen seen' place net flows slack whole excess first fault d e f g =
    fault_kept seen seen' place fault (before first (each (need_at net flows slack) (movement_numbers net))) (rates_at net flows slack) (λ n. rates_no_needs net flows slack whole excess d e (ap (λ l. before l (each (need_at net flows slack) (movement_numbers net))) (sym f) ∙ n)) g

pub rates_reached : (place : Place) (net : Network) (flows : Flows) (slack : Fraction) (whole excess : ℤ) (row : List ℤ) → times (period_unit net flows) (Some slack.den) ≡ Some whole → times (period_unit net flows) (Some slack.num) ≡ Some excess →
    at_place place (before (whole ∷ excess ∷ []) (each (need_at net flows slack) (movement_numbers net))) ≡ Reached row → at_place place (rates_at net flows slack) ≡ Reached (rates_in (reduced row))
unfolding rates_at rate_row
rates_reached place net flows slack whole excess row d e n = rw (d, e) (go (each (need_at net flows slack) (movement_numbers net)) n)
  where
    go : (o : Option (List ℤ)) → at_place place (before (whole ∷ excess ∷ []) o) ≡ Reached row → at_place place (option_map (λ row. rates_in (reduced row)) (option_map (λ h. whole ∷ excess ∷ h) o)) ≡ Reached (rates_in (reduced row))
    go None n = cc
    go (Some h) n = let s : whole ∷ excess ∷ h ≡ row = cc in ap (λ (r : List ℤ). Reached (rates_in (reduced r))) s

-- the denominator is at least 0
part_sign : (g : ℕ) (x y : ℤ) → 1 ≤ g → x ≡ pos g *ℤ y → pos 0 ≤ℤ x → pos 0 ≤ℤ y
part_sign zero x y h e s = absurd (omega arith)
part_sign (suc g) x (pos n) h e s = omega (arith, ints)
part_sign (suc g) x (negsuc n) h e s = absurd (omega (arith, ints, e, s))

pub reduced_sign : (xs : List ℤ) (k : ℕ) → pos 0 ≤ℤ entry xs k → pos 0 ≤ℤ entry (reduced xs) k
reduced_sign xs k h = let m = reduced_multiple xs in part_sign m.0 (entry xs k) (entry (reduced xs) k) m.1.above (m.1.at k) h

pub whole_sign : (net : Network) (flows : Flows) (den v : ℤ) → AreFlows net flows → pos 1 ≤ℤ den → times (period_unit net flows) (Some den) ≡ Some v → pos 0 ≤ℤ v
unfolding period_unit
whole_sign net flows den v a h e =
    let f = factors (times (times (num net.shares) (num net.per)) (Some flows.d)) (Some den) v e in
    let g = factors (times (num net.shares) (num net.per)) (Some flows.d) f.left f.is_left in
    let k = factors (num net.shares) (num net.per) g.left g.is_left in
    let a1 : pos net.shares ≡ k.left = some_injective k.is_left in
    let a2 : pos net.per ≡ k.right = some_injective k.is_right in
    let a3 : flows.d ≡ g.right = some_injective g.is_right in
    let a4 : den ≡ f.right = some_injective f.is_right in
    let s1 : pos 0 ≤ℤ k.left = subst (λ (t : ℤ). pos 0 ≤ℤ t) a1 (omega (arith, ints)) in
    let s2 : pos 0 ≤ℤ k.right = subst (λ (t : ℤ). pos 0 ≤ℤ t) a2 (omega (arith, ints)) in
    let s3 : pos 0 ≤ℤ g.right = (let one = a.denominator in subst (λ (t : ℤ). pos 0 ≤ℤ t) a3 (omega (arith, ints, one))) in
    let s4 : pos 0 ≤ℤ f.right = subst (λ (t : ℤ). pos 0 ≤ℤ t) a4 (omega (arith, ints, h)) in
    let p1 : pos 0 ≤ℤ g.left = subst (λ (t : ℤ). pos 0 ≤ℤ t) (sym k.value) (product_sign k.left k.right s1 s2) in
    let p2 : pos 0 ≤ℤ f.left = subst (λ (t : ℤ). pos 0 ≤ℤ t) (sym g.value) (product_sign g.left g.right p1 s3) in
    subst (λ (t : ℤ). pos 0 ≤ℤ t) (sym f.value) (product_sign f.left f.right p2 s4)

pub first_sign : (place : Place) (first row out : List ℤ) (whole excess : ℤ) (o : Option (List ℤ)) → first ≡ whole ∷ excess ∷ [] → pos 0 ≤ℤ whole → at_place place (before first o) ≡ Reached row → out ≡ reduced row → pos 0 ≤ℤ (rates_in out).d
first_sign place first row out whole excess None f h e r = cc
first_sign place first row out whole excess (Some ys) f h e r =
    let e1 : first ++ ys ≡ row = cc in
    let e2 : whole ∷ excess ∷ ys ≡ row = ap (λ (l : List ℤ). l ++ ys) (sym f) ∙ e1 in
    subst (λ (l : List ℤ). pos 0 ≤ℤ entry l 0) (sym r) (reduced_sign row 0 (subst (λ (l : List ℤ). pos 0 ≤ℤ entry l 0) e2 h))

pub ruleset rating = (to_z-of_z, length-reduced, rates_no_whole, rates_no_excess, rates_reached)

pub ruleset reducing = (length-reduced)
