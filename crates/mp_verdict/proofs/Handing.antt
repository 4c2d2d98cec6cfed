-- What the code that plays the game takes from the laws.
use Rattle.std.proofs.Common.{◌≡◌, ℕ, ◌-◌, ◌≤◌, true, List, [], ◌∷◌, length, map, sum_by, ℤ, pos, ◌*ℤ◌, ◌≤ℤ◌, ◌<ℤ◌, unsigned_abs, Some, arith, refl, sym, ◌∙◌, ap, subst, All}
use Rattle.std.specs.List.{AllByRecursion}
use Rattle.std.proofs.lemmas.Int.{ints}
use Rattle.mp_model.specs.Sums.{int_sum_by}
use Rattle.mp_model.specs.Network.{Network, movement_numbers, junction_at, own}
use Rattle.mp_model.specs.NetworkRules.{IsNetwork}
use Rattle.mp_model.specs.Certificate.{int_entry}
use Rattle.mp_num.specs.Fraction.{Fraction}
use Rattle.mp_flow.specs.Systems.{Flows, AreFlows}
use Rattle.mp_simplex.specs.declared.Optimum.{Optimum}
use Rattle.mp_simplex.specs.Outcome.{Optimal, maximised}
use Rattle.mp_verdict.specs.Stated.{Reached}
use Rattle.mp_verdict.specs.Rates.{Rates, rates_at}
use Rattle.mp_verdict.specs.Program.{program}
use Rattle.mp_verdict.specs.Game.{Score, is_over, game}
use Rattle.mp_verdict.specs.Vector.{spread, link_values}
use Rattle.mp_verdict.proofs.Plain.{values_of}
use Rattle.mp_verdict.proofs.Signed.{ints-pos}
use Rattle.mp_verdict.proofs.Duality.{full_stage}
use Rattle.mp_verdict.proofs.Falls.{some_values, good_at, ints-same_in, own_sum}
use Rattle.mp_verdict.proofs.FlowNumbers.{abs_is, positive_is}
use Rattle.mp_verdict.proofs.RatesAt.{rates_are}
use Rattle.mp_verdict.proofs.Places.{values_outside, own_distinct}
use Rattle.mp_verdict.proofs.Solved.{plan_of}
use Rattle.mp_verdict.proofs.ListProgram.{dot}
use Rattle.mp_verdict.proofs.LpLemmas.{dot_values}
use Rattle.mp_verdict.proofs.Programs.{solved_by, primal_length}
use Rattle.mp_verdict.proofs.Turns.{over_is, over_numbers}
use Rattle.mp_verdict.proofs.Sound.{IsSound}
use Rattle.mp_verdict.proofs.Whole.{game_sound}
use Rattle.mp_verdict.proofs.VectorOf.{brought_is}

-- the denominator of the rates is not negative, and there is a rate per movement
pub rates_shape : (net : Network) (flows : Flows) → AreFlows net flows → (slack : Fraction) → pos 1 ≤ℤ slack.den → (rates : Rates) → rates_at net flows slack ≡ Some rates → (pos 0 ≤ℤ rates.d) × (length rates.h ≡ length net.movements)
rates_shape net flows are slack one rates e = let r = rates_are net flows are slack (unsigned_abs slack.den) rates (positive_is slack.den one) e in (r.sign, r.count)

dot_ones : (ks : List ℕ) (zs : List ℤ) → length zs ≡ length ks → dot (map (λ (k : ℕ). pos 1) ks) zs ≡ int_sum_by (λ (z : ℤ). z) zs
dot_ones [] [] e = refl
dot_ones [] (z ∷ zs) e = absurd (omega arith)
dot_ones (k ∷ ks) [] e = absurd (omega arith)
dot_ones (k ∷ ks) (z ∷ zs) e = let r = dot_ones ks zs (omega arith) in omega (arith, ints, r)

-- the values of a score at the end of the game are not negative
pub end_values : (net : Network) → IsNetwork net → (flows : Flows) → AreFlows net flows → (score : Score) → game net flows ≡ Reached (Some score) → AllByRecursion (λ z. pos 0 ≤ℤ z) score.values
end_values net ok flows are score e = let s : IsSound net flows (length net.junctions) score = game_sound net ok flows are (Some score) e in s.values

-- what values that are not negative bring to the links is one number of at least 0 per link
pub brought_shape : (net : Network) → IsNetwork net → (score : Score) → AllByRecursion (λ z. pos 0 ≤ℤ z) score.values → (u : List ℤ) → link_values net (spread net score) ≡ Some u → (length u ≡ length net.links) × All (λ v. pos 0 ≤ℤ v) u
brought_shape net ok score sign u e = let b = brought_is net ok score sign u e in (b.count, b.signs)

module _ (net : Network) (ok : IsNetwork net) (j : ℕ) (inside : (1 ≤ j) × (j ≤ length net.junctions)) (rates : Rates) (limit : ℕ) (o : Optimum) (optimal : maximised (program net (junction_at net j) rates.h) limit ≡ Optimal o) where
  -- an optimum above the denominator of the rates has values that are not all 0
  pub over_asks : pos 0 ≤ℤ rates.d → is_over rates o ≡ Some true → pos 1 ≤ℤ int_sum_by (λ (z : ℤ). z) o.primal
  over_asks sign over =
      let here = junction_at net j in
      let solved = solved_by net here rates.h ok (good_at net net.junctions (j - 1) (omega (arith, inside)) ok.stages) limit o optimal in
      let D = unsigned_abs rates.d in
      let dh : rates.d ≡ pos D = abs_is rates.d sign in
      let vd : o.value.den ≡ pos (unsigned_abs o.value.den) = positive_is o.value.den solved.value_den in
      let S = sum_by (λ y. y) (plan_of o).parts in
      let m = (plan_of o).whole in
      let value : pos S *ℤ pos (unsigned_abs o.value.den) ≡ o.value.num *ℤ pos m = ap (λ t. pos S *ℤ t) (sym vd) ∙ solved.value in
      let test = over_is rates o true over in
      let lt0 : (rates.d *ℤ o.value.den) <ℤ o.value.num = omega (arith, ints, test) in
      let lt : (pos D *ℤ pos (unsigned_abs o.value.den)) <ℤ o.value.num = subst (λ (t : ℤ). (pos D *ℤ t) <ℤ o.value.num) vd (subst (λ (t : ℤ). (t *ℤ o.value.den) <ℤ o.value.num) dh lt0) in
      let more = over_numbers S m D (unsigned_abs o.value.den) o.value.num solved.optimum.whole value lt in
      let ks = own net here in
      let Z = values_of ks o.primal in
      let top = full_stage net here (int_entry rates.h) Z (unsigned_abs o.primal_den) (plan_of o) solved.optimum (omega (arith, more)) in
      let some = some_values net ok j (unsigned_abs o.primal_den) Z solved.optimum.some top (good_at net net.junctions (j - 1) (omega (arith, inside)) ok.stages) in
      let all : sum_by Z ks ≡ sum_by Z (movement_numbers net) = own_sum net here Z (λ k i out. values_outside net here o.primal k out) in
      let long = primal_length net here rates.h ok (good_at net net.junctions (j - 1) (omega (arith, inside)) ok.stages) limit o optimal in
      let ones = dot_ones ks o.primal long in
      let by = dot_values (λ (k : ℕ). pos 1) ks o.primal (own_distinct net here) solved.values long in
      let same : int_sum_by (λ k. pos 1 *ℤ pos (Z k)) ks ≡ int_sum_by (λ k. pos (Z k)) ks = ints-same_in (λ k. pos 1 *ℤ pos (Z k)) (λ k. pos (Z k)) ks (λ k i. omega (arith, ints)) in
      let naturals = ints-pos Z ks in
      omega (arith, ints, some, all, ones, by, same, naturals)
