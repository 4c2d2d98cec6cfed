-- What the program of a junction says of the rates of a trial.
use Rattle.std.proofs.Common.{◌≡◌, ℕ, ◌-◌, ◌*◌, ◌≤◌, ◌<◌, Bool, true, false, List, length, map, sum_by, ℤ, pos, ◌*ℤ◌, ◌≤ℤ◌, ◌<ℤ◌, int_lt, unsigned_abs, Some, arith, sym, ◌∙◌, ap, subst, mul-le-mul, mul-le-mul_left}
use Rattle.std.proofs.Math.ListN.{get_or-map}
use Rattle.std.proofs.lemmas.Int.{ints}
use Rattle.mp_num.specs.Checked.{within}
use Rattle.mp_num.proofs.CheckedLemmas.{within_some}
use Rattle.mp_num.proofs.OutcomeLemmas.{option_map_some}
use Rattle.mp_num.proofs.Ring.{diff_of, differences, diff-eq, pos_diff}
use Rattle.mp_model.specs.Network.{Network, Junction, movement_numbers, junction_numbers, junction_at, flow_of, own, stands_in, has, entry}
use Rattle.mp_model.specs.NetworkRules.{IsNetwork}
use Rattle.mp_model.specs.Certificate.{int_entry}
use Rattle.mp_laws.proofs.PlainCertificate.{PlainCert, Holds, plain_h, plain_parts_with}
use Rattle.mp_laws.proofs.Lists.{at_in, each_in, in_numbers, filter_sub}
use Rattle.mp_simplex.specs.declared.Optimum.{Optimum}
use Rattle.mp_simplex.specs.Outcome.{Optimal, maximised}
use Rattle.mp_verdict.specs.Worst.{stage_top}
use Rattle.mp_verdict.specs.Program.{program}
use Rattle.mp_verdict.specs.declared.TheConstants.{TURN_LIMIT}
use Rattle.mp_verdict.proofs.Plain.{objective, values_of}
use Rattle.mp_verdict.proofs.Signed.{mul_posℤ, mul_le_nat}
use Rattle.mp_verdict.proofs.Duality.{weak_duality, cancel_le}
use Rattle.mp_verdict.proofs.Falls.{good_at}
use Rattle.mp_verdict.proofs.FlowNumbers.{positive_is, above_one}
use Rattle.mp_verdict.proofs.Solved.{IsSolved, plan_of}
use Rattle.mp_verdict.proofs.Programs.{solved_by}
use Rattle.mp_verdict.proofs.Turns.{within_numbers, over_numbers}
use Rattle.mp_trial.specs.Trials.{is_above_whole}
use Rattle.mp_trial.proofs.Bounds.{served_at}

-- ---- the value and the denominator
above_is : (D : ℕ) (o : Optimum) (b : Bool) → is_above_whole D o ≡ Some b → b ≡ int_lt (pos D *ℤ o.value.den) o.value.num
unfolding is_above_whole
above_is D o b e = option_map_some _ (within (pos D *ℤ o.value.den)) b e (λ most h e'. e' ∙ ap (λ t. int_lt t o.value.num) (within_some _ most h))

module _ (net : Network) (j : Junction) (h : ℕ → ℤ) (D : ℕ) (o : Optimum) (solved : IsSolved net j h o) where
  den_is : o.value.den ≡ pos (unsigned_abs o.value.den)
  den_is = positive_is o.value.den solved.value_den

  value_is : pos (sum_by (λ y. y) (plan_of o).parts) *ℤ pos (unsigned_abs o.value.den) ≡ o.value.num *ℤ pos (plan_of o).whole
  value_is = ap (λ t. pos (sum_by (λ y. y) (plan_of o).parts) *ℤ t) (sym den_is) ∙ solved.value

  -- a value above the denominator asks for more than the whole
  pub mass_above : is_above_whole D o ≡ Some true → (plan_of o).whole * D < sum_by (λ y. y) (plan_of o).parts
  mass_above e =
      let over = above_is D o true e in
      let lt : (pos D *ℤ o.value.den) <ℤ o.value.num = omega (arith, ints, over) in
      over_numbers (sum_by (λ y. y) (plan_of o).parts) (plan_of o).whole D (unsigned_abs o.value.den) o.value.num solved.optimum.whole value_is (subst (λ (t : ℤ). (pos D *ℤ t) <ℤ o.value.num) den_is lt)

  -- and any other for the whole at most
  pub mass_most : is_above_whole D o ≡ Some false → sum_by (λ y. y) (plan_of o).parts ≤ (plan_of o).whole * D
  mass_most e =
      let over = above_is D o false e in
      let le : o.value.num ≤ℤ (pos D *ℤ o.value.den) = omega (arith, ints, over) in
      within_numbers (sum_by (λ y. y) (plan_of o).parts) (plan_of o).whole D (unsigned_abs o.value.den) o.value.num (above_one o.value.den solved.value_den) value_is (subst (λ (t : ℤ). o.value.num ≤ℤ (pos D *ℤ t)) den_is le)

-- ---- the program at some rates
pub entry_is : (h : List ℕ) (k : ℕ) → int_entry (map pos h) k ≡ pos (entry h k)
entry_is h k = get_or-map pos h (k - 1) 0

-- the optimum of a junction's program solves it
pub solved_at : (net : Network) → IsNetwork net → (h : List ℕ) (j : ℕ) → has (junction_numbers net) j ≡ true → (o : Optimum) → maximised (program net (junction_at net j) (map pos h)) TURN_LIMIT ≡ Optimal o →
    IsSolved net (junction_at net j) (int_entry (map pos h)) o
solved_at net ok h j i o e = let b = in_numbers (length net.junctions) j i in solved_by net (junction_at net j) (map pos h) ok (good_at net net.junctions (j - 1) (omega (arith, b)) ok.stages) TURN_LIMIT o e

swap : (m n : ℕ) (v : ℤ) → pos m *ℤ (pos n *ℤ v) ≡ pos n *ℤ (pos m *ℤ v)
swap m n v = rw (diff_of v, pos_diff m, pos_diff n) (simp differences (diff-eq _ _ _ _ (omega arith)))

mass_numbers : (m n s t z top D : ℕ) (v : ℤ) → 1 ≤ n → 1 ≤ z → t ≤ n * D → top ≤ z → pos m *ℤ v ≡ pos (z * s) → (pos n *ℤ v) ≤ℤ pos (t * top) → s ≤ m * D
mass_numbers m n s t z top D v some zs mass most value dual =
    let a = mul_le_nat m (pos n *ℤ v) (pos (t * top)) dual in
    let b : pos m *ℤ (pos n *ℤ v) ≡ pos (n * (z * s)) = swap m n v ∙ ap (λ x. pos n *ℤ x) value ∙ mul_posℤ n (z * s) in
    let c : n * (z * s) ≤ m * (t * top) = omega (arith, ints, a, b, mul_posℤ m (t * top)) in
    let d : m * (t * top) ≤ m * ((n * D) * z) = mul-le-mul_left m (mul-le-mul mass most) in
    cancel_le (n * z) s (m * D) (mul-le-mul some zs) (omega (arith, c, d))

row_numbers : (w g r b : ℕ) (x : ℤ) → x ≡ pos g → g ≤ r → w * r ≤ b → (pos w *ℤ x) ≤ℤ pos b
row_numbers w g r b x e le row =
    let p : pos w *ℤ x ≡ pos (w * g) = ap (λ t. pos w *ℤ t) e ∙ mul_posℤ w g in
    let q = mul-le-mul_left w le in
    omega (arith, ints, p, q, row)

-- the optimum at rates that are at most those of a certificate needs the whole at most
pub mass_least : (net : Network) (D : ℕ) (h : List ℕ) (p : PlainCert) → Holds net p → p.d ≡ D → ((k : ℕ) → has (movement_numbers net) k ≡ true → entry h k ≤ plain_h p k) →
    (j : ℕ) → has (junction_numbers net) j ≡ true → (o : Optimum) → IsSolved net (junction_at net j) (int_entry (map pos h)) o → sum_by (λ y. y) (plan_of o).parts ≤ (plan_of o).whole * D
mass_least net D h p holds same least j i o solved =
    let b = in_numbers (length net.junctions) j i in
    let junction = junction_at net j in
    let s = served_at net p.d (plain_h p) net.junctions p.mixes (j - 1) holds.served (omega (arith, b)) in
    let Z = values_of (own net junction) o.primal in
    let z = unsigned_abs o.primal_den in
    let rows = each_in (λ k. (pos s.0.whole *ℤ int_entry (map pos h) k) ≤ℤ pos (flow_of net k * plain_parts_with junction.stages s.0.parts k)) (own net junction)
    (λ k mine. row_numbers s.0.whole (entry h k) (plain_h p k) (flow_of net k * plain_parts_with junction.stages s.0.parts k) (int_entry (map pos h) k) (entry_is h k) (least k (filter_sub (stands_in junction) (movement_numbers net) k mine))
    (at_in (λ k. s.0.whole * plain_h p k ≤ flow_of net k * plain_parts_with junction.stages s.0.parts k) k (own net junction) mine s.1.serve)) in
    let dual = weak_duality net junction (int_entry (map pos h)) Z s.0.whole s.0.parts rows in
    mass_numbers (plan_of o).whole s.0.whole (sum_by (λ y. y) (plan_of o).parts) (sum_by (λ y. y) s.0.parts) z (stage_top net Z junction) D (objective net junction (int_entry (map pos h)) Z)
    s.1.whole solved.optimum.some (omega (arith, s.1.mass, ap (λ t. s.0.whole * t) same)) solved.optimum.primal solved.optimum.value dual
