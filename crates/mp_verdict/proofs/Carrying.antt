-- What a junction carries at a slack it carries at each lower one.
use Rattle.std.proofs.Common.{◌≡◌, ℕ, ◌+◌, ◌*◌, ◌≤◌, Bool, true, false, cond, List, [], ◌∷◌, length, map, sum_by, ℤ, pos, ◌+ℤ◌, ◌*ℤ◌, ◌≤ℤ◌, arith, refl, sym, ◌∙◌, ap, subst, mul-zero, mul-le-mul, mul-le-mul_left, mul-le-mul_right}
use Rattle.std.proofs.lemmas.Int.{ints}
use Rattle.std.proofs.lemmas.List.Sums.{sum_by-cons}
use Rattle.mp_num.proofs.Ring.{diff_of, differences, diff-eq, pos_diff, mul_assocz}
use Rattle.mp_model.specs.Network.{Network, Junction, movement_numbers, from_of, share_of, flow_of, own, stands_in, has}
use Rattle.mp_laws.proofs.PlainCertificate.{PlainMix, plain_parts_with}
use Rattle.mp_laws.proofs.Lists.{at_in, each_in}
use Rattle.mp_verdict.specs.Worst.{stage_top}
use Rattle.mp_verdict.proofs.Plain.{AreRates, CarriesAt, asked, unit_asked, IsBest, objective}
use Rattle.mp_verdict.proofs.Reduce.{of_filter}
use Rattle.mp_verdict.proofs.Signed.{mul_posℤ, mul_le_nat, ints-scale}
use Rattle.mp_verdict.proofs.Falls.{ints-same_in}
use Rattle.mp_verdict.proofs.Duality.{weak_duality, cancel_le}

-- parts so many times as large
pub parts_scaled : (a : ℕ) (stages : List (List ℕ)) (parts : List ℕ) (k : ℕ) → plain_parts_with stages (map (λ y. a * y) parts) k ≡ a * plain_parts_with stages parts k
parts_scaled a [] parts k = sym (mul-zero a)
parts_scaled a (stage ∷ stages) [] k = sym (mul-zero a)
parts_scaled a (stage ∷ stages) (part ∷ parts) k = head (has stage k) (parts_scaled a stages parts k)
  where
    head : (b : Bool) → plain_parts_with stages (map (λ y. a * y) parts) k ≡ a * plain_parts_with stages parts k → cond b (a * part) 0 + plain_parts_with stages (map (λ y. a * y) parts) k ≡ a * (cond b part 0 + plain_parts_with stages parts k)
    head true e = omega arith
    head false e = omega arith

pub mass_scaled : (a : ℕ) (parts : List ℕ) → sum_by (λ y. y) (map (λ y. a * y) parts) ≡ a * sum_by (λ y. y) parts
mass_scaled a [] = sym (mul-zero a)
mass_scaled a (y ∷ ys) = omega (arith, sum_by-cons (λ y. y) (a * y) (map (λ y. a * y) ys), ap (λ n. a * n) (sum_by-cons (λ y. y) y ys), mass_scaled a ys)

length_scaled : (a : ℕ) (parts : List ℕ) → length (map (λ y. a * y) parts) ≡ length parts
length_scaled a [] = refl
length_scaled a (y ∷ ys) = omega (arith, length_scaled a ys)

-- a row of the dual under another scale
scaled_row : (m a c r : ℕ) (n : ℤ) → (pos m *ℤ n) ≤ℤ pos (c * r) → (pos m *ℤ (pos a *ℤ n)) ≤ℤ pos (c * (a * r))
scaled_row m a c r n le =
    let l = mul_le_nat a (pos m *ℤ n) (pos (c * r)) le in
    let e : pos a *ℤ (pos m *ℤ n) ≡ pos m *ℤ (pos a *ℤ n) = rw (diff_of n, pos_diff a, pos_diff m) (simp differences (diff-eq _ _ _ _ (omega arith))) in
    let t : pos a *ℤ pos (c * r) ≡ pos (a * (c * r)) = mul_posℤ a (c * r) in
    omega (arith, ints, l, e, t)

-- an optimum within the whole shows that the junction carries the rates
pub carries_optimum : (net : Network) (c : ℕ) (f g : ℕ → ℕ) (e : ℤ) (q D : ℕ) (E : ℤ) (h : ℕ → ℤ) (j : Junction) (Z : ℕ → ℕ) (z : ℕ) (plan : PlainMix) → AreRates net c f g e q D E h → IsBest net j h Z z plan →
    sum_by (λ y. y) plan.parts ≤ plan.whole * D → CarriesAt net c f g e q j
carries_optimum net c f g e q D E h j Z z plan r o mass =
    let K = r.factor in
    record {
      plan = record { whole = plan.whole; parts = map (λ y. K * y) plan.parts };
      whole = o.whole;
      lengths = length_scaled K plan.parts ∙ o.lengths;
      mass = omega (arith, mass_scaled K plan.parts, mul-le-mul_left K mass, ap (λ n. plan.whole * n) r.whole);
      serve = each_in (λ k. (pos plan.whole *ℤ asked net c f g e q k) ≤ℤ pos (flow_of net k * plain_parts_with j.stages (map (λ y. K * y) plan.parts) k)) (own net j)
          (λ k i.
          (let row = at_in (λ k. (pos plan.whole *ℤ h k) ≤ℤ pos (flow_of net k * plain_parts_with j.stages plan.parts k)) k (own net j) i o.dual in
          let s = scaled_row plan.whole K (flow_of net k) (plain_parts_with j.stages plan.parts k) (h k) row in
          let n = r.rate k (of_filter (stands_in j) k (movement_numbers net) i) in
          let p = parts_scaled K j.stages plan.parts k in
          omega (arith, ints, s, ap (λ t. pos plan.whole *ℤ t) n, ap (λ t. flow_of net k * t) p)));
    }

-- a lower slack asks for less
lower_need : (a u q q' : ℕ) (e e' : ℤ) → (e' *ℤ pos q) ≤ℤ (e *ℤ pos q') → (pos q *ℤ (pos (a * q') +ℤ (e' *ℤ pos u))) ≤ℤ (pos q' *ℤ (pos (a * q) +ℤ (e *ℤ pos u)))
lower_need a u q q' e e' le =
    let l = mul_le_nat u (e' *ℤ pos q) (e *ℤ pos q') le in
    let x : pos q *ℤ (pos (a * q') +ℤ (e' *ℤ pos u)) ≡ pos (a * q * q') +ℤ (pos u *ℤ (e' *ℤ pos q)) =
    rw (diff_of e', pos_diff q, pos_diff (a * q'), pos_diff u, pos_diff (a * q * q')) (simp differences (diff-eq _ _ _ _ (omega arith))) in
    let y : pos q' *ℤ (pos (a * q) +ℤ (e *ℤ pos u)) ≡ pos (a * q * q') +ℤ (pos u *ℤ (e *ℤ pos q')) =
    rw (diff_of e, pos_diff q', pos_diff (a * q), pos_diff u, pos_diff (a * q * q')) (simp differences (diff-eq _ _ _ _ (omega arith))) in
    omega (arith, ints, l, x, y)

joined_row : (m q q' c r : ℕ) (n n' : ℤ) → (pos m *ℤ n) ≤ℤ pos (c * r) → (pos q *ℤ n') ≤ℤ (pos q' *ℤ n) → (pos (m * q) *ℤ n') ≤ℤ pos (c * (q' * r))
joined_row m q q' c r n n' le lower =
    let a = scaled_row m q' c r n le in
    let b = mul_le_nat m (pos q *ℤ n') (pos q' *ℤ n) lower in
    let e : pos (m * q) *ℤ n' ≡ pos m *ℤ (pos q *ℤ n') = ap (λ t. t *ℤ n') (sym (mul_posℤ m q)) ∙ mul_assocz (pos m) (pos q) n' in
    omega (arith, ints, a, b, e)

-- what a junction carries it carries at each slack that is not higher
pub carries_lower : (net : Network) (c : ℕ) (f g : ℕ → ℕ) (e : ℤ) (q : ℕ) (e' : ℤ) (q' : ℕ) (j : Junction) → 1 ≤ q → (e' *ℤ pos q) ≤ℤ (e *ℤ pos q') → CarriesAt net c f g e q j → CarriesAt net c f g e' q' j
carries_lower net c f g e q e' q' j some le s =
    let m = s.plan.whole in
    record {
      plan = record { whole = m * q; parts = map (λ y. q' * y) s.plan.parts };
      whole = mul-le-mul s.whole some;
      lengths = length_scaled q' s.plan.parts ∙ s.lengths;
      mass = omega (arith, mass_scaled q' s.plan.parts, mul-le-mul_left q' s.mass);
      serve = each_in (λ k. (pos (m * q) *ℤ asked net c f g e' q' k) ≤ℤ pos (flow_of net k * plain_parts_with j.stages (map (λ y. q' * y) s.plan.parts) k)) (own net j)
          (λ k i.
          (let row = at_in (λ k. (pos m *ℤ asked net c f g e q k) ≤ℤ pos (flow_of net k * plain_parts_with j.stages s.plan.parts k)) k (own net j) i s.serve in
          let low = lower_need (share_of net k * f (from_of net k)) (net.per * unit_asked net c g k) q q' e e' le in
          let both = joined_row m q q' (flow_of net k) (plain_parts_with j.stages s.plan.parts k) (asked net c f g e q k) (asked net c f g e' q' k) row low in
          omega (arith, ints, both, ap (λ t. flow_of net k * t) (parts_scaled q' j.stages s.plan.parts k))));
    }

swap : (m : ℕ) (a v : ℤ) → pos m *ℤ (a *ℤ v) ≡ a *ℤ (pos m *ℤ v)
swap m a v = rw (diff_of a, diff_of v, pos_diff m) (simp differences (diff-eq _ _ _ _ (omega arith)))

scaled_objective : (net : Network) (j : Junction) (K : ℕ) (h : ℕ → ℤ) (Z : ℕ → ℕ) → objective net j (λ k. pos K *ℤ h k) Z ≡ pos K *ℤ objective net j h Z
scaled_objective net j K h Z =
    ints-same_in (λ k. (pos K *ℤ h k) *ℤ pos (Z k)) (λ k. pos K *ℤ (h k *ℤ pos (Z k))) (own net j) (λ k i. mul_assocz (pos K) (h k) (pos (Z k)))
    ∙ ints-scale (pos K) (λ k. h k *ℤ pos (Z k)) (own net j)

mass_numbers : (m m0 s s0 z K D G : ℕ) (v : ℤ) → 1 ≤ m0 → 1 ≤ z → 1 ≤ K → G ≡ K * D → s0 ≤ m0 * G → pos m *ℤ v ≡ pos (z * s) → (pos m0 *ℤ (pos K *ℤ v)) ≤ℤ pos (s0 * z) → s ≤ m * D
mass_numbers m m0 s s0 z K D G v some zs ks g mass value dual =
    let a = mul_le_nat m (pos m0 *ℤ (pos K *ℤ v)) (pos (s0 * z)) dual in
    let b : pos m *ℤ (pos m0 *ℤ (pos K *ℤ v)) ≡ pos (m0 * K) *ℤ (pos m *ℤ v) =
    ap (λ t. pos m *ℤ t) (sym (mul_assocz (pos m0) (pos K) v)) ∙ swap m (pos m0 *ℤ pos K) v ∙ ap (λ t. t *ℤ (pos m *ℤ v)) (mul_posℤ m0 K) in
    let c : pos (m0 * K) *ℤ (pos m *ℤ v) ≡ pos (m0 * K * (z * s)) = ap (λ t. pos (m0 * K) *ℤ t) value ∙ mul_posℤ (m0 * K) (z * s) in
    let d : pos m *ℤ pos (s0 * z) ≡ pos (m * (s0 * z)) = mul_posℤ m (s0 * z) in
    let e : m0 * K * (z * s) ≤ m * (s0 * z) = omega (arith, ints, a, b, c, d) in
    let f : m * (s0 * z) ≤ m * (m0 * G * z) = mul-le-mul_left m (mul-le-mul_right z mass) in
    cancel_le (m0 * K * z) s (m * D) (mul-le-mul (mul-le-mul some ks) zs) (omega (arith, e, f, ap (λ n. m * m0 * z * n) g))

-- so the value of its program there is at most the whole
pub carried_mass : (net : Network) (c : ℕ) (f g : ℕ → ℕ) (e : ℤ) (q D : ℕ) (E : ℤ) (h : ℕ → ℤ) (j : Junction) (Z : ℕ → ℕ) (z : ℕ) (plan : PlainMix) → AreRates net c f g e q D E h → IsBest net j h Z z plan → CarriesAt net c f g e q j →
    sum_by (λ y. y) plan.parts ≤ plan.whole * D
carried_mass net c f g e q D E h j Z z plan r o s =
    let rows = each_in (λ k. (pos s.plan.whole *ℤ (pos r.factor *ℤ h k)) ≤ℤ pos (flow_of net k * plain_parts_with j.stages s.plan.parts k)) (own net j)
    (λ k i. subst (λ (t : ℤ). (pos s.plan.whole *ℤ t) ≤ℤ pos (flow_of net k * plain_parts_with j.stages s.plan.parts k)) (r.rate k (of_filter (stands_in j) k (movement_numbers net) i))
    (at_in (λ k. (pos s.plan.whole *ℤ asked net c f g e q k) ≤ℤ pos (flow_of net k * plain_parts_with j.stages s.plan.parts k)) k (own net j) i s.serve)) in
    let dual = weak_duality net j (λ k. pos r.factor *ℤ h k) Z s.plan.whole s.plan.parts rows in
    let obj : objective net j (λ k. pos r.factor *ℤ h k) Z ≡ pos r.factor *ℤ objective net j h Z = scaled_objective net j r.factor h Z in
    let most : sum_by (λ y. y) s.plan.parts * stage_top net Z j ≤ sum_by (λ y. y) s.plan.parts * z = mul-le-mul_left (sum_by (λ y. y) s.plan.parts) o.primal in
    mass_numbers plan.whole s.plan.whole (sum_by (λ y. y) plan.parts) (sum_by (λ y. y) s.plan.parts) z r.factor D (net.shares * net.per * c * q) (objective net j h Z) s.whole o.some r.some r.whole s.mass o.value
    (omega (arith, ints, dual, ap (λ t. pos s.plan.whole *ℤ t) obj, most))
