-- Weak duality at a junction.
use Rattle.std.proofs.Common.{◌≡◌, ℕ, ◌*◌, ◌≤◌, List, length, sum_by, ℤ, pos, ◌*ℤ◌, ◌≤ℤ◌, arith}
use Rattle.std.proofs.Math.Nat.{le_of_mul-le-mul_left}
use Rattle.std.specs.List.{AllByRecursion}
use Rattle.std.proofs.lemmas.Int.{ints}
use Rattle.mp_num.proofs.Ring.{diff_of, differences, diff-eq, pos_diff}
use Rattle.mp_model.specs.Network.{Network, Junction, movement_numbers, flow_of, own, stands_in}
use Rattle.mp_laws.proofs.PlainCertificate.{PlainMix, plain_parts_with}
use Rattle.mp_verdict.proofs.Combined.{combined_le}
use Rattle.mp_laws.proofs.Lists.{AllOf-map}
use Rattle.mp_laws.proofs.Distinct.{range_distinct, distinct_filter}
use Rattle.mp_laws.proofs.Sums.{sum_by-same}
use Rattle.mp_verdict.specs.Worst.{stage_top}
use Rattle.mp_verdict.proofs.Plain.{IsBest, objective}
use Rattle.mp_verdict.proofs.Signed.{ints-le_at, ints-scale, ints-pos, mul_posℤ, mul_le_nat}

commuted : (z m : ℕ) (h : ℤ) → pos z *ℤ (pos m *ℤ h) ≡ pos m *ℤ (h *ℤ pos z)
commuted z m h = rw (diff_of h, pos_diff z, pos_diff m) (simp differences (diff-eq _ _ _ _ (omega arith)))

times_z : (m b z : ℕ) (h : ℤ) → (pos m *ℤ h) ≤ℤ pos b → (pos m *ℤ (h *ℤ pos z)) ≤ℤ pos (b * z)
times_z m b z h le =
    let e : pos z *ℤ (pos m *ℤ h) ≡ pos m *ℤ (h *ℤ pos z) = commuted z m h in
    let f = mul_posℤ z b in
    let l = mul_le_nat z (pos m *ℤ h) (pos b) le in
    omega (arith, ints, e, f, l)

-- a mix that serves what is asked bounds what Z weighs it: by the mass, times the greatest stage of Z
pub weak_duality : (net : Network) (j : Junction) (h : ℕ → ℤ) (Z : ℕ → ℕ) (m : ℕ) (parts : List ℕ) → AllByRecursion (λ k. (pos m *ℤ h k) ≤ℤ pos (flow_of net k * plain_parts_with j.stages parts k)) (own net j) →
    (pos m *ℤ objective net j h Z) ≤ℤ pos (sum_by (λ x. x) parts * stage_top net Z j)
weak_duality net j h Z m parts dual =
    let ks = own net j in
    let b : ℕ → ℕ = λ k. flow_of net k * plain_parts_with j.stages parts k in
    let terms = ints-le_at (λ k. pos m *ℤ (h k *ℤ pos (Z k))) (λ k. pos (b k * Z k)) ks
    (AllOf-map (λ k. (pos m *ℤ h k) ≤ℤ pos (b k)) (λ k. (pos m *ℤ (h k *ℤ pos (Z k))) ≤ℤ pos (b k * Z k)) (λ k le. times_z m (b k) (Z k) (h k) le) ks dual) in
    let scale = ints-scale (pos m) (λ k. h k *ℤ pos (Z k)) ks in
    let naturals = ints-pos (λ k. b k * Z k) ks in
    let order = sum_by-same (λ k. b k * Z k) (λ k. (flow_of net k * Z k) * plain_parts_with j.stages parts k) (λ k. omega arith) ks in
    let mix = combined_le (λ k. flow_of net k * Z k) ks (distinct_filter (stands_in j) (movement_numbers net) (range_distinct 1 (length net.movements))) j.stages parts in
    omega (arith, ints, terms, scale, naturals, order, mix)

pub cancel_le : (a b c : ℕ) → 1 ≤ a → a * b ≤ a * c → b ≤ c
cancel_le a b c h l = le_of_mul-le-mul_left {k = a} l h

-- at an optimum with a value above 0, some stage is full
pub full_stage : (net : Network) (j : Junction) (h : ℕ → ℤ) (Z : ℕ → ℕ) (z : ℕ) (plan : PlainMix) → IsBest net j h Z z plan → 1 ≤ sum_by (λ x. x) plan.parts → stage_top net Z j ≡ z
full_stage net j h Z z plan o some =
    let w = weak_duality net j h Z plan.whole plan.parts o.dual in
    let s = sum_by (λ x. x) plan.parts in
    let le : s * z ≤ s * stage_top net Z j = omega (arith, ints, w, o.value) in
    let most : z ≤ stage_top net Z j = cancel_le s z (stage_top net Z j) some le in
    omega (arith, o.primal, most)
