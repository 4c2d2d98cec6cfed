-- A turn of the game lowers the slack and leaves a worst junction.
use Rattle.std.proofs.Common.{◌≡◌, ◌==◌, ℕ, zero, suc, ◌+◌, ◌-◌, ◌*◌, ◌≤◌, ◌<◌, Bool, true, false, cond, List, [], ◌∷◌, length, get_or, sum_by, ℤ, pos, ◌+ℤ◌, ◌*ℤ◌, ◌<ℤ◌, arith, refl, sym, ◌∙◌, ap, ap₂, subst, mul-zero, mul-le-mul_left, mul-le-mul_right, ⊎_elim}
use Rattle.std.specs.List.{AllByRecursion, IsDistinct}
use Rattle.std.proofs.lemmas.Int.{ints, by_lt_z}
use Rattle.std.proofs.lemmas.Bool.{cases_lt}
use borrow.Author.Differences.{up, down}
use Rattle.mp_num.proofs.Ring.{diff, diff_of, differences, diff-eq, mul_assocz}
use Rattle.mp_model.specs.Sums.{int_sum_by}
use Rattle.mp_model.specs.Network.{Network, Junction, movement_numbers, from_of, share_of, own, stands_in, has, no_junction, junction_at}
use Rattle.mp_model.specs.NetworkRules.{IsNetwork}
use Rattle.mp_laws.proofs.PlainCertificate.{PlainMix}
use Rattle.mp_laws.proofs.Sums.{sum_by-filter, sum_by-mul, sum_by-same, same_from_sums}
use Rattle.mp_laws.proofs.Lists.{at_in, each_in}
use Rattle.mp_verdict.specs.Worst.{IsFlow, rate_weight, unit_weight, stage_top, IsSlackOf, IsWorst}
use Rattle.mp_verdict.proofs.Plain.{AreRates, unit_asked, IsBest, objective}
use Rattle.mp_verdict.proofs.Facts.{sum_by-same_in}
use Rattle.mp_verdict.proofs.Capacity.{zero_top, GoodStages}
use Rattle.mp_verdict.proofs.Vector.{slack_numbers, right_is}
use Rattle.mp_verdict.proofs.Reduce.{of_filter}
use Rattle.mp_verdict.proofs.Signed.{ints-same_at, ints-scale, ints-plus, ints-pos, mul_posℤ, mul_le_nat}
use Rattle.mp_verdict.proofs.Duality.{full_stage}

pub ints-same_in : (f g : ℕ → ℤ) (xs : List ℕ) → ((x : ℕ) → has xs x ≡ true → f x ≡ g x) → int_sum_by f xs ≡ int_sum_by g xs
ints-same_in f g xs h = ints-same_at f g xs (each_in (λ x. f x ≡ g x) xs h)

-- a sum of what is 0 outside the junction
own_term : (b : Bool) (n : ℕ) → (b ≡ false → n ≡ 0) → cond b n 0 ≡ n
own_term true n h = refl
own_term false n h = sym (h refl)

pub own_sum : (net : Network) (j : Junction) (F : ℕ → ℕ) → ((k : ℕ) → has (movement_numbers net) k ≡ true → stands_in j k ≡ false → F k ≡ 0) → sum_by F (own net j) ≡ sum_by F (movement_numbers net)
own_sum net j F h = sum_by-filter (stands_in j) F (movement_numbers net) ∙ sum_by-same_in (λ k. cond (stands_in j k) (F k) 0) F (movement_numbers net) (λ k m. own_term (stands_in j k) (F k) (h k m))

spread : (a u z e : ℤ) → (a +ℤ (e *ℤ u)) *ℤ z ≡ a *ℤ z +ℤ (e *ℤ (u *ℤ z))
spread a u z e = rw (diff_of a, diff_of u, diff_of z, diff_of e) (simp differences (diff-eq _ _ _ _ (omega arith)))

need_term : (a u z K : ℕ) (e h : ℤ) → pos a +ℤ (e *ℤ pos u) ≡ pos K *ℤ h → pos K *ℤ (h *ℤ pos z) ≡ pos (a * z) +ℤ (e *ℤ pos (u * z))
need_term a u z K e h eq =
    sym (mul_assocz (pos K) h (pos z)) ∙ ap (λ t. t *ℤ pos z) (sym eq) ∙ spread (pos a) (pos u) (pos z) e ∙ ap₂ (λ s t. s +ℤ (e *ℤ t)) (mul_posℤ a z) (mul_posℤ u z)

-- what Z weighs the rates at a slack
pub objective_is : (net : Network) (c : ℕ) (f g : ℕ → ℕ) (e : ℤ) (q D : ℕ) (E : ℤ) (h : ℕ → ℤ) (j : Junction) (Z : ℕ → ℕ) → (r : AreRates net c f g e q D E h) → ((k : ℕ) → has (movement_numbers net) k ≡ true → stands_in j k ≡ false → Z k ≡ 0) →
    pos r.factor *ℤ objective net j h Z ≡ pos (q * rate_weight net f Z) +ℤ (e *ℤ pos (net.per * unit_weight net c g Z))
objective_is net c f g e q D E h j Z r outside =
    let ks = own net j in
    let a : ℕ → ℕ = λ k. share_of net k * f (from_of net k) * q in
    let u : ℕ → ℕ = λ k. net.per * unit_asked net c g k in
    let scaled = sym (ints-scale (pos r.factor) (λ k. h k *ℤ pos (Z k)) ks) in
    let terms = ints-same_in (λ k. pos r.factor *ℤ (h k *ℤ pos (Z k))) (λ k. pos (a k * Z k) +ℤ (e *ℤ pos (u k * Z k))) ks (λ k i. need_term (a k) (u k) (Z k) r.factor e (h k) (r.rate k (of_filter (stands_in j) k (movement_numbers net) i))) in
    let split = ints-plus (λ k. pos (a k * Z k)) (λ k. e *ℤ pos (u k * Z k)) ks in
    let left = ints-pos (λ k. a k * Z k) ks in
    let right = ints-scale e (λ k. pos (u k * Z k)) ks ∙ ap (λ t. e *ℤ t) (ints-pos (λ k. u k * Z k) ks) in
    let rates : sum_by (λ k. a k * Z k) ks ≡ q * rate_weight net f Z =
    own_sum net j (λ k. a k * Z k) (λ k m o. ap (λ n. a k * n) (outside k m o) ∙ mul-zero (a k))
    ∙ sum_by-same (λ k. a k * Z k) (λ k. q * (share_of net k * f (from_of net k) * Z k)) (λ k. omega arith) (movement_numbers net)
    ∙ sum_by-mul q (λ k. share_of net k * f (from_of net k) * Z k) (movement_numbers net) in
    let units : sum_by (λ k. u k * Z k) ks ≡ net.per * unit_weight net c g Z =
    own_sum net j (λ k. u k * Z k) (λ k m o. ap (λ n. u k * n) (outside k m o) ∙ mul-zero (u k))
    ∙ sum_by-same (λ k. u k * Z k) (λ k. net.per * (unit_asked net c g k * Z k)) (λ k. omega arith) (movement_numbers net)
    ∙ sum_by-mul net.per (λ k. unit_asked net c g k * Z k) (movement_numbers net) in
    scaled ∙ terms ∙ split ∙ ap₂ (λ s t. s +ℤ t) (left ∙ ap pos rates) (right ∙ ap (λ n. e *ℤ pos n) units)

-- a value above the whole is above it without its denominator
above_numbers : (m z s D : ℕ) (v : ℤ) → 1 ≤ z → m * D < s → pos m *ℤ v ≡ pos (z * s) → pos (z * D) <ℤ v
above_numbers m z s D v some over e =
    by_lt_z (pos (z * D)) v (λ l. l) (λ l.
    let a = mul_le_nat m v (pos (z * D)) l in
    let b : pos m *ℤ pos (z * D) ≡ pos (m * (z * D)) = mul_posℤ m (z * D) in
    let c : z * (m * D + 1) ≤ z * s = mul-le-mul_left z (let t : m * D + 1 ≤ s = omega arith in t) in
    absurd (omega (arith, ints, a, b, c, e)))

scaled_above : (K n : ℕ) (v : ℤ) → 1 ≤ K → pos n <ℤ v → pos (K * n) <ℤ (pos K *ℤ v)
scaled_above K n v some l =
    let a = mul_le_nat K (pos (n + 1)) v (omega (arith, ints)) in
    let b = mul_posℤ K (n + 1) in
    omega (arith, ints, a, b)

fall_numbers : (q q' Y R T a b a' b' : ℕ) → 1 ≤ q' → q' * Y + b' * T ≡ a' * T + q' * R → q * Y + b * T < q * R + a * T → a' * q + b * q' < a * q' + b' * q
fall_numbers q q' Y R T a b a' b' some e l =
    ⊎_elim (λ (h : a' * q + b * q' < a * q' + b' * q). h)
    (λ (h : a * q' + b' * q ≤ a' * q + b * q').
    let s : q' * (q * Y + b * T + 1) ≤ q' * (q * R + a * T) = mul-le-mul_left q' (let t : q * Y + b * T + 1 ≤ q * R + a * T = omega arith in t) in
    absurd (omega (arith, s, mul-le-mul_right T h, ap (λ n. q * n) e)))
    (cases_lt (a' * q + b * q') (a * q' + b' * q))

-- e over q is above e' over q'
abbrev pub IsAbove : ℤ → ℕ → ℤ → ℕ → Type 0
IsAbove e q e' q' = (e' *ℤ pos q) <ℤ (e *ℤ pos q')

above_from : (e e' : ℤ) (q q' : ℕ) → up e' * q + down e * q' < up e * q' + down e' * q → IsAbove e q e' q'
unfolding diff
above_from e e' q q' l = omega (arith, ints, right_is e' q, right_is e q', l)

above_value : (e : ℤ) (q Y R T : ℕ) (v : ℤ) → v ≡ pos (q * R) +ℤ (e *ℤ pos T) → pos (q * Y) <ℤ v → q * Y + down e * T < q * R + up e * T
unfolding diff
above_value e q Y R T v h l = omega (arith, ints, right_is e T, h, l)

zero_terms : (Z : ℕ → ℕ) (xs : List ℕ) → sum_by Z xs ≤ 0 → AllByRecursion (λ k. 0 ≡ Z k) xs
zero_terms Z xs h = same_from_sums (λ k. 0) Z xs (each_in (λ k. 0 ≤ Z k) xs (λ k i. omega arith)) (omega arith)

-- values with a full stage are not all 0
pub some_values : (net : Network) → IsNetwork net → (place z : ℕ) (Z : ℕ → ℕ) → 1 ≤ z → stage_top net Z (junction_at net place) ≡ z →
    AllByRecursion (λ stage. IsDistinct ◌==◌ stage × AllByRecursion (λ k. has (movement_numbers net) k ≡ true) stage) (junction_at net place).stages → 1 ≤ sum_by Z (movement_numbers net)
some_values net ok place z Z some top good =
    ⊎_elim (λ (h : 0 < sum_by Z (movement_numbers net)). h)
    (λ (h : sum_by Z (movement_numbers net) ≤ 0).
    let none = zero_top net Z (junction_at net place).stages good (λ k m i. sym (at_in (λ k. 0 ≡ Z k) k (movement_numbers net) m (zero_terms Z (movement_numbers net) h))) in
    absurd (omega (arith, none, top)))
    (cases_lt 0 (sum_by Z (movement_numbers net)))

pub good_at : (net : Network) (js : List Junction) (n : ℕ) → n < length js → AllByRecursion (λ j. GoodStages net j.stages) js → GoodStages net (get_or js n no_junction).stages
good_at net [] n l h = absurd (omega arith)
good_at net (j ∷ js) zero l h = h.0
good_at net (j ∷ js) (suc n) l h = good_at net js n (omega arith) h.1

-- a turn: the optimum's primal is the new worst, and the slack that it gives is lower
pub turn : (net : Network) → IsNetwork net → (c : ℕ) (f g : ℕ → ℕ) (e : ℤ) (q D : ℕ) (E : ℤ) (h : ℕ → ℤ) (place : ℕ) (Z : ℕ → ℕ) (z : ℕ) (plan : PlainMix) (e' : ℤ) (q' : ℕ) →
    IsFlow net c f g → AreRates net c f g e q D E h → (1 ≤ place) × (place ≤ length net.junctions) → ((k : ℕ) → has (movement_numbers net) k ≡ true → stands_in (junction_at net place) k ≡ false → Z k ≡ 0) →
    IsBest net (junction_at net place) h Z z plan → plan.whole * D < sum_by (λ x. x) plan.parts → IsSlackOf net c f g Z z e' q' →
    IsWorst net c f g place Z z e' q' × IsAbove e q e' q'
turn net ok c f g e q D E h place Z z plan e' q' flow r is_place outside o over s =
    let j = junction_at net place in
    let top = full_stage net j h Z z plan o (omega (arith, over)) in
    let T = net.per * unit_weight net c g Z in
    let R = rate_weight net f Z in
    let Y = net.shares * net.per * c * z in
    let v = objective net j h Z in
    let obj = objective_is net c f g e q D E h j Z r outside in
    let above = scaled_above r.factor (z * D) v r.some (above_numbers plan.whole z (sum_by (λ x. x) plan.parts) D v o.some over o.value) in
    let whole : r.factor * (z * D) ≡ q * Y = omega (arith, ap (λ n. z * n) r.whole) in
    let lower = above_value e q Y R T (pos r.factor *ℤ v) obj (subst (λ (n : ℕ). pos n <ℤ (pos r.factor *ℤ v)) whole above) in (
      record { is_junction = is_place; outside = outside; top = top; some = some_values net ok place z Z o.some top (good_at net net.junctions (place - 1) (omega (arith, is_place)) ok.stages); slack = s },
      above_from e e' q q' (fall_numbers q q' Y R T (up e) (down e) (up e') (down e') s.some (slack_numbers e' q' Y R T s.equal) lower),
    )
