-- The capacity of the vector: only the worst junction counts.
use Rattle.std.proofs.Common.{◌≡◌, ◌==◌, ℕ, zero, suc, ◌+◌, ◌*◌, ◌≤◌, ◌<◌, max, Bool, true, false, cond, List, [], ◌∷◌, length, get_or, map, sum_by, arith, refl, sym, ◌∙◌, ap, ap₂, mul-zero, mul-le-mul_left, ⊎_elim}
use Rattle.std.specs.List.{AllByRecursion, IsDistinct, list_any}
use Rattle.std.proofs.lemmas.Bool.{cases_lt, or_left, or_right}
use Rattle.std.proofs.lemmas.List.Sums.{sum_by-cons}
use Rattle.mp_model.specs.Network.{Network, Junction, movement_numbers, flow_of, stands_in, has, no_junction}
use Rattle.mp_model.specs.NetworkRules.{IsNetwork}
use Rattle.mp_model.specs.Pressure.{positive_weight, pressure}
use Rattle.mp_model.specs.Load.{greatest, junction_capacity, capacity}
use Rattle.mp_laws.proofs.Sums.{sum_by-mul, sum_by-zero}
use Rattle.mp_laws.proofs.Lists.{at_in}
use Rattle.mp_verdict.specs.Worst.{IsWorth, against, stage_top}
use Rattle.mp_verdict.proofs.Facts.{sum_by-same_in, push_is}

abbrev pub GoodStages : Network → List (List ℕ) → Type 0
GoodStages net stages = AllByRecursion (λ stage. IsDistinct ◌==◌ stage × AllByRecursion (λ k. has (movement_numbers net) k ≡ true) stage) stages

max-scale : (a x y : ℕ) → max (a * x) (a * y) ≡ a * max x y
max-scale a x y = ⊎_elim
    (λ (h : x < y). let m : max x y ≡ y = omega arith in omega (arith, mul-le-mul_left a (let l : x ≤ y = omega arith in l), ap (λ n. a * n) m))
    (λ (h : y ≤ x). let m : max x y ≡ x = omega arith in omega (arith, mul-le-mul_left a h, ap (λ n. a * n) m)) (cases_lt x y)

-- stages whose sums are so many times others have so many times the greatest
pub scaled_top : (net : Network) (a : ℕ) (s t : List ℕ → ℕ) (stages : List (List ℕ)) → GoodStages net stages → ((stage : List ℕ) → AllByRecursion (λ k. has (movement_numbers net) k ≡ true) stage → s stage ≡ a * t stage) → greatest (map s stages) ≡ a * greatest (map t stages)
scaled_top net a s t [] good h = sym (mul-zero a)
scaled_top net a s t (stage ∷ stages) good h = ap₂ (λ m n. max m n) (h stage good.0.1) (scaled_top net a s t stages good.1 h) ∙ max-scale a (t stage) (greatest (map t stages))

pub zero_top : (net : Network) (Z : ℕ → ℕ) (stages : List (List ℕ)) → GoodStages net stages → ((k : ℕ) → has (movement_numbers net) k ≡ true → list_any (λ stage. has stage k) stages ≡ true → Z k ≡ 0) → greatest (map (sum_by (λ k. flow_of net k * Z k)) stages) ≡ 0
zero_top net Z [] good h = refl
zero_top net Z (stage ∷ stages) good h =
    let here : sum_by (λ k. flow_of net k * Z k) stage ≡ 0 =
    sum_by-same_in (λ k. flow_of net k * Z k) (λ k. 0) stage (λ k i. ap (λ n. flow_of net k * n) (h k (at_in (λ k. has (movement_numbers net) k ≡ true) k stage i good.0.1) (or_left (has stage k) (list_any (λ stage. has stage k) stages) i)) ∙ mul-zero (flow_of net k)) ∙ sum_by-zero stage in
    let rest = zero_top net Z stages good.1 (λ k m i. h k m (or_right (has stage k) (list_any (λ stage. has stage k) stages) i)) in
    ap₂ (λ m n. max m n) here rest

abbrev stands : Junction → ℕ → ℕ
stands j k = cond (stands_in j k) 1 0

one_stands : (j : Junction) (k : ℕ) → stands_in j k ≡ true → stands j k ≡ 1
one_stands j k e = ap {B = ℕ} (λ b. cond b 1 0) e

zero_tops : (net : Network) (Z : ℕ → ℕ) (js : List Junction) → AllByRecursion (λ j. GoodStages net j.stages) js → ((k : ℕ) → has (movement_numbers net) k ≡ true → 1 ≤ sum_by (λ j. stands j k) js → Z k ≡ 0) → sum_by (stage_top net Z) js ≡ 0
zero_tops net Z [] good h = refl
zero_tops net Z (j ∷ js) good h =
    let here = zero_top net Z j.stages good.0 (λ k m i. h k m (omega (arith, one_stands j k i, sum_by-cons (λ j. stands j k) j js))) in
    let rest = zero_tops net Z js good.1 (λ k m l. h k m (omega (arith, sum_by-cons (λ j. stands j k) j js))) in
    omega (arith, here, rest, sum_by-cons (stage_top net Z) j js)

stands_at : (js : List Junction) (n k : ℕ) → n < length js → stands (get_or js n no_junction) k ≤ sum_by (λ j. stands j k) js
stands_at [] n k l = absurd (omega arith)
stands_at (j ∷ js) zero k l = omega (arith, sum_by-cons (λ j. stands j k) j js)
stands_at (j ∷ js) (suc n) k l = omega (arith, sum_by-cons (λ j. stands j k) j js, stands_at js n k (omega arith))

none_stands : (b : Bool) → cond {A = ℕ} b 1 0 ≤ 0 → b ≡ false
none_stands true h = absurd (omega arith)
none_stands false h = refl

-- of the junctions one alone has values that are not 0
one_top : (net : Network) (Z : ℕ → ℕ) (js : List Junction) (n : ℕ) → AllByRecursion (λ j. GoodStages net j.stages) js → ((k : ℕ) → has (movement_numbers net) k ≡ true → sum_by (λ j. stands j k) js ≤ 1) → n < length js → ((k : ℕ) → has (movement_numbers net) k ≡ true → stands_in (get_or js n no_junction) k ≡ false → Z k ≡ 0) →
    sum_by (stage_top net Z) js ≡ stage_top net Z (get_or js n no_junction)
one_top net Z [] n good once l h = absurd (omega arith)
one_top net Z (j ∷ js) zero good once l h =
    let rest = zero_tops net Z js good.1 (λ k m some. h k m (none_stands (stands_in j k) (omega (arith, once k m, sum_by-cons (λ j. stands j k) j js)))) in
    omega (arith, rest, sum_by-cons (stage_top net Z) j js)
one_top net Z (j ∷ js) (suc n) good once l h =
    let here = zero_top net Z j.stages good.0 (λ k m i. h k m (none_stands (stands_in (get_or js n no_junction) k) (omega (arith, once k m, one_stands j k i, sum_by-cons (λ j. stands j k) j js, stands_at js n k (omega arith))))) in
    let rest = one_top net Z js n good.1 (λ k m. omega (arith, once k m, sum_by-cons (λ j. stands j k) j js)) (omega arith) h in
    omega (arith, here, rest, sum_by-cons (stage_top net Z) j js)

stage_term : (c W d z : ℕ) → c * (W * d * z) ≡ W * d * (c * z)
stage_term c W d z = omega arith

module _ (net : Network) (ok : IsNetwork net) (d : ℕ) (Z x : ℕ → ℕ) (worth : IsWorth net d Z x) where
  stage_is : (stage : List ℕ) → AllByRecursion (λ k. has (movement_numbers net) k ≡ true) stage → pressure net (against net d Z x) stage ≡ net.shares * d * sum_by (λ k. flow_of net k * Z k) stage
  stage_is stage all =
      sum_by-same_in (λ k. flow_of net k * positive_weight net (against net d Z x) k) (λ k. net.shares * d * (flow_of net k * Z k)) stage
      (λ k i. ap (λ n. flow_of net k * n) (push_is net ok d Z x worth k (at_in (λ k. has (movement_numbers net) k ≡ true) k stage i all)) ∙ stage_term (flow_of net k) net.shares d (Z k))
      ∙ sum_by-mul (net.shares * d) (λ k. flow_of net k * Z k) stage

  caps : (js : List Junction) → AllByRecursion (λ j. GoodStages net j.stages) js → sum_by (junction_capacity net (against net d Z x)) js ≡ net.shares * d * sum_by (stage_top net Z) js
  caps [] good = sym (mul-zero (net.shares * d))
  caps (j ∷ js) good =
      let here : junction_capacity net (against net d Z x) j ≡ net.shares * d * stage_top net Z j = scaled_top net (net.shares * d) (pressure net (against net d Z x)) (sum_by (λ k. flow_of net k * Z k)) j.stages good.0 stage_is in
      let a : sum_by (stage_top net Z) (j ∷ js) ≡ stage_top net Z j + sum_by (stage_top net Z) js = sum_by-cons (stage_top net Z) j js in
      omega (arith, here, caps js good.1, sum_by-cons (junction_capacity net (against net d Z x)) j js, ap (λ n. net.shares * d * n) a)

  -- the capacity, where only the junction at a place has values that are not 0
  pub fact5 : (n : ℕ) → n < length net.junctions → ((k : ℕ) → has (movement_numbers net) k ≡ true → stands_in (get_or net.junctions n no_junction) k ≡ false → Z k ≡ 0) → capacity net (against net d Z x) ≡ net.shares * d * stage_top net Z (get_or net.junctions n no_junction)
  fact5 n l h =
      caps net.junctions ok.stages
      ∙ ap (λ m. net.shares * d * m) (one_top net Z net.junctions n ok.stages (λ k m. let e = at_in (λ k. sum_by (λ j. cond (stands_in j k) 1 0) net.junctions ≡ 1) k (movement_numbers net) m ok.placed in omega (arith, e)) l h)
