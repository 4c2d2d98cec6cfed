-- Sums over the stages that the junctions show.
use Rattle.std.proofs.Common.{◌≡◌, ◌==◌, ℕ, ◌+◌, ◌-◌, ◌≤◌, ◌<◌, min, Bool, true, false, cond, ◌&&◌, ◌||◌, nat_lt, List, [], ◌∷◌, length, get_or, drop, map, sum_by, zip, arith, refl, sym, ◌∙◌, ap, ap₂, subst, eqb-true, add-one, drop-cons, slice_index_or}
use Rattle.std.specs.List.{AllByRecursion, IsDistinct, list_any}
use Rattle.std.proofs.lemmas.List.Sums.{sum_by-cons}
use Rattle.mp_model.specs.Network.{Network, Junction, movement_numbers, flow_of, goes_out, has, stands_in, no_junction, stage_at, entry}
use Rattle.mp_model.specs.NetworkRules.{IsNetwork, HasStages}
use Rattle.mp_model.specs.Pressure.{positive_weight}
use Rattle.mp_model.specs.Step.{has_green, passed, departing_by}
use Rattle.mp_laws.proofs.Distinct.{IsAbsent, range_distinct}
use Rattle.mp_laws.proofs.Lists.{AllOf-map, at_index, each_in, eqb-flip}
use Rattle.mp_laws.proofs.Serve.{stage_in}
use Rattle.mp_laws.proofs.Sums.{sum_by-same_at, sum_by-add, sum_by-swap, sum_by-zero}
use Rattle.mp_step.specs.Standing.{served}
use Rattle.mp_step.proofs.Conserving.{exact_at}
use Rattle.mp_step.proofs.SamePasses.{left_same}
use Rattle.mp_step.proofs.Stages.{drop_junction}

-- a list without repeats picks each of its numbers once
absent_has : (x : ℕ) (xs : List ℕ) → IsAbsent x xs → has xs x ≡ false
absent_has x [] h = refl
absent_has x (y ∷ ys) h = ap₂ ◌||◌ (eqb-flip x y false h.0) (absent_has x ys h.1)

one_test : (x k : ℕ) (xs : List ℕ) (v : ℕ) → IsAbsent x xs → (b : Bool) → (x == k) ≡ b → cond b v 0 + cond (has xs k) v 0 ≡ cond (b || has xs k) v 0
one_test x k xs v h true e = let a : has xs k ≡ false = subst (λ j. has xs j ≡ false) (eqb-true x k e) (absent_has x xs h) in omega (arith, ap {B = ℕ} (λ (b : Bool). cond {A = ℕ} b v 0) a)
one_test x k xs v h false e = omega arith

stage_is : (g : ℕ → ℕ) (ks stage : List ℕ) → IsDistinct ◌==◌ ks → IsDistinct ◌==◌ stage → AllByRecursion (λ k. has ks k ≡ true) stage → sum_by g stage ≡ sum_by (λ k. cond (has stage k) (g k) 0) ks
unfolding IsDistinct
stage_is g ks [] d e h = sym (sum_by-zero ks)
stage_is g ks (x ∷ xs) d e h = omega (
  arith,
  sum_by-cons g x xs,
  exact_at x g ks d h.0,
  stage_is g ks xs d e.1 h.1,
  sum_by-add (λ k. cond (x == k) (g k) 0) (λ k. cond (has xs k) (g k) 0) ks,
  sum_by-same_at (λ k. cond (x == k) (g k) 0 + cond (has xs k) (g k) 0) (λ k. cond (has (x ∷ xs) k) (g k) 0) ks (each_in _ ks (λ k t. one_test x k xs (g k) e.0 (x == k) refl)),
)

-- a movement that stands in none of the junctions stands in none of their stages
none_stands : (k v : ℕ) (js : List Junction) (ss : List ℕ) → sum_by (λ j. cond (stands_in j k) 1 0) js ≡ 0 → sum_by (λ p. cond (has (stage_at p.0 p.1) k) v 0) (zip js ss) ≡ 0
none_stands k v [] ss h = refl
none_stands k v (j ∷ js) [] h = refl
none_stands k v (j ∷ js) (s ∷ ss) h = at (none_stands k v js ss) (has (stage_at j s) k) refl
  where
    at : (sum_by (λ j. cond (stands_in j k) 1 0) js ≡ 0 → sum_by (λ p. cond (has (stage_at p.0 p.1) k) v 0) (zip js ss) ≡ 0) → (b : Bool) → has (stage_at j s) k ≡ b → sum_by (λ p. cond (has (stage_at p.0 p.1) k) v 0) (zip (j ∷ js) (s ∷ ss)) ≡ 0
    at more true e = let one : cond {A = ℕ} (stands_in j k) 1 0 ≡ 1 = ap {B = ℕ} (λ b. cond b 1 0) (stage_in k j.stages (s - 1) e) in absurd (omega (arith, sum_by-cons (λ j. cond (stands_in j k) 1 0) j js))
    at more false e = let z : cond (has (stage_at j s) k) v 0 ≡ 0 = ap (λ b. cond b v 0) e in
        omega (arith, sum_by-cons (λ p. cond (has (stage_at p.0 p.1) k) v 0) (j, s) (zip js ss), more (omega (arith, sum_by-cons (λ j. cond (stands_in j k) 1 0) j js)))

-- a movement of one junction stands in at most one of the stages
once : (k v : ℕ) (js : List Junction) (ss : List ℕ) → sum_by (λ j. cond (stands_in j k) 1 0) js ≤ 1 →
    sum_by (λ p. cond (has (stage_at p.0 p.1) k) v 0) (zip js ss) ≡ cond (list_any (λ p. has (stage_at p.0 p.1) k) (zip js ss)) v 0
once k v [] ss h = refl
once k v (j ∷ js) [] h = refl
once k v (j ∷ js) (s ∷ ss) h = at (once k v js ss) (has (stage_at j s) k) refl
  where
    at : (sum_by (λ j. cond (stands_in j k) 1 0) js ≤ 1 → sum_by (λ p. cond (has (stage_at p.0 p.1) k) v 0) (zip js ss) ≡ cond (list_any (λ p. has (stage_at p.0 p.1) k) (zip js ss)) v 0) → (b : Bool) → has (stage_at j s) k ≡ b → sum_by (λ p. cond (has (stage_at p.0 p.1) k) v 0) (zip (j ∷ js) (s ∷ ss)) ≡ cond (has (stage_at j s) k || list_any (λ p. has (stage_at p.0 p.1) k) (zip js ss)) v 0
    at more true e =
        let one : cond {A = ℕ} (stands_in j k) 1 0 ≡ 1 = ap {B = ℕ} (λ b. cond b 1 0) (stage_in k j.stages (s - 1) e) in
        let z = none_stands k v js ss (omega (arith, sum_by-cons (λ j. cond (stands_in j k) 1 0) j js)) in
        let a : cond (has (stage_at j s) k) v 0 ≡ v = ap (λ b. cond b v 0) e in
        let b : cond (has (stage_at j s) k || list_any (λ p. has (stage_at p.0 p.1) k) (zip js ss)) v 0 ≡ v = ap (λ b. cond (b || list_any (λ p. has (stage_at p.0 p.1) k) (zip js ss)) v 0) e in
        omega (arith, sum_by-cons (λ p. cond (has (stage_at p.0 p.1) k) v 0) (j, s) (zip js ss))
    at more false e =
        let a : cond (has (stage_at j s) k) v 0 ≡ 0 = ap (λ b. cond b v 0) e in
        let b : cond (has (stage_at j s) k || list_any (λ p. has (stage_at p.0 p.1) k) (zip js ss)) v 0 ≡ cond (list_any (λ p. has (stage_at p.0 p.1) k) (zip js ss)) v 0 = ap (λ b. cond (b || list_any (λ p. has (stage_at p.0 p.1) k) (zip js ss)) v 0) e in
        omega (arith, sum_by-cons (λ p. cond (has (stage_at p.0 p.1) k) v 0) (j, s) (zip js ss), more (omega (arith, sum_by-cons (λ j. cond (stands_in j k) 1 0) j js)))

-- this is a sum over the movements of the stages that the junctions show
abbrev pub over_stages : (ℕ → ℕ) → List Junction → List ℕ → ℕ
over_stages g js ss = sum_by (λ p. sum_by g (stage_at p.0 p.1)) (zip js ss)

chosen_is : (net : Network) (g : ℕ → ℕ) (js : List Junction) (ss : List ℕ) → AllByRecursion (HasStages net) js → over_stages g js ss ≡ sum_by (λ p. sum_by (λ k. cond (has (stage_at p.0 p.1) k) (g k) 0) (movement_numbers net)) (zip js ss)
unfolding IsDistinct
chosen_is net g [] ss h = refl
chosen_is net g (j ∷ js) [] h = refl
chosen_is net g (j ∷ js) (s ∷ ss) h =
    let ok = at_index (λ stage. IsDistinct ◌==◌ stage × AllByRecursion (λ k. has (movement_numbers net) k ≡ true) stage) [] j.stages (s - 1) h.0 (tt, tt) in
    omega (
      arith,
      sum_by-cons (λ p. sum_by g (stage_at p.0 p.1)) (j, s) (zip js ss),
      sum_by-cons (λ p. sum_by (λ k. cond (has (stage_at p.0 p.1) k) (g k) 0) (movement_numbers net)) (j, s) (zip js ss),
      stage_is g (movement_numbers net) (stage_at j s) (range_distinct 1 (length net.movements)) ok.0 ok.1,
      chosen_is net g js ss h.1,
    )

-- it is the one over the movements that have green
greens_are : (net : Network) → IsNetwork net → (g : ℕ → ℕ) (stages : List ℕ) → over_stages g net.junctions stages ≡ sum_by (λ k. cond (has_green net stages k) (g k) 0) (movement_numbers net)
greens_are net ok g stages =
    chosen_is net g net.junctions stages ok.stages
    ∙ sum_by-swap (λ (p : Junction × ℕ) k. cond (has (stage_at p.0 p.1) k) (g k) 0) (zip net.junctions stages) (movement_numbers net)
    ∙ sum_by-same_at (λ k. sum_by (λ p. cond (has (stage_at p.0 p.1) k) (g k) 0) (zip net.junctions stages)) (λ k. cond (has_green net stages k) (g k) 0) (movement_numbers net)
    (AllOf-map (λ k. sum_by (λ j. cond (stands_in j k) 1 0) net.junctions ≡ 1) (λ k. sum_by (λ p. cond (has (stage_at p.0 p.1) k) (g k) 0) (zip net.junctions stages) ≡ cond (has_green net stages k) (g k) 0)
    (λ k e. once k (g k) net.junctions stages (omega arith)) (movement_numbers net) ok.placed)

-- this is what movement k, where it has green, takes out of the network
abbrev pub leaves : Network → (ℕ → ℕ) → ℕ → ℕ
leaves net q k = cond (goes_out net k) (served net q k) 0

either_way : (green out heavy : Bool) (m : ℕ) → cond green (cond out (cond heavy m 0) 0) 0 ≡ cond out (cond (green && heavy) m 0) 0
either_way true out heavy m = refl
either_way false true heavy m = refl
either_way false false heavy m = refl

pub left_is : (net : Network) → IsNetwork net → (q : ℕ → ℕ) (stages p : List ℕ) → p ≡ map (passed net stages q) (movement_numbers net) → over_stages (leaves net q) net.junctions stages ≡ departing_by net (entry p)
left_is net ok q stages p e =
    greens_are net ok (leaves net q) stages
    ∙ sum_by-same_at (λ k. cond (has_green net stages k) (leaves net q k) 0) (λ k. cond (goes_out net k) (passed net stages q k) 0) (movement_numbers net)
    (each_in _ (movement_numbers net) (λ k h. either_way (has_green net stages k) (goes_out net k) (nat_lt 0 (positive_weight net q k)) (min (flow_of net k) (q k))))
    ∙ left_same net (passed net stages q) p e

-- one stage more
pub over_more : (g : ℕ → ℕ) (js : List Junction) (ss : List ℕ) (i : ℕ) → i < length js → i < length ss →
    over_stages g (drop i js) (drop i ss) ≡ sum_by g (stage_at (slice_index_or js i no_junction) (get_or ss i 0)) + over_stages g (drop (i + 1) js) (drop (i + 1) ss)
over_more g js ss i h k =
    ap₂ (λ js ss. over_stages g js ss) (drop_junction js i h) (drop-cons ss i 0 k ∙ ap (λ t. get_or ss i 0 ∷ drop t ss) (sym (add-one i)))
    ∙ sum_by-cons (λ p. sum_by g (stage_at p.0 p.1)) (slice_index_or js i no_junction, get_or ss i 0) (zip (drop (i + 1) js) (drop (i + 1) ss))
