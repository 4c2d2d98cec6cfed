-- One movement alone fills its junction.
use Rattle.std.proofs.Common.{◌≡◌, ◌==◌, ℕ, ◌*◌, ◌≤◌, Bool, true, false, cond, ◌||◌, List, [], ◌∷◌, map, sum_by, pos, unsigned_abs, arith, refl, sym, ◌∙◌, ap, subst, mul-zero, zero-le, eqb-true, eq-eqb, ⊎_elim}
use Rattle.std.specs.List.{list_any}
use Rattle.std.proofs.lemmas.Bool.{or_cases, false≢true}
use Rattle.mp_model.specs.Network.{Network, Junction, flow_of, stands_in, has}
use Rattle.mp_model.specs.Load.{greatest}
use Rattle.mp_laws.proofs.Sums.{sum_by-same, there}
use Rattle.mp_laws.proofs.Distinct.{one_at}
use Rattle.mp_verdict.specs.Worst.{stage_top}
use Rattle.mp_verdict.specs.Game.{alone}
use Rattle.mp_verdict.proofs.Plain.{values_of}
use Rattle.mp_verdict.proofs.Capacity.{GoodStages}

alone_zero : (k m : ℕ) → (k == m) ≡ false → (ks : List ℕ) → values_of ks (alone k ks) m ≡ 0
alone_zero k m h [] = refl
alone_zero k m h (n ∷ ks) = go (alone_zero k m h ks) (n == m) refl (n == k) refl
  where
    go : values_of ks (alone k ks) m ≡ 0 → (b : Bool) → (n == m) ≡ b → (c : Bool) → (n == k) ≡ c → cond b (unsigned_abs (cond c (pos 1) (pos 0))) (values_of ks (alone k ks) m) ≡ 0
    go more true e true f = absurd (false≢true (sym h ∙ eq-eqb k m (sym (eqb-true n k f) ∙ eqb-true n m e)))
    go more true e false f = refl
    go more false e c f = more

alone_one : (k : ℕ) (ks : List ℕ) → has ks k ≡ true → values_of ks (alone k ks) k ≡ 1
alone_one k [] h = absurd (false≢true h)
alone_one k (n ∷ ks) h = go (alone_one k ks) (n == k) refl
  where
    go : (has ks k ≡ true → values_of ks (alone k ks) k ≡ 1) → (b : Bool) → (n == k) ≡ b → cond b (unsigned_abs (cond b (pos 1) (pos 0))) (values_of ks (alone k ks) k) ≡ 1
    go more true e = refl
    go more false e = more (sym (ap (λ b. b || has ks k) e) ∙ h)

-- one at the movement, and 0 elsewhere
pub alone_is : (k : ℕ) (ks : List ℕ) → has ks k ≡ true → (m : ℕ) → values_of ks (alone k ks) m ≡ cond (k == m) 1 0
alone_is k ks h m = go (k == m) refl
  where
    go : (b : Bool) → (k == m) ≡ b → values_of ks (alone k ks) m ≡ cond b 1 0
    go true e = subst (λ n. values_of ks (alone k ks) n ≡ 1) (eqb-true k m e) (alone_one k ks h)
    go false e = alone_zero k m e ks

pub unit_term : (t : ℕ) (b : Bool) → t * cond b 1 0 ≡ cond b t 0
unit_term t true = omega arith
unit_term t false = mul-zero t

module _ (net : Network) (k : ℕ) (Z : ℕ → ℕ) (is : (m : ℕ) → Z m ≡ cond (k == m) 1 0) where
  pub stage_alone : (stage : List ℕ) → sum_by (λ m. flow_of net m * Z m) stage ≡ sum_by (λ m. cond (k == m) (flow_of net m) 0) stage
  stage_alone stage = sum_by-same (λ m. flow_of net m * Z m) (λ m. cond (k == m) (flow_of net m) 0) (λ m. ap (λ n. flow_of net m * n) (is m) ∙ unit_term (flow_of net m) (k == m)) stage

  most : (stages : List (List ℕ)) → GoodStages net stages → greatest (map (sum_by (λ m. flow_of net m * Z m)) stages) ≤ flow_of net k
  most [] good = zero-le
  most (stage ∷ stages) good =
      let a = stage_alone stage in
      let b = one_at k (flow_of net) stage good.0.0 in
      let c = most stages good.1 in
      omega (arith, a, b, c)

  least : (stages : List (List ℕ)) → list_any (λ stage. has stage k) stages ≡ true → flow_of net k ≤ greatest (map (sum_by (λ m. flow_of net m * Z m)) stages)
  least [] h = absurd (false≢true h)
  least (stage ∷ stages) h =
      let a = stage_alone stage in
      ⊎_elim (λ (e : has stage k ≡ true). let b = there (flow_of net) k stage e in omega (arith, a, b))
      (λ (e : list_any (λ stage. has stage k) stages ≡ true). let c = least stages e in omega (arith, c))
      (or_cases (has stage k) (list_any (λ stage. has stage k) stages) h)

  pub top_alone : (j : Junction) → GoodStages net j.stages → stands_in j k ≡ true → stage_top net Z j ≡ flow_of net k
  top_alone j good h = let a = most j.stages good in let b = least j.stages h in omega (arith, a, b)
