-- A junction's program is bounded.
use Rattle.std.proofs.Common.{◌≡◌, ◌==◌, ℕ, zero, suc, ◌*◌, ◌≤◌, true, cond, List, [], ◌∷◌, length, map, sum_by, ℤ, pos, ◌*ℤ◌, ◌≤ℤ◌, arith, refl, ◌∙◌, ap, mul-le-mul, ⊎_elim, eqb-true}
use Rattle.std.specs.List.{AllByRecursion, list_any}
use Rattle.std.proofs.lemmas.Int.{ints}
use Rattle.std.proofs.lemmas.Bool.{false≢true, or_cases}
use Rattle.std.proofs.lemmas.List.{length-map}
use Rattle.std.proofs.lemmas.List.Sums.{sum_by-cons}
use Rattle.mp_model.specs.Network.{Network, Junction, movement_numbers, flow_of, own, stands_in, has}
use Rattle.mp_model.specs.NetworkRules.{IsNetwork}
use Rattle.mp_laws.proofs.Lists.{at_in}
use Rattle.mp_laws.proofs.Sums.{sum_by-zero}
use Rattle.mp_verdict.proofs.Plain.{values_of}
use Rattle.mp_verdict.proofs.ListProgram.{dot, IsListRay, junction_lp}
use Rattle.mp_verdict.specs.Program.{stage_row}
use Rattle.mp_verdict.proofs.Capacity.{GoodStages}
use Rattle.mp_verdict.proofs.Falls.{ints-same_in}
use Rattle.mp_verdict.proofs.Reduce.{of_filter}
use Rattle.mp_verdict.proofs.Signed.{ints-pos}
use Rattle.mp_verdict.proofs.Places.{filter_test, own_distinct}
use Rattle.mp_verdict.proofs.LpLemmas.{dot_values, row_is}

within_sum : (f : ℕ → ℕ) (k : ℕ) (ks : List ℕ) → has ks k ≡ true → f k ≤ sum_by f ks
within_sum f k [] h = absurd (false≢true h)
within_sum f k (m ∷ ks) h =
    ⊎_elim (λ (e : (m == k) ≡ true). let same : f m ≡ f k = ap f (eqb-true m k e) in omega (arith, same, sum_by-cons f m ks))
    (λ (e : has ks k ≡ true). omega (arith, within_sum f k ks e, sum_by-cons f m ks))
    (or_cases (m == k) (has ks k) h)

zero_value : (c z : ℕ) → 1 ≤ c → c * z ≤ 0 → z ≡ 0
zero_value c zero h l = refl
zero_value c (suc z) h l = absurd (omega (arith, l, mul-le-mul h (let m : 1 ≤ suc z = omega arith in m)))

times_zero : (h : ℤ) → h *ℤ pos 0 ≡ pos 0
times_zero h = omega (arith, ints)

module _ (net : Network) (ok : IsNetwork net) (flows : AllByRecursion (λ k. 1 ≤ flow_of net k) (movement_numbers net)) (j : Junction) (good : GoodStages net j.stages) where
  stage_zero : (stage : List ℕ) (x : List ℤ) (k : ℕ) → AllByRecursion (λ t. pos 0 ≤ℤ t) x → length x ≡ length (own net j) → dot (stage_row net (own net j) stage) x ≤ℤ pos 0 → has (own net j) k ≡ true → has stage k ≡ true → values_of (own net j) x k ≡ 0
  stage_zero stage x k all l le here holds =
      let Z = values_of (own net j) x in
      let row = row_is net ok j good stage x all l in
      let part = within_sum (λ k. cond (has stage k) (flow_of net k * Z k) 0) k (own net j) here in
      let term : cond (has stage k) (flow_of net k * Z k) 0 ≡ flow_of net k * Z k = ap (λ b. cond b (flow_of net k * Z k) 0) holds in
      zero_value (flow_of net k) (Z k) (at_in (λ k. 1 ≤ flow_of net k) k (movement_numbers net) (of_filter (stands_in j) k (movement_numbers net) here) flows) (omega (arith, ints, row, part, term, le))

  some_stage : (stages : List (List ℕ)) (x : List ℤ) (k : ℕ) → AllByRecursion (λ t. pos 0 ≤ℤ t) x → length x ≡ length (own net j) → AllByRecursion (λ row. dot row x ≤ℤ pos 0) (map (stage_row net (own net j)) stages) → has (own net j) k ≡ true → list_any (λ stage. has stage k) stages ≡ true → values_of (own net j) x k ≡ 0
  some_stage [] x k all l rows here h = absurd (false≢true h)
  some_stage (stage ∷ stages) x k all l rows here h =
      ⊎_elim (λ (e : has stage k ≡ true). stage_zero stage x k all l rows.0 here e) (λ (e : list_any (λ stage. has stage k) stages ≡ true). some_stage stages x k all l rows.1 here e) (or_cases (has stage k) (list_any (λ stage. has stage k) stages) h)

  -- no ray
  pub bounded : (h : ℕ → ℤ) (x : List ℤ) → IsListRay (junction_lp net j h) x → ⊥
  bounded h x r =
      let ks = own net j in
      let l : length x ≡ length ks = r.same_length ∙ length-map ks h in
      let value = dot_values h ks x (own_distinct net j) r.sign l in
      let none = ints-same_in (λ k. h k *ℤ pos (values_of ks x k)) (λ k. pos 0) ks (λ k i. ap (λ n. h k *ℤ pos n) (some_stage j.stages x k r.sign l r.rows i (filter_test (stands_in j) k (movement_numbers net) i)) ∙ times_zero (h k)) in
      let zero' = ints-pos (λ k. 0) ks in
      let grows = r.grows in
      omega (arith, ints, value, none, zero', grows, sum_by-zero ks)
