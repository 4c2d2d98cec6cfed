-- A movement's junction is there, and it is the one of the link that the movement leaves.
use Rattle.std.proofs.Common.{◌≡◌, ◌==◌, ◌≤◌, ◌<◌, ℕ, zero, suc, ◌+◌, ◌-◌, Option, Some, None, IfSome, Bool, true, false, cond, List, [], ◌∷◌, length, filter, get_or, sum_by, arith, refl, sym, subst, eq-eqb}
use Rattle.std.specs.List.{AllByRecursion, IsDistinct}
use Rattle.std.proofs.lemmas.Bool.{false≢true}
use Rattle.std.proofs.lemmas.List.Sums.{sum_by-cons}
use Rattle.mp_model.specs.Network.{Network, Junction, movement_numbers, link_numbers, numbers_to, from_of, out_of, has, stands_in, first_holder, first_junction, junction_of_link, junction_of_movement, to_of, junction_at, stage_at, no_junction}
use Rattle.mp_model.specs.NetworkRules.{IsNetwork, IsTogether, HasStages}
use Rattle.mp_laws.proofs.Lists.{all_in, at_in, at_range, in_numbers, has_filter, filter_sub, at_index}

-- a number up to n is one of the numbers to n, and the other way round
pub in_list : (n k : ℕ) → 1 ≤ k → k ≤ n → has (numbers_to n) k ≡ true
in_list n k l h = at_range (λ k. has (numbers_to n) k ≡ true) 1 n k l (omega arith) (all_in (numbers_to n))

pub in_bounds : (n k : ℕ) → has (numbers_to n) k ≡ true → (1 ≤ k) × (k ≤ n)
in_bounds n k h = let i = in_numbers n k h in (i.0, omega (arith, i.1))

at_place : (P : ℕ → Type 0) (xs : List ℕ) (i : ℕ) → i < length xs → AllByRecursion P xs → P (get_or xs i 0)
at_place P [] i h a = absurd (omega arith)
at_place P (x ∷ xs) zero h a = a.0
at_place P (x ∷ xs) (suc i) h a = at_place P xs i (omega (arith, h)) a.1

none_twice : IsDistinct ◌==◌ []
unfolding IsDistinct
none_twice = tt

-- an element of a part of the numbers to n is one of them
pub kept_known : (p : ℕ → Bool) (n : ℕ) (xs : List ℕ) (i : ℕ) → xs ≡ filter p (numbers_to n) → i < length xs → (1 ≤ get_or xs i 0) × (get_or xs i 0 ≤ n)
kept_known p n xs i e h =
    in_bounds n (get_or xs i 0) (filter_sub p (numbers_to n) (get_or xs i 0) (subst (λ (ks : List ℕ). has ks (get_or xs i 0) ≡ true) e (at_place (λ x. has xs x ≡ true) xs i h (all_in xs))))

holder_there : (i : ℕ) (js : List Junction) (k : ℕ) → 1 ≤ sum_by (λ j. cond (stands_in j k) 1 0) js → (i ≤ first_holder i js k) × (first_holder i js k < i + length js)
holder_there i [] k h = absurd (omega arith)
holder_there i (j ∷ js) k h = go (holder_there (suc i) js k) (stands_in j k) (omega (arith, h, sum_by-cons (λ j. cond {A = ℕ} (stands_in j k) 1 0) j js))
  where
    go : (1 ≤ sum_by (λ j. cond (stands_in j k) 1 0) js → (suc i ≤ first_holder (suc i) js k) × (first_holder (suc i) js k < suc i + length js)) →
        (b : Bool) → 1 ≤ cond {A = ℕ} b 1 0 + sum_by (λ j. cond (stands_in j k) 1 0) js → (i ≤ cond b i (first_holder (suc i) js k)) × (cond b i (first_holder (suc i) js k) < i + length (j ∷ js))
    go more true t = (omega arith, omega arith)
    go more false t = let r = more (omega (arith, t)) in (omega (arith, r.0), omega (arith, r.1))

first_of_list : (net : Network) (k m : ℕ) (ks : List ℕ) → has ks k ≡ true → AllByRecursion (λ i. junction_of_movement net i ≡ m) ks → first_junction net ks ≡ m
first_of_list net k m [] h a = absurd (false≢true h)
first_of_list net k m (x ∷ xs) h a = a.0

module _ (net : Network) (ok : IsNetwork net) (k : ℕ) (low : 1 ≤ k) (high : k ≤ length net.movements) where
  pub from_there : has (link_numbers net) (from_of net k) ≡ true
  from_there = at_in (λ k. has (link_numbers net) (from_of net k) ≡ true) k (movement_numbers net) (in_list (length net.movements) k low high) ok.from

  pub from_known : (1 ≤ from_of net k) × (from_of net k ≤ length net.links)
  from_known = in_bounds (length net.links) (from_of net k) from_there

  pub junction_known : (1 ≤ junction_of_movement net k) × (junction_of_movement net k ≤ length net.junctions)
  junction_known =
      let one : sum_by (λ j. cond (stands_in j k) 1 0) net.junctions ≡ 1 = at_in (λ k. sum_by (λ j. cond (stands_in j k) 1 0) net.junctions ≡ 1) k (movement_numbers net) (in_list (length net.movements) k low high) ok.placed in
      let there = holder_there 1 net.junctions k (omega (arith, one)) in
      (there.0, omega (arith, there.1))

  pub junction_same : junction_of_link net (from_of net k) ≡ junction_of_movement net k
  junction_same =
      let l = from_of net k in
      let here : has (out_of net l) k ≡ true = has_filter (λ i. from_of net i == l) k (movement_numbers net) (in_list (length net.movements) k low high) (eq-eqb l l refl) in
      let together : IsTogether net l = at_in (IsTogether net) l (link_numbers net) from_there ok.together in
      first_of_list net k (junction_of_movement net k) (out_of net l) here (at_in (λ k. AllByRecursion (λ i. junction_of_movement net i ≡ junction_of_movement net k) (out_of net l)) k (out_of net l) here together)

  pub target_known : (o : Option ℕ) → o ≡ to_of net k → IfSome o (λ l. (1 ≤ l) × (l ≤ length net.links))
  target_known o e =
      let there : IfSome (to_of net k) (λ l. has (link_numbers net) l ≡ true) = at_in (λ k. IfSome (to_of net k) (λ l. has (link_numbers net) l ≡ true)) k (movement_numbers net) (in_list (length net.movements) k low high) ok.to in
      go o (subst (λ (o : Option ℕ). IfSome o (λ l. has (link_numbers net) l ≡ true)) (sym e) there)
    where
      go : (o : Option ℕ) → IfSome o (λ l. has (link_numbers net) l ≡ true) → IfSome o (λ l. (1 ≤ l) × (l ≤ length net.links))
      go None t = tt
      go (Some l) t = in_bounds (length net.links) l t

-- each movement that a stage lists is one of the network
pub staged_known : (net : Network) → IsNetwork net → (j s : ℕ) (xs : List ℕ) (i : ℕ) → xs ≡ stage_at (junction_at net j) s → i < length xs → (1 ≤ get_or xs i 0) × (get_or xs i 0 ≤ length net.movements)
staged_known net ok j s xs i e h =
    let Good : List ℕ → Type 0 = λ stage. IsDistinct ◌==◌ stage × AllByRecursion (λ k. has (movement_numbers net) k ≡ true) stage in
    let stages : AllByRecursion Good (junction_at net j).stages = at_index (HasStages net) no_junction net.junctions (j - 1) ok.stages tt in
    let stage : Good (stage_at (junction_at net j) s) = at_index Good [] (junction_at net j).stages (s - 1) stages (none_twice, tt) in
    in_bounds (length net.movements) (get_or xs i 0) (at_place (λ k. has (movement_numbers net) k ≡ true) xs i h (subst (λ (ks : List ℕ). AllByRecursion (λ k. has (movement_numbers net) k ≡ true) ks) (sym e) stage.1))
