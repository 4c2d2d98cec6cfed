-- What the rules of a network say of the numbers in its lists.
use Rattle.std.proofs.Common.{◌≡◌, ◌==◌, ◌≤◌, ℕ, suc, ◌+◌, ◌-◌, Bool, true, false, cond, List, [], ◌∷◌, length, get_or, filter, sum_by, Option, None, Some, IfSome, arith, refl, ap, subst, eq-eqb}
use Rattle.std.specs.List.{AllByRecursion, All, IsDistinct}
use Rattle.std.specs.List.Sorted.{IsStrictlyIncreasing}
use Rattle.std.proofs.lemmas.List.Elements.{All-from_recursion}
use Rattle.std.proofs.lemmas.List.Kept.{IsStrictlyIncreasing-filter}
use Rattle.std.proofs.lemmas.List.FromFn.{length-range_with_len, get_or-range_with_len}
use Rattle.std.proofs.lemmas.List.Sums.{sum_by-cons}
use Rattle.mp_model.specs.Network.{Network, movement_numbers, link_numbers, numbers_to, has, junction_at, stage_at, no_junction, no_movement, out_of, from_of, to_of, share_of, flow_of, own, stands_in}
use Rattle.mp_model.specs.NetworkRules.{IsNetwork, IsInRange, HasStages}
use Rattle.mp_laws.proofs.Lists.{AllOf-map}
use Rattle.mp_laws.proofs.Lists.{at_index}
use Rattle.mp_laws.proofs.Lists.{filter_sub}
use Rattle.mp_laws.proofs.Sums.{terms_le}
use Rattle.mp_laws.proofs.Lists.{in_numbers, at_range}
use Rattle.mp_laws.proofs.Lists.{each_in, at_in, all_in, has_filter}
use Rattle.mp_laws.proofs.Distinct.{range_distinct, distinct_filter, shared_le}
use Rattle.mp_laws.proofs.Serve.{stage_in}
use Rattle.mp_laws.proofs.Sums.{sum_by-same_at}
use Rattle.mp_net.proofs.Entries.{all_at}
use Rattle.mp_press.specs.Written.{IsAmong}

-- a number that stands in the range is one of it, and the other way round
pub among : (n k : ℕ) → has (numbers_to n) k ≡ true → IsAmong n k
among n k h = let i = in_numbers n k h in (i.0, omega (arith, i))

pub has_numbers : (n k : ℕ) → IsAmong n k → has (numbers_to n) k ≡ true
has_numbers n k h = at_range (λ k. has (numbers_to n) k ≡ true) 1 n k h.0 (omega arith) (all_in (numbers_to n))

-- the numbers that a filter keeps
pub kept_known : (p : ℕ → Bool) (n : ℕ) → AllByRecursion (IsAmong n) (filter p (numbers_to n))
kept_known p n = each_in (IsAmong n) (filter p (numbers_to n)) (λ k h. among n k (filter_sub p (numbers_to n) k h))

pub all_known : (p : ℕ → Bool) (n : ℕ) → All (IsAmong n) (filter p (numbers_to n))
all_known p n = All-from_recursion (IsAmong n) (filter p (numbers_to n)) (kept_known p n)

kept_few : (p : ℕ → Bool) (xs : List ℕ) → length (filter p xs) ≤ length xs
kept_few p [] = omega arith
kept_few p (x ∷ xs) = go (p x) (kept_few p xs)
  where
    go : (b : Bool) → length (filter p xs) ≤ length xs → length (cond b (x ∷ filter p xs) (filter p xs)) ≤ suc (length xs)
    go true h = omega arith
    go false h = omega arith

pub few_kept : (p : ℕ → Bool) (n : ℕ) → length (filter p (numbers_to n)) ≤ n
few_kept p n = omega (arith, kept_few p (numbers_to n), length-range_with_len 1 n)

numbers_rise : (n : ℕ) → IsStrictlyIncreasing (numbers_to n)
numbers_rise n = λ k h. let size = length-range_with_len 1 n in omega (arith, get_or-range_with_len 1 n k 0 (omega arith), get_or-range_with_len 1 n (k + 1) 0 (omega arith))

pub kept_rise : (p : ℕ → Bool) (n : ℕ) → IsStrictlyIncreasing (filter p (numbers_to n))
kept_rise p n = IsStrictlyIncreasing-filter p (numbers_to n) (numbers_rise n)

pub kept_differ : (p : ℕ → Bool) (n : ℕ) → IsDistinct ◌==◌ (filter p (numbers_to n))
kept_differ p n = distinct_filter p (numbers_to n) (range_distinct 1 n)

-- a list that differs and stands in another is no longer
distinct_few : (xs ks : List ℕ) → IsDistinct ◌==◌ ks → AllByRecursion (λ k. has xs k ≡ true) ks → length ks ≤ length xs
distinct_few xs ks d h =
    omega (
      arith,
      ones ks,
      ones xs,
      shared_le (λ k. 1) xs ks d,
      sum_by-same_at (λ k. cond {A = ℕ} (has xs k) 1 0) (λ k. 1) ks (AllOf-map (λ k. has xs k ≡ true) (λ k. cond {A = ℕ} (has xs k) 1 0 ≡ 1) (λ k e. ap {B = ℕ} (λ b. cond b 1 0) e) ks h),
    )
  where
    ones : (ys : List ℕ) → sum_by (λ (k : ℕ). 1) ys ≡ length ys
    ones [] = refl
    ones (y ∷ ys) = omega (arith, sum_by-cons (λ (k : ℕ). 1) y ys, ones ys)

-- a junction has some stage
pub some_stage : (net : Network) → IsNetwork net → (j : ℕ) → 1 ≤ j → j ≤ length net.junctions → 1 ≤ length (junction_at net j).stages
some_stage net ok j low high = all_at (λ j. 1 ≤ length j.stages) net.junctions (j - 1) no_junction ok.some_stage (omega arith)

-- the stages of a junction
module _ (net : Network) (ok : IsNetwork net) where
  stages_of : (i : ℕ) → AllByRecursion (λ stage. IsDistinct ◌==◌ stage × AllByRecursion (λ k. has (movement_numbers net) k ≡ true) stage) (get_or net.junctions i no_junction).stages
  stages_of i = at_index (HasStages net) no_junction net.junctions i ok.stages tt

  stage_of : (i s : ℕ) → IsDistinct ◌==◌ (stage_at (get_or net.junctions i no_junction) s) × AllByRecursion (λ k. has (movement_numbers net) k ≡ true) (stage_at (get_or net.junctions i no_junction) s)
  unfolding IsDistinct
  stage_of i s = at_index (λ stage. IsDistinct ◌==◌ stage × AllByRecursion (λ k. has (movement_numbers net) k ≡ true) stage) [] (get_or net.junctions i no_junction).stages (s - 1) (stages_of i) (tt, tt)

  pub stage_known : (i s : ℕ) → AllByRecursion (IsAmong (length net.movements)) (stage_at (get_or net.junctions i no_junction) s)
  stage_known i s = AllOf-map (λ k. has (movement_numbers net) k ≡ true) (IsAmong (length net.movements)) (among (length net.movements)) (stage_at (get_or net.junctions i no_junction) s) (stage_of i s).1

  pub stage_few : (i s : ℕ) → length (stage_at (get_or net.junctions i no_junction) s) ≤ length net.movements
  stage_few i s = omega (arith, distinct_few (movement_numbers net) (stage_at (get_or net.junctions i no_junction) s) (stage_of i s).0 (stage_of i s).1, length-range_with_len 1 (length net.movements))

  -- a movement of a stage is one of the junction
  pub stage_own : (i s : ℕ) → AllByRecursion (λ k. has (own net (get_or net.junctions i no_junction)) k ≡ true) (stage_at (get_or net.junctions i no_junction) s)
  stage_own i s =
      let j = get_or net.junctions i no_junction in
      each_in (λ k. has (own net j) k ≡ true) (stage_at j s) (λ k h. has_filter (stands_in j) k (movement_numbers net) (at_in (λ k. has (movement_numbers net) k ≡ true) k (stage_at j s) h (stage_of i s).1) (stage_in k j.stages (s - 1) h))

  pub to_known : (k l : ℕ) → IsAmong (length net.movements) k → to_of net k ≡ Some l → IsAmong (length net.links) l
  to_known k l h e = among (length net.links) l (go (to_of net k) e (at_in (λ k. IfSome (to_of net k) (λ l. has (link_numbers net) l ≡ true)) k (movement_numbers net) (has_numbers (length net.movements) k h) ok.to))
    where
      go : (o : Option ℕ) → o ≡ Some l → IfSome o (λ l. has (link_numbers net) l ≡ true) → has (link_numbers net) l ≡ true
      go None e t = cc
      go (Some m) e t = let s : m ≡ l = cc in subst (λ m. has (link_numbers net) m ≡ true) s t

  pub from_there : (k : ℕ) → IsAmong (length net.movements) k → has (link_numbers net) (from_of net k) ≡ true
  from_there k h = at_in (λ k. has (link_numbers net) (from_of net k) ≡ true) k (movement_numbers net) (has_numbers (length net.movements) k h) ok.from

  pub from_known : (k : ℕ) → IsAmong (length net.movements) k → IsAmong (length net.links) (from_of net k)
  from_known k h = among (length net.links) (from_of net k) (from_there k h)

  -- no share is above the total
  pub share_few : (k : ℕ) → IsAmong (length net.movements) k → share_of net k ≤ net.shares
  share_few k h =
      let l = from_of net k in
      let here : has (out_of net l) k ≡ true = has_filter (λ i. from_of net i == l) k (movement_numbers net) (has_numbers (length net.movements) k h) (eq-eqb l l refl) in
      let sums : sum_by (share_of net) (out_of net l) ≡ net.shares = at_in (λ l. sum_by (share_of net) (out_of net l) ≡ net.shares) l (link_numbers net) (from_there k h) ok.split in
      omega (arith, sums, at_in (λ k. share_of net k ≤ sum_by (share_of net) (out_of net l)) k (out_of net l) here (terms_le (share_of net) (out_of net l)))

pub flow_few : (net : Network) → IsInRange net → (k : ℕ) → flow_of net k ≤ 1000
flow_few net range k = at_index (λ m. m.flow ≤ 1000) no_movement net.movements (k - 1) range.flows (omega arith)
