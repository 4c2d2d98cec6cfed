-- What an acceptable network says of the numbers in it.
use Rattle.std.proofs.Common.{◌≡◌, ℕ, ◌+◌, ◌-◌, ◌≤◌, ◌<◌, zero, suc, Bool, true, false, ◌==◌, List, [], length, get_or, Option, Some, None, IfSome, refl, ◌∙◌, arith}
use Rattle.std.proofs.lemmas.Bool.{eqb-true}
use Rattle.std.specs.List.{range_with_len, AllByRecursion}
use Rattle.std.proofs.lemmas.List.FromFn.{length-range_with_len, get_or-range_with_len}
use Rattle.mp_model.specs.Network.{Network, Junction, no_junction, junction_at, from_of, to_of, has, link_numbers, movement_numbers}
use Rattle.mp_model.specs.NetworkRules.{IsNetwork, HasStages}
use Rattle.mp_netfile.specs.Numbered.{IsLink, IsMovement, IsJunction, IsTarget, IsBetweenLinks}
use Rattle.mp_netfile.proofs.Spotless.{each, at}

-- a number that a range holds lies in it
pub in_range : (a n k : ℕ) → has (range_with_len a n) k ≡ true → (a ≤ k) × (k < a + n)
in_range a zero k h = cc
in_range a (suc n) k h = split (a == k) refl h (in_range (a + 1) n k)
  where
    split : (b : Bool) → (a == k) ≡ b → has (range_with_len a (suc n)) k ≡ true → (has (range_with_len (a + 1) n) k ≡ true → (a + 1 ≤ k) × (k < a + 1 + n)) → (a ≤ k) × (k < a + suc n)
    split true e h more = let same : a ≡ k = eqb-true a k e in (omega arith, omega arith)
    split false e h more = let later = more (rw e at h) in (omega (arith, later.0), omega (arith, later.1))

-- of all numbers from 1, at one
numbered : (P : ℕ → Type 0) (n k : ℕ) → AllByRecursion P (range_with_len 1 n) → 1 ≤ k → k ≤ n → P k
numbered P n k all low high =
    let size : length (range_with_len 1 n) ≡ n = length-range_with_len 1 n in
    let here : get_or (range_with_len 1 n) (k - 1) 0 ≡ k = get_or-range_with_len 1 n (k - 1) 0 (omega arith) ∙ omega arith in
    rw here at (at P (range_with_len 1 n) (k - 1) 0 all (omega arith))

is_link : (net : Network) (l : ℕ) → has (link_numbers net) l ≡ true → IsLink net l
is_link net l h = let range = in_range 1 (length net.links) l h in (range.0, omega (arith, range.1))

is_movement : (net : Network) (k : ℕ) → has (movement_numbers net) k ≡ true → IsMovement net k
is_movement net k h = let range = in_range 1 (length net.movements) k h in (range.0, omega (arith, range.1))

is_target : (net : Network) (to : Option ℕ) → IfSome to (λ l. has (link_numbers net) l ≡ true) → IsTarget net to
is_target net None h = tt
is_target net (Some l) h = is_link net l h

pub between_links : (net : Network) (k : ℕ) → IsNetwork net → IsMovement net k → IsBetweenLinks net k
between_links net k is there = record {
  from = is_link net (from_of net k) (numbered (λ k. has (link_numbers net) (from_of net k) ≡ true) (length net.movements) k is.from there.0 there.1);
  to = is_target net (to_of net k) (numbered (λ k. IfSome (to_of net k) (λ l. has (link_numbers net) l ≡ true)) (length net.movements) k is.to there.0 there.1);
}

-- the stages of a junction name movements that are there
pub has_stages : (net : Network) (j : Junction) → HasStages net j → AllByRecursion (AllByRecursion (IsMovement net)) j.stages
has_stages net j h = each _ (AllByRecursion (IsMovement net)) j.stages (λ stage both. each (λ k. has (movement_numbers net) k ≡ true) (IsMovement net) stage (is_movement net) both.1) h

pub stages_at : (net : Network) (j : ℕ) → IsNetwork net → IsJunction net j → AllByRecursion (AllByRecursion (IsMovement net)) (junction_at net j).stages
stages_at net j is there = has_stages net (junction_at net j) (at (HasStages net) net.junctions (j - 1) no_junction is.stages (omega (arith, there.0, there.1)))

-- a stage of stages whose movements are there
pub stage_in : (net : Network) (stages : List (List ℕ)) (s : ℕ) → AllByRecursion (AllByRecursion (IsMovement net)) stages → 1 ≤ s → s ≤ length stages → AllByRecursion (IsMovement net) (get_or stages (s - 1) [])
stage_in net stages s all low high = at (AllByRecursion (IsMovement net)) stages (s - 1) [] all (omega arith)
