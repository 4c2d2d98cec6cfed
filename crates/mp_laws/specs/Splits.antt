-- The laws on the split of a link by weighted round robin.
use Rattle.std.specs.Prelude.{◌≡◌, ◌==◌, ◌≤◌, ℕ, ◌+◌, ◌-◌, ◌*◌, ◌%◌, List, length, map, sum_by, pos, neg_ℤ, ◌≤ℤ◌, true}
use Rattle.std.specs.List.{AllByRecursion}
use Rattle.mp_model.specs.Network.{link_numbers, Network, share_of, has, out_of}
use Rattle.mp_model.specs.NetworkRules.{IsNetwork}
use Rattle.mp_model.specs.Split.{split_counts, credit, IsSplit}
use Rattle.mp_model.specs.Sums.{int_sum_by}

-- The vehicles are all split: those that joined the movements sum to the vehicles that came.
abbrev pub SplitLaw : Type 0
SplitLaw = (total : ℕ) (share : ℕ → ℕ) (ks : List ℕ) → IsSplit total share ks → (n : ℕ) → sum_by (split_counts total share ks n) ks ≡ n

-- The credits of a link sum to 0, each lies between its two bounds, and all are 0 after each total of vehicles.
pub record HasCredits (total : ℕ) (share : ℕ → ℕ) (ks : List ℕ) : Type 0 where
  pub sums : (n : ℕ) → int_sum_by (credit total share ks n) ks ≡ pos 0
  pub low : (n k : ℕ) → neg_ℤ (pos (total - 1)) ≤ℤ credit total share ks n k
  pub high : (n : ℕ) → AllByRecursion (λ k. credit total share ks n k ≤ℤ pos ((length ks - 1) * (total - 1))) ks
  pub none : (m : ℕ) → AllByRecursion (λ k. credit total share ks (m * total) k ≡ pos 0) ks

-- This holds of every split.
abbrev pub CreditLaw : Type 0
CreditLaw = (total : ℕ) (share : ℕ → ℕ) (ks : List ℕ) → IsSplit total share ks → HasCredits total share ks

-- After m whole rounds each movement has its share m times over, and the next r vehicles join as the first r did; so the credits, and how many of the next vehicles join a movement, depend on the number before by its rest modulo the total alone.
pub record FollowsPhase (total : ℕ) (share : ℕ → ℕ) (ks : List ℕ) : Type 0 where
  pub rounds : (m r : ℕ) → AllByRecursion (λ k. split_counts total share ks (m * total + r) k ≡ share k * m + split_counts total share ks r k) ks
  pub phases : (n r : ℕ) → AllByRecursion (λ k. split_counts total share ks (n + r) k - split_counts total share ks n k ≡ split_counts total share ks (n % total + r) k - split_counts total share ks (n % total) k) ks
  pub credits : (n : ℕ) → AllByRecursion (λ k. credit total share ks (n % total) k ≡ credit total share ks n k) ks

-- This holds of every split.
abbrev pub PhaseLaw : Type 0
PhaseLaw = (total : ℕ) (share : ℕ → ℕ) (ks : List ℕ) → IsSplit total share ks → FollowsPhase total share ks

-- A split by other numbers for the same movements is the same split.
abbrev pub RenumberLaw : Type 0
RenumberLaw = (total : ℕ) (share : ℕ → ℕ) (f : ℕ → ℕ) (xs : List ℕ) → 1 ≤ length xs → ((i j : ℕ) → has xs i ≡ true → has xs j ≡ true → (f i == f j) ≡ (i == j)) → (n : ℕ) →
    AllByRecursion (λ i. split_counts total share (map f xs) n (f i) ≡ split_counts total (λ i. share (f i)) xs n i) xs

-- At each link of a network the shares of the movements out of it make a split.
abbrev pub LinkSplitLaw : Type 0
LinkSplitLaw = (net : Network) → IsNetwork net → AllByRecursion (λ l. IsSplit net.shares (share_of net) (out_of net l)) (link_numbers net)
