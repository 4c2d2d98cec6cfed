-- Sharper forms of the laws on windows and splits fail.
use Rattle.std.proofs.Common.{◌≡◌, ◌==◌, ◌≤◌, ◌<◌, ℕ, ◌+◌, ◌-◌, ◌*◌, ◌%◌, Bool, true, false, List, [], ◌∷◌, length, map, sum_by, pos, neg_ℤ, ◌+ℤ◌, ◌≤ℤ◌, arith, refl, sym, ◌∙◌, ap, eqb-true, eq-eqb, ne_eqb, lit≤, lit<}
use Rattle.std.proofs.lemmas.Bool.{false≢true}
use Rattle.std.proofs.lemmas.Int.{ints}
use Rattle.std.specs.List.{AllByRecursion}
use Rattle.mp_model.specs.Network.{share_of}
use Rattle.mp_model.specs.Arrivals.{KeepsTo, level_after}
use Rattle.mp_model.specs.Split.{split_counts, credit, IsSplit}
use Rattle.mp_model.specs.Worked.{roundabout}
use Rattle.mp_laws.proofs.Windows.{keeps_to}
use Rattle.mp_laws.proofs.Cases.{roundabout_acceptable}
use Rattle.mp_laws.proofs.LinkSplits.{link_splits}
use Rattle.mp_laws.proofs.Places.{split-map}

-- two numbers differ
pub apart : (a b : ℕ) → a < b → a ≡ b → ⊥
apart a b h e = omega arith

-- the level would stay below the burst: at 2, 0, 0, 1 it is 8 after the fourth period
level_one_lower : ¬ ((per burst rate : ℕ) (counts : List ℕ) → KeepsTo per burst rate counts → level_after per rate 0 counts + 1 ≤ per * burst)
level_one_lower law = let h : 9 ≤ 8 = law 4 2 1 (2 ∷ 0 ∷ 0 ∷ 1 ∷ []) (keeps_to 4 2 1 (2 ∷ 0 ∷ 0 ∷ 1 ∷ []) (lit≤ tt, (lit≤ tt, (lit≤ tt, (lit≤ tt, tt))))) in absurd (omega arith)

-- shares 1 and 1, which meet the premise of the laws on splits
halves : IsSplit 2 (share_of roundabout) (1 ∷ 2 ∷ [])
halves = (link_splits roundabout roundabout_acceptable.network).0

-- after one vehicle the credits are -1 and 1, and so both bounds are met with equality
low_one_higher : ¬ ((total : ℕ) (share : ℕ → ℕ) (ks : List ℕ) → IsSplit total share ks → (n k : ℕ) → (neg_ℤ (pos (total - 1)) +ℤ pos 1) ≤ℤ credit total share ks n k)
low_one_higher law = let h : pos 0 ≤ℤ neg_ℤ (pos 1) = law 2 (share_of roundabout) (1 ∷ 2 ∷ []) halves 1 1 in absurd (omega (arith, ints))

high_one_lower : ¬ ((total : ℕ) (share : ℕ → ℕ) (ks : List ℕ) → IsSplit total share ks → (n : ℕ) → AllByRecursion (λ k. (credit total share ks n k +ℤ pos 1) ≤ℤ pos ((length ks - 1) * (total - 1))) ks)
high_one_lower law = let h : pos 2 ≤ℤ pos 1 = (law 2 (share_of roundabout) (1 ∷ 2 ∷ []) halves 1).1.0 in absurd (omega (arith, ints))

-- the credits would be 0 again one vehicle before the round ends
none_one_sooner : ¬ ((total : ℕ) (share : ℕ → ℕ) (ks : List ℕ) → IsSplit total share ks → (m : ℕ) → AllByRecursion (λ k. credit total share ks (m * (total - 1)) k ≡ pos 0) ks)
none_one_sooner law = let h : neg_ℤ (pos 1) ≡ pos 0 = (law 2 (share_of roundabout) (1 ∷ 2 ∷ []) halves 1).0 in absurd (omega (arith, ints))

-- a round would be one vehicle shorter
round_one_shorter : ¬ ((total : ℕ) (share : ℕ → ℕ) (ks : List ℕ) → IsSplit total share ks → (m r : ℕ) → AllByRecursion (λ k. split_counts total share ks (m * (total - 1) + r) k ≡ share k * m + split_counts total share ks r k) ks)
round_one_shorter law = apart 0 1 (lit< tt) ((law 2 (share_of roundabout) (1 ∷ 2 ∷ []) halves 1 0).1.0)

phase_one_shorter : ¬ ((total : ℕ) (share : ℕ → ℕ) (ks : List ℕ) → IsSplit total share ks → (n r : ℕ) →
    AllByRecursion (λ k. split_counts total share ks (n + r) k - split_counts total share ks n k ≡ split_counts total share ks (n % (total - 1) + r) k - split_counts total share ks (n % (total - 1)) k) ks)
phase_one_shorter law = apart 0 1 (lit< tt) ((law 2 (share_of roundabout) (1 ∷ 2 ∷ []) halves 1 1).0)

-- one vehicle more would have joined
joined_one_more : ¬ ((total : ℕ) (share : ℕ → ℕ) (ks : List ℕ) → IsSplit total share ks → (n : ℕ) → sum_by (split_counts total share ks n) ks ≡ n + 1)
joined_one_more law = apart 0 1 (lit< tt) (law 2 (share_of roundabout) (1 ∷ 2 ∷ []) halves 0)

-- two movements would have one number
numbers_shared : ¬ ((total : ℕ) (share : ℕ → ℕ) (f : ℕ → ℕ) (xs : List ℕ) → 1 ≤ length xs → (n : ℕ) → AllByRecursion (λ i. split_counts total share (map f xs) n (f i) ≡ split_counts total (λ i. share (f i)) xs n i) xs)
numbers_shared law = apart 0 1 (lit< tt) (sym ((law 2 (λ k. 1) (λ i. 1) (1 ∷ 2 ∷ []) (lit≤ tt) 1).1.0))

next_apart : (i j : ℕ) (b : Bool) → (i == j) ≡ b → (i + 1 == j + 1) ≡ b
next_apart i j true e = eq-eqb (i + 1) (j + 1) (ap (λ n. n + 1) (eqb-true i j e))
next_apart i j false e = ne_eqb (i + 1) (j + 1) (λ h. false≢true (sym e ∙ eq-eqb i j (omega arith)))

-- places from 0 and numbers from 1 meet the premise of the law on renumbering
renumbered : (n : ℕ) → AllByRecursion (λ i. split_counts 2 (share_of roundabout) (1 ∷ 2 ∷ []) n (i + 1) ≡ split_counts 2 (λ i. share_of roundabout (i + 1)) (0 ∷ 1 ∷ []) n i) (0 ∷ 1 ∷ [])
renumbered = split-map 2 (share_of roundabout) (λ i. i + 1) (0 ∷ 1 ∷ []) (lit≤ tt) (λ i j a b. next_apart i j (i == j) refl)
