-- The loop that lists stage 0 for each junction.
use Rattle.std.proofs.Common.{◌≡◌, ℕ, ◌+◌, ◌≤◌, List, [], ◌∷◌, length, map, refl, ap, ◌∙◌, arith}
use Rattle.std.specs.List.{range_with_len}
use Rattle.mp_model.specs.Network.{Junction, numbers_to}
use Rattle.mp_drift.proofs.Loops.{Listing, listing_start, listing_more}

-- a constant depends on the length alone
same_constant : (a : ℕ) (js : List Junction) → map {B = ℕ} (λ (i : ℕ). 0) (range_with_len a (length js)) ≡ map {B = ℕ} (λ (j : Junction). 0) js
same_constant a [] = refl
same_constant a (j ∷ js) = ap (λ (zs : List ℕ). 0 ∷ zs) (same_constant (a + 1) js)

pub zeros_end : (js : List Junction) (n i : ℕ) (now : List ℕ) → Listing {X = ℕ} (λ k. 0) i now → n ≡ length js → n ≤ i → i ≤ n → now ≡ map {B = ℕ} (λ (j : Junction). 0) js
zeros_end js n i now s e h l = let all : i ≡ length js = omega arith in s.values ∙ ap (λ k. map {B = ℕ} (λ (i : ℕ). 0) (numbers_to k)) all ∙ same_constant 1 js

pub zeros_start : Listing {X = ℕ} (λ k. 0) 0 []
zeros_start = listing_start {X = ℕ} (λ k. 0)

pub ruleset zeros = (zeros_start, listing_more, zeros_end)
