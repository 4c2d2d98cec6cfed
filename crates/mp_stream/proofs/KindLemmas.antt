-- The arrivals of lines of some kinds.
use Rattle.std.proofs.Common.{◌≡◌, ◌≤◌, ℕ, List, [], ◌∷◌, ◌++◌, length, refl, ap, arith}
use Rattle.mp_model.specs.Stream.{LineKind, arrivals_of_kinds}
use Rattle.mp_model.specs.Stream.LineKind.{skipped_line, arrivals_line, long_line, bad_line, hear_line, decide_line}

-- the arrivals of a line stand between those before and those behind it
pub arrivals_there : (kinds more : List LineKind) (counts : List ℕ) → arrivals_of_kinds (kinds ++ arrivals_line counts ∷ more) ≡ arrivals_of_kinds kinds ++ counts ∷ arrivals_of_kinds more
arrivals_there [] more counts = refl
arrivals_there (arrivals_line c ∷ ks) more counts = ap (λ A. c ∷ A) (arrivals_there ks more counts)
arrivals_there (skipped_line ∷ ks) more counts = arrivals_there ks more counts
arrivals_there (long_line ∷ ks) more counts = arrivals_there ks more counts
arrivals_there (bad_line ∷ ks) more counts = arrivals_there ks more counts
arrivals_there (hear_line j l ∷ ks) more counts = arrivals_there ks more counts
arrivals_there (decide_line j ∷ ks) more counts = arrivals_there ks more counts

-- a skipped line gives none
pub arrivals_skipped : (kinds : List LineKind) → arrivals_of_kinds (kinds ++ skipped_line ∷ []) ≡ arrivals_of_kinds kinds
arrivals_skipped [] = refl
arrivals_skipped (arrivals_line c ∷ ks) = ap (λ A. c ∷ A) (arrivals_skipped ks)
arrivals_skipped (skipped_line ∷ ks) = arrivals_skipped ks
arrivals_skipped (long_line ∷ ks) = arrivals_skipped ks
arrivals_skipped (bad_line ∷ ks) = arrivals_skipped ks
arrivals_skipped (hear_line j l ∷ ks) = arrivals_skipped ks
arrivals_skipped (decide_line j ∷ ks) = arrivals_skipped ks

-- there are at most as many periods as lines
pub few_arrivals : (kinds : List LineKind) → length (arrivals_of_kinds kinds) ≤ length kinds
few_arrivals [] = omega arith
few_arrivals (arrivals_line c ∷ ks) = let few = few_arrivals ks in omega arith
few_arrivals (skipped_line ∷ ks) = let few = few_arrivals ks in omega arith
few_arrivals (long_line ∷ ks) = let few = few_arrivals ks in omega arith
few_arrivals (bad_line ∷ ks) = let few = few_arrivals ks in omega arith
few_arrivals (hear_line j l ∷ ks) = let few = few_arrivals ks in omega arith
few_arrivals (decide_line j ∷ ks) = let few = few_arrivals ks in omega arith
