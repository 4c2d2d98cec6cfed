-- Counts of the numbers of a list.
use Rattle.std.proofs.Common.{◌≡◌, ◌==◌, ◌≢◌, ◌≤◌, ◌<◌, ℕ, zero, suc, Bool, true, false, cond, ◌||◌, List, [], ◌∷◌, length, get_or, arith, refl, ◌∙◌, ap, eq-eqb, ne_eqb, ⊎_elim, subst}
use Rattle.std.specs.List.{All, AllByRecursion, IsDistinct}
use Rattle.std.specs.List.Sorted.{IsStrictlyIncreasing}
use Rattle.std.proofs.lemmas.Bool.{cases_lt, true≢false}
use Rattle.std.proofs.lemmas.List.Kept.{AllPairs-from_increasing}
use Rattle.mp_model.specs.Network.{has}
use Rattle.mp_model.specs.Arrivals.{count_in}

pub count_absent : (fs cs : List ℕ) (l : ℕ) → has fs l ≡ false → let z : ℕ = 0 in count_in fs cs l ≡ z
count_absent [] cs l h = refl
count_absent (f ∷ fs) [] l h = refl
count_absent (f ∷ fs) (c ∷ cs) l h = go (count_absent fs cs l) (f == l) refl h
  where
    go : (has fs l ≡ false → let z : ℕ = 0 in count_in fs cs l ≡ z) → (b : Bool) → (f == l) ≡ b → (b || has fs l) ≡ false → let z : ℕ = 0 in cond b c (count_in fs cs l) ≡ z
    go more true e t = absurd (true≢false t)
    go more false e t = more t

pub absent_at : (x : ℕ) (xs : List ℕ) (i : ℕ) → i < length xs → AllByRecursion (λ y. (x == y) ≡ false) xs → (x == get_or xs i 0) ≡ false
absent_at x [] i h a = absurd (omega arith)
absent_at x (y ∷ ys) zero h a = a.0
absent_at x (y ∷ ys) (suc i) h a = absent_at x ys i (omega arith) a.1

-- the count of the number at a place is that at the place
pub count_here : (fs cs : List ℕ) → IsDistinct ◌==◌ fs → length cs ≡ length fs → (i : ℕ) → i < length fs → count_in fs cs (get_or fs i 0) ≡ get_or cs i 0
unfolding IsDistinct
count_here [] cs d e i h = absurd (omega arith)
count_here (f ∷ fs) [] d e i h = absurd (omega arith)
count_here (f ∷ fs) (c ∷ cs) d e zero h = ap (λ b. cond b c (count_in fs cs f)) (eq-eqb f f refl)
count_here (f ∷ fs) (c ∷ cs) d e (suc i) h =
    ap (λ b. cond b c (count_in fs cs (get_or fs i 0))) (absent_at f fs i (omega arith) d.0) ∙ count_here fs cs d.1 (omega arith) i (omega arith)

-- a number that stands at no place is none of the list
pub absent : (fs : List ℕ) (l : ℕ) → ((i : ℕ) → i < length fs → get_or fs i 0 ≢ l) → has fs l ≡ false
absent [] l h = refl
absent (f ∷ fs) l h = ap (λ b. b || has fs l) (ne_eqb f l (h 0 (omega arith))) ∙ absent fs l (λ i lt. h (suc i) (omega arith))

-- numbers that rise don't fall
pub rising : (xs : List ℕ) → IsStrictlyIncreasing xs → (i j : ℕ) → i ≤ j → j < length xs → get_or xs i 0 ≤ get_or xs j 0
rising xs h i j le lt = ⊎_elim (λ (l : i < j). let p = AllPairs-from_increasing xs h i j 0 l lt in omega arith) (λ (g : j ≤ i). let e : i ≡ j = omega arith in subst (λ n. get_or xs i 0 ≤ get_or xs n 0) e (omega arith)) (cases_lt i j)

pub count_few : (fs cs : List ℕ) (l m : ℕ) → All (λ a. a ≤ m) cs → count_in fs cs l ≤ m
count_few [] cs l m all = omega arith
count_few (f ∷ fs) [] l m all = omega arith
count_few (f ∷ fs) (c ∷ cs) l m all = go (f == l) (count_few fs cs l m (λ i d lt. all (suc i) d (omega arith)))
  where
    go : (b : Bool) → count_in fs cs l ≤ m → cond b c (count_in fs cs l) ≤ m
    go true h = all 0 0 (omega arith)
    go false h = h
