-- The greatest of a list of numbers.
use Rattle.std.proofs.Common.{◌≡◌, ◌==◌, ◌≤◌, ◌<◌, ℕ, max, true, false, List, [], ◌∷◌, ◌++◌, length, take, get_or, ℤ, ◌+◌, arith, refl, ◌∙◌, ap, subst, ⊎_elim, eq-eqb}
use Rattle.std.specs.Prelude.{unsigned_abs}
use Rattle.std.specs.List.{AllByRecursion}
use Rattle.std.proofs.lemmas.Bool.{cases_lt, or_left, or_right}
use Rattle.std.proofs.lemmas.List.{take_more, take_all, length-map}
use Rattle.mp_model.specs.Network.{has}
use Rattle.mp_press.specs.Queues.{naturals}
use Rattle.mp_laws.proofs.Lists.{AllOf-map}
use Rattle.mp_model.specs.Load.{greatest as greatest_of}
use Rattle.mp_gen.specs.Greatest.{IsGreatest}

-- none is above the greatest
pub none_above : (xs : List ℕ) → AllByRecursion (λ x. x ≤ greatest_of xs) xs
none_above [] = tt
none_above (x ∷ xs) = (omega arith, AllOf-map (λ y. y ≤ greatest_of xs) (λ y. y ≤ max x (greatest_of xs)) (λ y h. omega arith) xs (none_above xs))

-- the greatest is in the list
among : (x : ℕ) (xs : List ℕ) → has (x ∷ xs) (greatest_of (x ∷ xs)) ≡ true
among x [] = or_left (x == max x 0) false (eq-eqb x (max x 0) (omega arith))
among x (y ∷ ys) =
    ⊎_elim
    (λ (lt : x < greatest_of (y ∷ ys)).
    let e : greatest_of (y ∷ ys) ≡ max x (greatest_of (y ∷ ys)) = omega arith in
    or_right (x == max x (greatest_of (y ∷ ys))) (has (y ∷ ys) (max x (greatest_of (y ∷ ys)))) (subst (λ n. has (y ∷ ys) n ≡ true) e (among y ys)))
    (λ (le : greatest_of (y ∷ ys) ≤ x). or_left (x == max x (greatest_of (y ∷ ys))) (has (y ∷ ys) (max x (greatest_of (y ∷ ys)))) (eq-eqb x (max x (greatest_of (y ∷ ys))) (omega arith)))
    (cases_lt x (greatest_of (y ∷ ys)))

pub is_greatest : (xs : List ℕ) → 1 ≤ length xs → IsGreatest xs (greatest_of xs)
is_greatest [] some = absurd (omega arith)
is_greatest (x ∷ xs) some = record { among = among x xs; most = none_above (x ∷ xs) }

-- of two lists together it is the greater
pub greatest-append : (xs ys : List ℕ) → greatest_of (xs ++ ys) ≡ max (greatest_of xs) (greatest_of ys)
greatest-append [] ys = omega arith
greatest-append (x ∷ xs) ys = omega (arith, greatest-append xs ys)

pub greatest_push : (xs : List ℕ) (x : ℕ) → greatest_of (xs ++ x ∷ []) ≡ max x (greatest_of xs)
greatest_push xs x = omega (arith, greatest-append xs (x ∷ []))

-- the first i numbers, one number more, and all of them
pub greatest_start : (xs : List ℕ) → 0 ≡ greatest_of (take 0 xs)
greatest_start xs = refl

pub greatest_more : (xs : List ℕ) (i x greatest : ℕ) → i < length xs → x ≡ get_or xs i 0 → greatest ≡ greatest_of (take i xs) → max x greatest ≡ greatest_of (take (i + 1) xs)
greatest_more xs i x greatest low is so_far = omega (arith, ap greatest_of (take_more xs i 0 low), greatest_push (take i xs) (get_or xs i 0))

pub greatest_end : (zs : List ℤ) (i greatest : ℕ) → length zs ≤ i → greatest ≡ greatest_of (take i (naturals zs)) → greatest ≡ greatest_of (naturals zs)
greatest_end zs i greatest past so_far = so_far ∙ ap greatest_of (take_all i (naturals zs) (omega (arith, length-map zs unsigned_abs)))

pub ruleset greatests = (greatest_start, greatest_more, greatest_end)
