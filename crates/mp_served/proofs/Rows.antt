-- Sums over rows of periods, and arrivals in them.
use Rattle.std.proofs.Common.{◌≡◌, ℕ, zero, suc, ◌+◌, ◌-◌, ◌*◌, ◌≤◌, ◌<◌, List, [], ◌∷◌, ◌++◌, length, get_or, map, sum, sum_by, arith, refl, sym, ◌∙◌, ap, ap₂}
use Rattle.std.specs.List.{range_with_len}
use Rattle.std.proofs.lemmas.List.FromFn.{sum_by-map-range_with_len_more, length-map-range_with_len}
use Rattle.mp_model.specs.Arrivals.{KeepsTo}
use Rattle.mp_laws.proofs.Sums.{sum_by-add, sum_by-zero}
use Rattle.mp_served.specs.Bounds.{total}

pub add_none : (a : ℕ) → a + 0 ≡ a
add_none a = omega arith

pub add_next : (a n : ℕ) → suc (a + n) ≡ a + suc n
add_next a n = omega arith

-- a range is cut
range_parts : {X : Type 0} (f : ℕ → X) (x n m : ℕ) → map f (range_with_len x (n + m)) ≡ map f (range_with_len x n) ++ map f (range_with_len (x + n) m)
range_parts f x zero m = ap₂ (λ y k. map f (range_with_len y k)) (sym (add_none x)) (omega arith)
range_parts f x (suc n) m =
    let longer : suc n + m ≡ suc (n + m) = omega arith in
    let place : x + 1 + n ≡ x + suc n = omega arith in
    ap (λ k. map f (range_with_len x k)) longer ∙ ap (λ xs. f x ∷ xs) (range_parts f (x + 1) n m) ∙ ap (λ y. f x ∷ (map f (range_with_len (x + 1) n) ++ map f (range_with_len y m))) place

sum_total : (f : ℕ → ℕ) (a n : ℕ) → sum (map f (range_with_len a n)) ≡ total f a n
sum_total f a zero = refl
sum_total f a (suc n) =
    let one : suc n ≡ n + 1 = omega arith in
    ap (λ k. sum (map f (range_with_len a k))) one ∙ sum_by-map-range_with_len_more (λ x. x) f a n (a + n) refl ∙ ap (λ s. s + f (a + n)) (sum_total f a n)

map_twice : {X Y Z : Type 0} (h : Y → Z) (g : X → Y) (xs : List X) → map h (map g xs) ≡ map (λ x. h (g x)) xs
map_twice h g [] = refl
map_twice h g (x ∷ xs) = ap (λ ys. h (g x) ∷ ys) (map_twice h g xs)

-- arrivals that keep to a bucket do so in each row of periods
pub row_keeps : {X : Type 0} (per burst rate : ℕ) (h : X → ℕ) (g : ℕ → X) (T a n : ℕ) → a + n ≤ T → KeepsTo per burst rate (map h (map g (range_with_len 0 T))) → per * total (λ t. h (g t)) a n ≤ per * burst + rate * n
row_keeps per burst rate h g T a n le keeps =
    let f : ℕ → ℕ = λ t. h (g t) in
    let rest : ℕ = T - (a + n) in
    let whole : T ≡ a + (n + rest) = omega arith in
    let from_a : 0 + a ≡ a = omega arith in
    let parts : map h (map g (range_with_len 0 T)) ≡ map f (range_with_len 0 a) ++ (map f (range_with_len a n) ++ map f (range_with_len (a + n) rest)) =
    map_twice h g (range_with_len 0 T) ∙ ap (λ k. map f (range_with_len 0 k)) whole ∙ range_parts f 0 a (n + rest)
    ∙ ap (λ y. map f (range_with_len 0 a) ++ map f (range_with_len y (n + rest))) from_a ∙ ap (λ ys. map f (range_with_len 0 a) ++ ys) (range_parts f a n rest) in
    let k = keeps (map f (range_with_len 0 a)) (map f (range_with_len a n)) (map f (range_with_len (a + n) rest)) parts in
    omega (arith, k, ap (λ s. per * s) (sum_total f a n), ap (λ s. rate * s) (length-map-range_with_len f a n))

-- totals of sums are sums of totals
pub total_sums : (x : ℕ → ℕ → ℕ) (a n : ℕ) (ks : List ℕ) → total (λ t. sum_by (λ k. x k t) ks) a n ≡ sum_by (λ k. total (x k) a n) ks
total_sums x a zero ks = sym (sum_by-zero ks)
total_sums x a (suc n) ks = ap (λ s. s + sum_by (λ k. x k (a + n)) ks) (total_sums x a n ks) ∙ sym (sum_by-add (λ k. total (x k) a n) (λ k. x k (a + n)) ks)

-- the arrivals of a list of periods, by their places
pub listed : (A : List (List ℕ)) (f : ℕ → List ℕ) (s : ℕ) → ((i : ℕ) → i < length A → f (s + i) ≡ get_or A i []) → map f (range_with_len s (length A)) ≡ A
listed [] f s same = refl
listed (a ∷ A) f s same =
    let place : s + 0 ≡ s = omega arith in
    let more = listed A f (s + 1) (λ i lt. (let next : s + 1 + i ≡ s + suc i = omega arith in ap f next) ∙ same (suc i) (omega arith)) in
    ap₂ ◌∷◌ (ap f (sym place) ∙ same 0 (omega arith)) more

pub from_none : (A : List (List ℕ)) (i : ℕ) → i < length A → get_or A (0 + i) [] ≡ get_or A i []
from_none A i lt = let e : 0 + i ≡ i = omega arith in ap (λ n. get_or A n []) e
