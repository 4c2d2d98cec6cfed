-- a row times values that come in four parts: the factor's place, the columns, the slacks and the right side
use Rattle.std.proofs.Common.{◌≡◌, ℕ, zero, suc, ◌+◌, ◌-◌, ◌*◌, ◌<◌, List, ℤ, pos, ◌+ℤ◌, ◌-ℤ◌, ◌*ℤ◌, true, false, refl, ap, ap₂, ◌∙◌, arith, nat_eq, nat_lt, cond, add-one}
use Rattle.std.proofs.lemmas.Int.{ints}
use Rattle.mp_num.specs.Sums.{total}
use Rattle.mp_num.specs.Row.{entry, applied}
use Rattle.mp_num.proofs.Ring.{diff_of, differences, diff-eq, pos_diff}
use Rattle.mp_num.proofs.SumLemmas.{total-same, total-one, total-zero, total-split}
use Rattle.mp_simplex.specs.Tableau.{row_of}
use Rattle.mp_simplex.proofs.TableauFacts.{IsInitial}

pub zero_times : (y : ℤ) → pos 0 *ℤ y ≡ pos 0
zero_times y = omega (arith, ints)

pub times_zero : (y : ℤ) → y *ℤ pos 0 ≡ pos 0
times_zero y = omega (arith, ints)

pub one_times : (y : ℤ) → pos 1 *ℤ y ≡ y
one_times y = omega (arith, ints)

pub times_one : (y : ℤ) → y *ℤ pos 1 ≡ y
times_one y = omega (arith, ints)

first_law : (a b : ℤ) → pos 0 +ℤ a +ℤ b ≡ a +ℤ b
first_law a b = omega (arith, ints)

total-parts : (n m : ℕ) (f : ℕ → ℤ) → total ((1 + n + m) + 1) f ≡ ((f 0 +ℤ total n (λ k. f (1 + k))) +ℤ total m (λ l. f (1 + n + l))) +ℤ f (1 + n + m)
total-parts n m f =
    let one : total 1 f ≡ f 0 = plain (f 0) in
    rw add-one (ap (λ s. s +ℤ f (1 + n + m)) (total-split (1 + n) m f ∙ ap (λ s. s +ℤ total m (λ l. f (1 + n + l))) (total-split 1 n f ∙ ap (λ s. s +ℤ total n (λ k. f (1 + k))) one)))
  where
    plain : (x : ℤ) → pos 0 +ℤ x ≡ x
    plain x = omega (arith, ints)

-- the first table's row of slack i times any values
pub initial_row : (m n : ℕ) (a b c : List ℤ) (rows : List (List ℤ)) (y : ℕ → ℤ) (i : ℕ) → IsInitial m n a b c rows → i < m →
    applied ((1 + n + m) + 1) (row_of rows (1 + i)) y ≡ (total n (λ k. entry a (i * n + k) *ℤ y (1 + k)) +ℤ y (1 + n + i)) +ℤ entry b i *ℤ y (1 + n + m)
initial_row m n a b c rows y i s h =
    let row : List ℤ = row_of rows (1 + i) in
    let f : ℕ → ℤ = λ k. entry row k *ℤ y k in
    let none : f 0 ≡ pos 0 = ap (λ t. t *ℤ y 0) (s.zero i h) ∙ zero_times (y 0) in
    let columns : total n (λ k. f (1 + k)) ≡ total n (λ k. entry a (i * n + k) *ℤ y (1 + k)) = total-same n (λ k. f (1 + k)) (λ k. entry a (i * n + k) *ℤ y (1 + k)) (λ k l. ap (λ t. t *ℤ y (1 + k)) (s.coefficients i k h l)) in
    let slacks : total m (λ l. f (1 + n + l)) ≡ y (1 + n + i) =
    total-one m i (λ l. f (1 + n + l)) h (λ l q apart. ap (λ t. t *ℤ y (1 + n + l)) (s.others i l h q apart) ∙ zero_times (y (1 + n + l)))
    ∙ ap (λ t. t *ℤ y (1 + n + i)) (s.own i h) ∙ one_times (y (1 + n + i)) in
    let last : f (1 + n + m) ≡ entry b i *ℤ y (1 + n + m) = ap (λ t. t *ℤ y (1 + n + m)) (s.right_side i h) in
    total-parts n m f ∙ joined (f 0) (total n (λ k. f (1 + k))) (total m (λ l. f (1 + n + l))) (f (1 + n + m)) (total n (λ k. entry a (i * n + k) *ℤ y (1 + k))) (y (1 + n + i)) (entry b i *ℤ y (1 + n + m)) none columns slacks last
  where
    joined : (p q r s u v w : ℤ) → p ≡ pos 0 → q ≡ u → r ≡ v → s ≡ w → ((p +ℤ q) +ℤ r) +ℤ s ≡ (u +ℤ v) +ℤ w
    joined p q r s u v w e f g h = omega (arith, ints)

negative_law : (c x : ℤ) → (pos 0 -ℤ c) *ℤ x ≡ pos 0 -ℤ c *ℤ x
negative_law c x = rw (pos_diff 0, diff_of c, diff_of x) (simp differences (diff-eq _ _ _ _ (omega arith)))

minus_sum : (s x : ℤ) → (pos 0 -ℤ s) +ℤ (pos 0 -ℤ x) ≡ pos 0 -ℤ (s +ℤ x)
minus_sum s x = omega (arith, ints)

pub total-minus : (n : ℕ) (f : ℕ → ℤ) → total n (λ k. pos 0 -ℤ f k) ≡ pos 0 -ℤ total n f
total-minus zero f = refl
total-minus (suc n) f = ap (λ s. s +ℤ (pos 0 -ℤ f n)) (total-minus n f) ∙ minus_sum (total n f) (f n)

-- the first table's row 0 times any values
pub initial_costs : (m n : ℕ) (a b c : List ℤ) (rows : List (List ℤ)) (y : ℕ → ℤ) → IsInitial m n a b c rows →
    applied ((1 + n + m) + 1) (row_of rows 0) y ≡ y 0 -ℤ total n (λ k. entry c k *ℤ y (1 + k))
initial_costs m n a b c rows y s =
    let row : List ℤ = row_of rows 0 in
    let f : ℕ → ℤ = λ k. entry row k *ℤ y k in
    let first : f 0 ≡ y 0 = ap (λ t. t *ℤ y 0) s.factor ∙ one_times (y 0) in
    let columns : total n (λ k. f (1 + k)) ≡ pos 0 -ℤ total n (λ k. entry c k *ℤ y (1 + k)) =
    total-same n (λ k. f (1 + k)) (λ k. pos 0 -ℤ entry c k *ℤ y (1 + k)) (λ k l. ap (λ t. t *ℤ y (1 + k)) (s.costs k l) ∙ negative_law (entry c k) (y (1 + k)))
    ∙ total-minus n (λ k. entry c k *ℤ y (1 + k)) in
    let slacks : total m (λ l. f (1 + n + l)) ≡ pos 0 = total-zero m (λ l. f (1 + n + l)) (λ l q. ap (λ t. t *ℤ y (1 + n + l)) (s.rest (1 + n + l) (omega arith)) ∙ zero_times (y (1 + n + l))) in
    let last : f (1 + n + m) ≡ pos 0 = ap (λ t. t *ℤ y (1 + n + m)) (s.rest (1 + n + m) (omega arith)) ∙ zero_times (y (1 + n + m)) in
    total-parts n m f ∙ joined (f 0) (total n (λ k. f (1 + k))) (total m (λ l. f (1 + n + l))) (f (1 + n + m)) (y 0) (total n (λ k. entry c k *ℤ y (1 + k))) first columns slacks last
  where
    joined : (p q r s u v : ℤ) → p ≡ u → q ≡ pos 0 -ℤ v → r ≡ pos 0 → s ≡ pos 0 → ((p +ℤ q) +ℤ r) +ℤ s ≡ u -ℤ v
    joined p q r s u v e f g h = omega (arith, ints)

-- ---- values in four parts
abbrev pub parts : ℕ → ℕ → ℤ → (ℕ → ℤ) → (ℕ → ℤ) → ℤ → ℕ → ℤ
parts n m first columns slacks last p =
    cond {A = ℤ} (nat_eq p 0) first (cond {A = ℤ} (nat_lt p (1 + n)) (columns (p - 1)) (cond {A = ℤ} (nat_lt p (1 + n + m)) (slacks (p - (1 + n))) last))

parts_column : (n m : ℕ) (first : ℤ) (columns slacks : ℕ → ℤ) (last : ℤ) (k : ℕ) → k < n → parts n m first columns slacks last (1 + k) ≡ columns k
parts_column n m first columns slacks last k h =
    let p : nat_eq (1 + k) 0 ≡ false = grind arith in let q : nat_lt (1 + k) (1 + n) ≡ true = grind arith in let e : 1 + k - 1 ≡ k = omega arith in rw (p, q, e) refl

parts_slack : (n m : ℕ) (first : ℤ) (columns slacks : ℕ → ℤ) (last : ℤ) (l : ℕ) → l < m → parts n m first columns slacks last (1 + n + l) ≡ slacks l
parts_slack n m first columns slacks last l h =
    let p : nat_eq (1 + n + l) 0 ≡ false = grind arith in let q : nat_lt (1 + n + l) (1 + n) ≡ false = grind arith in let r : nat_lt (1 + n + l) (1 + n + m) ≡ true = grind arith in
    let e : 1 + n + l - (1 + n) ≡ l = omega arith in rw (p, q, r, e) refl

parts_last : (n m : ℕ) (first : ℤ) (columns slacks : ℕ → ℤ) (last : ℤ) → parts n m first columns slacks last (1 + n + m) ≡ last
parts_last n m first columns slacks last =
    let p : nat_eq (1 + n + m) 0 ≡ false = grind arith in let q : nat_lt (1 + n + m) (1 + n) ≡ false = grind arith in let r : nat_lt (1 + n + m) (1 + n + m) ≡ false = grind arith in rw (p, q, r) refl

pub applied-parts : (n m : ℕ) (row : List ℤ) (first : ℤ) (columns slacks : ℕ → ℤ) (last : ℤ) →
    applied ((1 + n + m) + 1) row (parts n m first columns slacks last) ≡ ((entry row 0 *ℤ first +ℤ total n (λ k. entry row (1 + k) *ℤ columns k)) +ℤ total m (λ l. entry row (1 + n + l) *ℤ slacks l)) +ℤ entry row (1 + n + m) *ℤ last
applied-parts n m row first columns slacks last =
    let y : ℕ → ℤ = parts n m first columns slacks last in
    total-parts n m (λ k. entry row k *ℤ y k)
    ∙ ap₂ (λ s t. s +ℤ t)
    (ap₂ (λ s t. (entry row 0 *ℤ first +ℤ s) +ℤ t)
    (total-same n (λ k. entry row (1 + k) *ℤ y (1 + k)) (λ k. entry row (1 + k) *ℤ columns k) (λ k l. ap (λ t. entry row (1 + k) *ℤ t) (parts_column n m first columns slacks last k l)))
    (total-same m (λ l. entry row (1 + n + l) *ℤ y (1 + n + l)) (λ l. entry row (1 + n + l) *ℤ slacks l) (λ k l. ap (λ t. entry row (1 + n + k) *ℤ t) (parts_slack n m first columns slacks last k l))))
    (ap (λ t. entry row (1 + n + m) *ℤ t) (parts_last n m first columns slacks last))

-- the first table's rows times values in four parts
pub initial_row-parts : (m n : ℕ) (a b c : List ℤ) (rows : List (List ℤ)) (i : ℕ) (first : ℤ) (columns slacks : ℕ → ℤ) (last : ℤ) → IsInitial m n a b c rows → i < m →
    applied ((1 + n + m) + 1) (row_of rows (1 + i)) (parts n m first columns slacks last) ≡ (total n (λ k. entry a (i * n + k) *ℤ columns k) +ℤ slacks i) +ℤ entry b i *ℤ last
initial_row-parts m n a b c rows i first columns slacks last s h =
    let y : ℕ → ℤ = parts n m first columns slacks last in
    initial_row m n a b c rows y i s h ∙ ap₂ (λ s t. s +ℤ t)
    (ap₂ (λ s t. s +ℤ t) (total-same n (λ k. entry a (i * n + k) *ℤ y (1 + k)) (λ k. entry a (i * n + k) *ℤ columns k) (λ k l. ap (λ t. entry a (i * n + k) *ℤ t) (parts_column n m first columns slacks last k l))) (parts_slack n m first columns slacks last i h))
    (ap (λ t. entry b i *ℤ t) (parts_last n m first columns slacks last))

pub initial_costs-parts : (m n : ℕ) (a b c : List ℤ) (rows : List (List ℤ)) (first : ℤ) (columns slacks : ℕ → ℤ) (last : ℤ) → IsInitial m n a b c rows →
    applied ((1 + n + m) + 1) (row_of rows 0) (parts n m first columns slacks last) ≡ first -ℤ total n (λ k. entry c k *ℤ columns k)
initial_costs-parts m n a b c rows first columns slacks last s =
    let y : ℕ → ℤ = parts n m first columns slacks last in
    initial_costs m n a b c rows y s ∙ ap (λ t. first -ℤ t) (total-same n (λ k. entry c k *ℤ y (1 + k)) (λ k. entry c k *ℤ columns k) (λ k l. ap (λ t. entry c k *ℤ t) (parts_column n m first columns slacks last k l)))
