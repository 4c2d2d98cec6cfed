-- Linear programs: c·x is to be great where a·x ≤ b and no x is negative. There are m rows and n columns, and a has its numbers row by row.
use Rattle.std.specs.Prelude.{◌≡◌, ℕ, ◌+◌, ◌*◌, ◌<◌, ℤ, pos, ◌*ℤ◌, ◌≤ℤ◌, ◌<ℤ◌, List, length}
use Rattle.mp_num.specs.Sums.{total}
use Rattle.mp_num.specs.Row.{entry}

-- A row's sum is that of its coefficients times the values of the columns.
abbrev pub row_sum : ℕ → List ℤ → List ℤ → ℕ → ℤ
row_sum n a x i = total n (λ k. entry a (i * n + k) *ℤ entry x k)

-- A column's sum is that of its coefficients times the values of the rows.
abbrev pub column_sum : ℕ → ℕ → List ℤ → List ℤ → ℕ → ℤ
column_sum m n a y k = total m (λ i. entry a (i * n + k) *ℤ entry y i)

-- The product of two lists is the sum of the products of their first n numbers.
abbrev pub product : ℕ → List ℤ → List ℤ → ℤ
product n c x = total n (λ k. entry c k *ℤ entry x k)

-- A primal, x over d, has a value of at least 0 for each column and keeps each row's sum at most at its right side.
pub record IsPrimal (m n : ℕ) (a b x : List ℤ) (d : ℤ) : Type 0 where
  pub size : length x ≡ n
  pub positive : pos 1 ≤ℤ d
  pub not_negative : (k : ℕ) → k < n → pos 0 ≤ℤ entry x k
  pub rows : (i : ℕ) → i < m → row_sum n a x i ≤ℤ (entry b i *ℤ d)

-- A dual, y over d, has a value of at least 0 for each row and keeps each column's sum at least at its coefficient of the objective.
pub record IsDual (m n : ℕ) (a c y : List ℤ) (d : ℤ) : Type 0 where
  pub size : length y ≡ m
  pub positive : pos 1 ≤ℤ d
  pub not_negative : (i : ℕ) → i < m → pos 0 ≤ℤ entry y i
  pub columns : (k : ℕ) → k < n → (entry c k *ℤ d) ≤ℤ column_sum m n a y k

-- A ray has a value of at least 0 for each column; along it no row's sum grows, and the objective does.
pub record IsRay (m n : ℕ) (a c x : List ℤ) : Type 0 where
  pub size : length x ≡ n
  pub not_negative : (k : ℕ) → k < n → pos 0 ≤ℤ entry x k
  pub rows : (i : ℕ) → i < m → row_sum n a x i ≤ℤ pos 0
  pub gains : pos 0 <ℤ product n c x
