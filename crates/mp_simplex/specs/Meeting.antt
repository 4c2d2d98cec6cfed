-- The words of the public clauses.
use Rattle.std.specs.Prelude.{◌≡◌, ℕ, ◌*◌, ◌<◌, ℤ, pos, ◌*ℤ◌, ◌≤ℤ◌, List, length, Result, Ok, Err}
use Rattle.mp_num.specs.Fraction.{Fraction}
use Rattle.mp_num.specs.Row.{entry}
use Rattle.mp_simplex.specs.declared.Lp.{Lp}
use Rattle.mp_simplex.specs.declared.Optimum.{Optimum}
use Rattle.mp_simplex.specs.declared.LpFault.{LpFault}
use Rattle.mp_simplex.specs.declared.LpFault.TheVariants.{Unbounded, Overflow, PivotLimit, NoMemory}
use Rattle.mp_simplex.specs.Optimal.{product, IsPrimal, IsDual, IsRay}
use Rattle.mp_simplex.specs.Outcome.{Outcome, Optimal, Ray, Passes, Limit}

-- A program has its sizes where it has a coefficient for each row and column, a right side for each row and an objective for each column.
pub record HasSizes (lp : Lp) : Type 0 where
  pub coefficients : length lp.a ≡ lp.rows * lp.cols
  pub right_sides : length lp.b ≡ lp.rows
  pub objective : length lp.c ≡ lp.cols

-- A program begins at 0 where none of its right sides is negative.
pub record BeginsAtZero (lp : Lp) : Type 0 where
  pub at : (i : ℕ) → i < lp.rows → pos 0 ≤ℤ entry lp.b i

-- A result meets an outcome where it says the same; out of memory says nothing.
abbrev pub Meets : Result Optimum LpFault → Outcome → Type 0
Meets (Ok optimum) outcome = outcome ≡ Optimal optimum
Meets (Err (Unbounded ray)) outcome = outcome ≡ Ray ray
Meets (Err (Overflow pivots)) outcome = outcome ≡ Passes pivots
Meets (Err PivotLimit) outcome = outcome ≡ Limit
Meets (Err NoMemory) outcome = Unit {0}

-- An optimum has a primal and a dual of one value.
pub record IsOptimum (lp : Lp) (o : Optimum) : Type 0 where
  pub primal : IsPrimal lp.rows lp.cols lp.a lp.b o.primal o.primal_den
  pub dual : IsDual lp.rows lp.cols lp.a lp.c o.dual o.dual_den
  pub value_positive : pos 1 ≤ℤ o.value.den
  pub primal_value : product lp.cols lp.c o.primal *ℤ o.value.den ≡ o.value.num *ℤ o.primal_den
  pub dual_value : product lp.rows lp.b o.dual *ℤ o.value.den ≡ o.value.num *ℤ o.dual_den

-- The greatest value is one that no primal is above.
pub record IsGreatest (lp : Lp) (value : Fraction) : Type 0 where
  pub at : (x : List ℤ) (d : ℤ) → IsPrimal lp.rows lp.cols lp.a lp.b x d → (product lp.cols lp.c x *ℤ value.den) ≤ℤ (value.num *ℤ d)

-- A result is right where it is an optimum with the greatest value, or a ray; the other faults say nothing of the program.
abbrev pub IsRight : Lp → Result Optimum LpFault → Type 0
IsRight lp (Ok optimum) = IsOptimum lp optimum × IsGreatest lp optimum.value
IsRight lp (Err (Unbounded ray)) = IsRay lp.rows lp.cols lp.a lp.c ray
IsRight lp (Err (Overflow pivots)) = Unit {0}
IsRight lp (Err PivotLimit) = Unit {0}
IsRight lp (Err NoMemory) = Unit {0}

-- An optimum fits a program where it has a number for each column and row, over denominators of at least 1.
pub record FitsProgram (lp : Lp) (o : Optimum) : Type 0 where
  pub primal : length o.primal ≡ lp.cols
  pub dual : length o.dual ≡ lp.rows
  pub primal_den : pos 1 ≤ℤ o.primal_den
  pub dual_den : pos 1 ≤ℤ o.dual_den
