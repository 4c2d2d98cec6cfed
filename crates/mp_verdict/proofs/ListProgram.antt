-- The program of a junction as lists of rows, and its solution.
use Rattle.std.proofs.Common.{◌≡◌, ◌<◌, ℕ, List, [], ◌∷◌, length, get_or, map, ℤ, pos, ◌+ℤ◌, ◌*ℤ◌, ◌≤ℤ◌}
use Rattle.std.specs.List.{AllByRecursion}
use Rattle.mp_num.specs.Fraction.{Fraction}
use Rattle.mp_model.specs.Network.{Network, Junction, own}
use Rattle.mp_verdict.specs.Program.{stage_row}

pub record ListProgram : Type 0 where
  pub rows : List (List ℤ)
  pub b : List ℤ
  pub c : List ℤ

abbrev pub dot : List ℤ → List ℤ → ℤ
dot [] ys = pos 0
dot (x ∷ xs) [] = pos 0
dot (x ∷ xs) (y ∷ ys) = x *ℤ y +ℤ dot xs ys

abbrev pub column : ℕ → List (List ℤ) → List ℤ
column j rows = map (λ row. get_or row j (pos 0)) rows

-- each row is kept
abbrev pub AllKept : List (List ℤ) → List ℤ → List ℤ → ℤ → Type 0
AllKept [] b x z = Unit {0}
AllKept (row ∷ rows) [] x z = ⊥
AllKept (row ∷ rows) (most ∷ b) x z = (dot row x ≤ℤ (most *ℤ z)) × AllKept rows b x z

-- x over z and y over m are feasible and have one value
pub record AreBest (lp : ListProgram) (x : List ℤ) (z : ℤ) (y : List ℤ) (m : ℤ) (value : Fraction) : Type 0 where
  pub primal_den : pos 1 ≤ℤ z
  pub primal_sign : AllByRecursion (λ t. pos 0 ≤ℤ t) x
  pub primal_length : length x ≡ length lp.c
  pub primal : AllKept lp.rows lp.b x z
  pub dual_den : pos 1 ≤ℤ m
  pub dual_sign : AllByRecursion (λ t. pos 0 ≤ℤ t) y
  pub dual_length : length y ≡ length lp.rows
  pub dual : (j : ℕ) → j < length lp.c → (get_or lp.c j (pos 0) *ℤ m) ≤ℤ dot (column j lp.rows) y
  pub value_den : pos 1 ≤ℤ value.den
  pub primal_value : dot lp.c x *ℤ value.den ≡ value.num *ℤ z
  pub dual_value : dot lp.b y *ℤ value.den ≡ value.num *ℤ m

-- the program of a junction
abbrev pub junction_lp : Network → Junction → (ℕ → ℤ) → ListProgram
junction_lp net j h = record { rows = map (stage_row net (own net j)) j.stages; b = map (λ (t : List ℕ). pos 1) j.stages; c = map h (own net j) }

-- no row grows along x, and the objective does
pub record IsListRay (lp : ListProgram) (x : List ℤ) : Type 0 where
  pub sign : AllByRecursion (λ t. pos 0 ≤ℤ t) x
  pub same_length : length x ≡ length lp.c
  pub rows : AllByRecursion (λ row. dot row x ≤ℤ pos 0) lp.rows
  pub grows : pos 1 ≤ℤ dot lp.c x
