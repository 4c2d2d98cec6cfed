-- A solved program of a junction, over natural numbers.
use Rattle.std.proofs.Common.{◌≡◌, ℕ, map, sum_by, ℤ, pos, ◌*ℤ◌, ◌≤ℤ◌, unsigned_abs}
use Rattle.std.specs.List.{AllByRecursion}
use Rattle.mp_model.specs.Network.{Network, Junction, own}
use Rattle.mp_laws.proofs.PlainCertificate.{PlainMix}
use Rattle.mp_simplex.specs.declared.Optimum.{Optimum}
use Rattle.mp_verdict.proofs.Plain.{IsBest, values_of}

abbrev pub plan_of : Optimum → PlainMix
plan_of o = record { whole = unsigned_abs o.dual_den; parts = map unsigned_abs o.dual }

-- the optimum solves the program of the junction
pub record IsSolved (net : Network) (j : Junction) (h : ℕ → ℤ) (o : Optimum) : Type 0 where
  pub values : AllByRecursion (λ z. pos 0 ≤ℤ z) o.primal
  pub den : pos 1 ≤ℤ o.primal_den
  pub optimum : IsBest net j h (values_of (own net j) o.primal) (unsigned_abs o.primal_den) (plan_of o)
  pub whole : pos 1 ≤ℤ o.dual_den
  pub parts : AllByRecursion (λ z. pos 0 ≤ℤ z) o.dual
  pub value_den : pos 1 ≤ℤ o.value.den
  pub value : (pos (sum_by (λ y. y) (plan_of o).parts) *ℤ o.value.den) ≡ (o.value.num *ℤ pos (plan_of o).whole)
