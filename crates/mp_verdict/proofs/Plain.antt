-- Rates, programs and mixes over natural numbers, which the proofs speak of.
use Rattle.std.proofs.Common.{◌≡◌, ◌==◌, ◌≤◌, ℕ, ◌+◌, ◌*◌, true, cond, List, [], ◌∷◌, length, sum_by, ℤ, pos, ◌+ℤ◌, ◌*ℤ◌, ◌≤ℤ◌, unsigned_abs}
use Rattle.std.specs.List.{AllByRecursion}
use Rattle.mp_model.specs.Sums.{int_sum_by}
use Rattle.mp_model.specs.Network.{Network, Junction, movement_numbers, from_of, share_of, flow_of, own, has}
use Rattle.mp_laws.proofs.PlainCertificate.{PlainMix, plain_parts_with}
use Rattle.mp_verdict.specs.Worst.{IsWorst, stage_top}

-- what one unit of slack asks of a movement, and what its rate asks, in units of W·H·c
abbrev pub unit_asked : Network → ℕ → (ℕ → ℕ) → ℕ → ℕ
unit_asked net c g k = share_of net k * g (from_of net k) + net.shares * c

abbrev pub asked : Network → ℕ → (ℕ → ℕ) → (ℕ → ℕ) → ℤ → ℕ → ℕ → ℤ
asked net c f g e q k = pos (share_of net k * f (from_of net k) * q) +ℤ (e *ℤ pos (net.per * unit_asked net c g k))

-- D, E and h are what is asked at the slack e over q, over a common factor
pub record AreRates (net : Network) (c : ℕ) (f g : ℕ → ℕ) (e : ℤ) (q D : ℕ) (E : ℤ) (h : ℕ → ℤ) : Type 0 where
  pub factor : ℕ
  pub some : 1 ≤ factor
  pub whole : net.shares * net.per * c * q ≡ factor * D
  pub excess : pos (net.shares * net.per * c) *ℤ e ≡ pos factor *ℤ E
  pub rate : (k : ℕ) → has (movement_numbers net) k ≡ true → asked net c f g e q k ≡ pos factor *ℤ h k

-- the junction has a mix of its stages that serves what is asked at the slack e over q
pub record CarriesAt (net : Network) (c : ℕ) (f g : ℕ → ℕ) (e : ℤ) (q : ℕ) (j : Junction) : Type 0 where
  pub plan : PlainMix
  pub whole : 1 ≤ plan.whole
  pub lengths : length plan.parts ≡ length j.stages
  pub mass : sum_by (λ x. x) plan.parts ≤ plan.whole * (net.shares * net.per * c * q)
  pub serve : AllByRecursion (λ k. (pos plan.whole *ℤ asked net c f g e q k) ≤ℤ pos (flow_of net k * plain_parts_with j.stages plan.parts k)) (own net j)

abbrev pub objective : Network → Junction → (ℕ → ℤ) → (ℕ → ℕ) → ℤ
objective net j h Z = int_sum_by (λ k. h k *ℤ pos (Z k)) (own net j)

-- Z over z is feasible, the plan is a feasible dual, and both have one value
pub record IsBest (net : Network) (j : Junction) (h : ℕ → ℤ) (Z : ℕ → ℕ) (z : ℕ) (plan : PlainMix) : Type 0 where
  pub some : 1 ≤ z
  pub primal : stage_top net Z j ≤ z
  pub whole : 1 ≤ plan.whole
  pub lengths : length plan.parts ≡ length j.stages
  pub dual : AllByRecursion (λ k. (pos plan.whole *ℤ h k) ≤ℤ pos (flow_of net k * plain_parts_with j.stages plan.parts k)) (own net j)
  pub value : pos plan.whole *ℤ objective net j h Z ≡ pos (z * sum_by (λ x. x) plan.parts)

-- the value beside a number in two lists; 0 where the number is not there
abbrev pub values_of : List ℕ → List ℤ → ℕ → ℕ
values_of [] zs m = 0
values_of (k ∷ ks) [] m = 0
values_of (k ∷ ks) (z ∷ zs) m = cond (k == m) (unsigned_abs z) (values_of ks zs m)

-- where the game ends
pub record IsEnd (net : Network) (c : ℕ) (f g : ℕ → ℕ) (j : ℕ) (Z : ℕ → ℕ) (z : ℕ) (e : ℤ) (q : ℕ) : Type 0 where
  pub worst : IsWorst net c f g j Z z e q
  pub carries : AllByRecursion (CarriesAt net c f g e q) net.junctions
