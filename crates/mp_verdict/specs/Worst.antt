-- The words of the laws of the vector, over natural numbers: flows and worths as functions of the link, values as functions of the movement.
use Rattle.std.specs.Prelude.{◌≡◌, ◌≤◌, ℕ, ◌+◌, ◌*◌, true, false, map, length, sum_by, List, Option, Some, None, ℤ, pos, ◌-ℤ◌, ◌*ℤ◌, unsigned_abs}
use Rattle.std.specs.List.{AllByRecursion}
use Rattle.mp_model.specs.Network.{Network, Junction, link_numbers, movement_numbers, junction_at, link_at, from_of, to_of, share_of, flow_of, into_link, out_of, stands_in, has}
use Rattle.mp_model.specs.Certificate.{int_entry}
use Rattle.mp_model.specs.Load.{greatest, load, capacity}

-- These are the entries of a list that has none below 0, as natural numbers.
abbrev pub naturals_in : List ℤ → ℕ → ℕ
naturals_in xs l = unsigned_abs (int_entry xs l)

-- The flows f and g over d are those of a network where at each link the share total times the flow is what the movements into it bring by their shares, and d times what comes from elsewhere: its rate for f, and one unit of slack on each movement into it for g.
pub record IsFlow (net : Network) (d : ℕ) (f g : ℕ → ℕ) : Type 0 where
  pub some : 1 ≤ d
  pub rate : AllByRecursion (λ l. net.shares * f l ≡ sum_by (λ j. share_of net j * f (from_of net j)) (into_link net l) + d * (net.shares * (link_at net l).rate)) (link_numbers net)
  pub unit : AllByRecursion (λ l. net.shares * g l ≡ sum_by (λ j. share_of net j * g (from_of net j)) (into_link net l) + d * (net.shares * length (into_link net l))) (link_numbers net)

-- This is the number at the link that a movement goes to, and 0 where it leaves the network.
abbrev pub ahead : (ℕ → ℕ) → Option ℕ → ℕ
ahead x None = 0
ahead x (Some l) = x l

-- The worths x over d belong to the values Z where at each link the share total times the worth is what the links behind its movements are worth by their shares, and d times what the values bring by their shares.
pub record IsWorth (net : Network) (d : ℕ) (Z x : ℕ → ℕ) : Type 0 where
  pub some : 1 ≤ d
  pub row : AllByRecursion (λ l. net.shares * x l ≡ sum_by (λ k. share_of net k * ahead x (to_of net k)) (out_of net l) + d * sum_by (λ k. share_of net k * Z k) (out_of net l)) (link_numbers net)

-- This is the vector of values and worths before it is reduced: the value of a movement times d, and the worth of the link that it goes to.
abbrev pub against : Network → ℕ → (ℕ → ℕ) → (ℕ → ℕ) → ℕ → ℕ
against net d Z x k = Z k * d + ahead x (to_of net k)

-- This is the sum over the movements of what the rates bring, times the values.
abbrev pub rate_weight : Network → (ℕ → ℕ) → (ℕ → ℕ) → ℕ
rate_weight net f Z = sum_by (λ k. share_of net k * f (from_of net k) * Z k) (movement_numbers net)

-- This is the sum over the movements of what one unit of slack brings, times the values.
abbrev pub unit_weight : Network → ℕ → (ℕ → ℕ) → (ℕ → ℕ) → ℕ
unit_weight net d g Z = sum_by (λ k. (share_of net k * g (from_of net k) + net.shares * d) * Z k) (movement_numbers net)

-- This is the greatest sum of flows times values over a stage of a junction.
abbrev pub stage_top : Network → (ℕ → ℕ) → Junction → ℕ
stage_top net Z j = greatest (map (sum_by (λ k. flow_of net k * Z k)) j.stages)

-- At the slack e over q the rates and the slack together bring to the values Z just what their greatest stage z can pass.
pub record IsSlackOf (net : Network) (d : ℕ) (f g Z : ℕ → ℕ) (z : ℕ) (e : ℤ) (q : ℕ) : Type 0 where
  pub some : 1 ≤ q
  pub equal : pos q *ℤ (pos (net.shares * net.per * d * z) -ℤ pos (rate_weight net f Z)) ≡ e *ℤ pos (net.per * unit_weight net d g Z)

-- Junction j with the values Z, their greatest stage z and the slack e over q is a worst junction where the values are 0 outside it and not all 0, and the slack is that of the values.
pub record IsWorst (net : Network) (d : ℕ) (f g : ℕ → ℕ) (j : ℕ) (Z : ℕ → ℕ) (z : ℕ) (e : ℤ) (q : ℕ) : Type 0 where
  pub is_junction : (1 ≤ j) × (j ≤ length net.junctions)
  pub outside : (k : ℕ) → has (movement_numbers net) k ≡ true → stands_in (junction_at net j) k ≡ false → Z k ≡ 0
  pub top : stage_top net Z (junction_at net j) ≡ z
  pub some : 1 ≤ sum_by Z (movement_numbers net)
  pub slack : IsSlackOf net d f g Z z e q

-- A vector shows the slack e over q, of whatever sign, where q times the margin of its capacity over its load is e times the share total, the rate length and the sum of the vector.
pub record ShowsSigned (net : Network) (p : ℕ → ℕ) (e : ℤ) (q : ℕ) : Type 0 where
  pub some : 1 ≤ sum_by p (movement_numbers net)
  pub equal : pos q *ℤ (pos (net.per * capacity net p) -ℤ pos (load net p)) ≡ e *ℤ pos (net.shares * net.per * sum_by p (movement_numbers net))

-- The vector p is the vector r divided by some number.
pub record IsDivided (net : Network) (r p : ℕ → ℕ) : Type 0 where
  pub factor : ℕ
  pub some : 1 ≤ factor
  pub at : (k : ℕ) → has (movement_numbers net) k ≡ true → r k ≡ factor * p k
