-- The arrivals that a run has taken.
use Rattle.std.specs.Prelude.{◌≡◌, ℕ, List}
use Rattle.std.specs.List.{AllByRecursion}
use Rattle.mp_model.specs.Network.{Network, link_numbers, link_at, entry}
use Rattle.mp_model.specs.Arrivals.{counts_of, level_after, IsPermitted}
use Rattle.mp_step.specs.Standing.{Standing}

-- A run has taken the arrivals of these periods where they are permitted, and each level is the bucket level after them.
pub record HasTaken (net : Network) (st : Standing) (A : List (List ℕ)) : Type 0 where
  pub permitted : IsPermitted net A
  pub levels : AllByRecursion (λ l. entry st.levels l ≡ level_after net.per (link_at net l).rate 0 (counts_of net A l)) (link_numbers net)
