-- The law that a sum of what passes between links may be taken from either end.
use Rattle.std.specs.Prelude.{◌≡◌, ℕ, ◌*◌, sum_by, pos, ◌-ℤ◌, ◌*ℤ◌}
use Rattle.mp_model.specs.Network.{Network, movement_numbers, from_of, share_of, into_link}
use Rattle.mp_model.specs.Pressure.{queued_downstream, weight}
use Rattle.mp_model.specs.Sums.{int_sum_by}

-- What passes into links times the queues there is what passes times what is queued downstream, and so the share total times what passes times the queues, less this, is what passes times the weights.
pub record IsExchanged (net : Network) (y q : ℕ → ℕ) : Type 0 where
  pub sums : sum_by (λ k. q k * share_of net k * sum_by y (into_link net (from_of net k))) (movement_numbers net) ≡ sum_by (λ j. y j * queued_downstream net q j) (movement_numbers net)
  pub weights : pos (sum_by (λ k. net.shares * y k * q k) (movement_numbers net)) -ℤ pos (sum_by (λ k. q k * share_of net k * sum_by y (into_link net (from_of net k))) (movement_numbers net)) ≡ int_sum_by (λ k. pos (y k) *ℤ weight net q k) (movement_numbers net)

-- This holds of all lists of what passes and of queues.
abbrev pub ExchangeLaw : Type 0
ExchangeLaw = (net : Network) (y q : ℕ → ℕ) → IsExchanged net y q
