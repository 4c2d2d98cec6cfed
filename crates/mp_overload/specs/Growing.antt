-- How fast the queues that a vector weighs grow under even arrivals, whatever stages the junctions show.
use Rattle.std.specs.Prelude.{ℕ, ◌+◌, ◌-◌, ◌*◌, List, length, filter, sum_by, nat_lt, ℤ, pos, ◌-ℤ◌, ◌*ℤ◌, ◌≤ℤ◌}
use Rattle.mp_model.specs.Load.{load, capacity}
use Rattle.mp_model.specs.Network.{Network, movement_numbers, from_of, share_of, rate_before, out_of}

-- The growth a period of a vector is its load less the rate length times its capacity; it may be below 0.
abbrev pub growth : Network → (ℕ → ℕ) → ℤ
growth net p = pos (load net p) -ℤ pos (net.per * capacity net p)

-- These are the movements out of links with a rate above 0.
abbrev pub rated : Network → List ℕ
rated net = filter (λ k. nat_lt 0 (rate_before net k)) (movement_numbers net)

-- Even counts, which are rounded down, lose at most the rate length less 1, times the sum over those movements of the vector times the share.
abbrev pub lost_to_counts : Network → (ℕ → ℕ) → ℕ
lost_to_counts net p = (net.per - 1) * sum_by (λ k. p k * share_of net k) (rated net)

-- Where d movements leave its link, movement k may lack (d - 1) times the share total less 1 of its exact share, times the share total; this is the vector times that.
abbrev pub lost_to_split : Network → (ℕ → ℕ) → ℕ → ℕ
lost_to_split net p k = p k * (length (out_of net (from_of net k)) - 1) * (net.shares - 1)

-- What is lost to rounding in all, in however many periods, is what is lost to counts, plus the rate length times what is lost to the splits.
abbrev pub lost_to_rounding : Network → (ℕ → ℕ) → ℕ
lost_to_rounding net p = lost_to_counts net p + net.per * sum_by (lost_to_split net p) (movement_numbers net)

-- The queues that a vector weighs are the share total times the rate length, times the sum of the vector times the queues.
abbrev pub weighed_queues : Network → (ℕ → ℕ) → (ℕ → ℕ) → ℕ
weighed_queues net p q = net.shares * net.per * sum_by (λ k. p k * q k) (movement_numbers net)

-- After T periods the queues that the vector weighs are at least T times its growth a period, less what is lost to rounding.
abbrev pub HasGrown : Network → (ℕ → ℕ) → ℕ → (ℕ → ℕ) → Type 0
HasGrown net p T q = (pos T *ℤ growth net p -ℤ pos (lost_to_rounding net p)) ≤ℤ pos (weighed_queues net p q)
