-- The stated calculations of the growth of a vector, and of the queues that it weighs.
use Rattle.std.specs.Prelude.{ℕ, ◌-◌, ◌*◌, List, length, map, unsigned_abs, ℤ, pos, Option, Some, option_map}
use Rattle.std.specs.Int.{int_max}
use Rattle.mp_model.specs.Certificate.{int_entry}
use Rattle.mp_model.specs.Network.{Network, movement_numbers, from_of, share_of, out_of, entry}
use Rattle.mp_num.specs.Operations.{times, plus, less, num, summed}
use Rattle.mp_overload.specs.Growing.{rated}

-- This is the number of movement k in a vector that is given in signed numbers of at least 0.
abbrev pub natural_entry : List ℤ → ℕ → ℕ
natural_entry p k = entry (map unsigned_abs p) k

-- The growth a period is the load of the vector less what is served, which is the rate length times its capacity.
unfoldable pub growth_formed : ℤ → ℤ → Option ℤ
growth_formed load served = less (Some load) (Some served)

-- This is the number of movement k times its share.
unfoldable pub shared : Network → List ℤ → ℕ → Option ℤ
shared net p k = times (Some (int_entry p k)) (num (share_of net k))

-- What is lost to counts is the rate length less 1, times the sum of these over the movements out of links with a rate above 0.
unfoldable pub counts_formed : Network → List ℤ → Option ℤ
counts_formed net p = times (num (net.per - 1)) (summed (shared net p) (rated net))

-- This is the number of movement k times the number of the other movements out of its link, and that times the share total less 1.
unfoldable pub split_formed : Network → List ℤ → ℕ → Option ℤ
split_formed net p k = times (times (Some (int_entry p k)) (num (length (out_of net (from_of net k)) - 1))) (num (net.shares - 1))

-- What is lost to rounding is what is lost to counts, plus the rate length times the sum of these.
unfoldable pub lost_formed : Network → List ℤ → Option ℤ
lost_formed net p = plus (counts_formed net p) (times (num net.per) (summed (split_formed net p) (movement_numbers net)))

-- This is the number of movement k times its queue.
unfoldable pub weighed : Network → List ℤ → (ℕ → ℕ) → ℕ → Option ℤ
weighed net p q k = times (Some (int_entry p k)) (num (q k))

-- The queues that the vector weighs are the share total times the rate length, times the sum of these, which is formed first.
unfoldable pub queues_formed : Network → List ℤ → (ℕ → ℕ) → Option ℤ
queues_formed net p q = times (num (net.shares * net.per)) (summed (weighed net p q) (movement_numbers net))

-- The least that the queues have come to after T periods is the greater of 0 and T times the growth, less what is lost.
unfoldable pub least_formed : ℕ → ℤ → ℤ → Option ℤ
least_formed T growth lost = option_map (int_max (pos 0)) (less (times (num T) (Some growth)) (Some lost))
