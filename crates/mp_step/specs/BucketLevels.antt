-- What a period does to the bucket levels of the links, where these are given by the number of the link.
use Rattle.std.specs.Prelude.{◌≤◌, ℕ, ◌*◌, Bool, not, nat_le, List, [], ◌∷◌, map, find, Option, ◌↔◌}
use Rattle.mp_model.specs.Network.{Network, link_numbers, link_at, fed}
use Rattle.mp_model.specs.Arrivals.{arrivals_of, next_level}
use Rattle.mp_feed.specs.Fill.{Fill}

-- This is the empty bucket of link l.
abbrev pub bucket_of : Network → ℕ → Fill
bucket_of net l = record { per = net.per; burst = (link_at net l).burst; rate = (link_at net l).rate; level = 0 }

-- These are the empty buckets of the links.
abbrev pub buckets_of : Network → List Fill
buckets_of net = map (bucket_of net) (link_numbers net)

-- There is a level for each bucket, and it is at most the rate length times the burst.
abbrev pub AreWithin : List Fill → List ℕ → Type 0
AreWithin [] [] = Unit {0}
AreWithin (fill ∷ fills) (level ∷ levels) = (level ≤ fill.per * fill.burst) × AreWithin fills levels
AreWithin [] (level ∷ levels) = ⊥
AreWithin (fill ∷ fills) [] = ⊥

-- This is the level of link l after a period with these arrivals.
abbrev pub level_then : Network → (ℕ → ℕ) → List ℕ → ℕ → ℕ
level_then net level counts l = next_level net.per (link_at net l).rate (level l) (arrivals_of net counts l)

-- Link l would be above its bucket after a period with these arrivals.
abbrev pub is_above : Network → (ℕ → ℕ) → List ℕ → ℕ → Bool
is_above net level counts l = not (nat_le (level_then net level counts l) (net.per * (link_at net l).burst))

-- This is the least fed link that would be above its bucket after a period with these arrivals, if there is one.
abbrev pub first_above : Network → (ℕ → ℕ) → List ℕ → Option ℕ
first_above net level counts = find (is_above net level counts) (fed net)

-- Link l has room for n vehicles: a count of arrivals leaves it within its bucket exactly where it is at most n.
abbrev pub IsRoom : Network → (ℕ → ℕ) → ℕ → ℕ → Type 0
IsRoom net level l n = (count : ℕ) → (next_level net.per (link_at net l).rate (level l) count ≤ net.per * (link_at net l).burst) ↔ (count ≤ n)
