-- Arrivals that come as evenly as whole vehicles can.
use Rattle.std.specs.Prelude.{◌==◌, ℕ, ◌-◌, ◌*◌, ◌/◌, ◌%◌, Bool, ◌&&◌, not, List, map, find, Option}
use Rattle.mp_model.specs.Network.{Network, Link, link_at, fed, numbers_to}

-- By the end of period t as many vehicles have come as the rate allows in t periods, rounded down.
abbrev pub come_by : ℕ → ℕ → ℕ → ℕ
come_by per rate t = rate * t / per

-- This is the even count of period t: how many come by its end and had not come by the end of the period before.
abbrev pub even_count : ℕ → ℕ → ℕ → ℕ
even_count per rate t = come_by per rate t - come_by per rate (t - 1)

-- This is the even count of link l in period t.
abbrev pub even_count_on : Network → ℕ → ℕ → ℕ
even_count_on net t l = even_count net.per (link_at net l).rate t

-- These are the even arrivals of period t: the even count of each fed link.
abbrev pub even_arrivals : Network → ℕ → List ℕ
even_arrivals net t = map (even_count_on net t) (fed net)

-- These are the even arrivals of the periods from 1 to T.
abbrev pub even_periods : Network → ℕ → List (List ℕ)
even_periods net T = map (even_arrivals net) (numbers_to T)

-- A link is uneven where it has a burst of 0 and a rate that is not a multiple of the rate length.
abbrev pub is_uneven : ℕ → Link → Bool
is_uneven per link = (link.burst == 0) && not (link.rate % per == 0)

-- This is the least fed link that is uneven, if there is one.
abbrev pub uneven_link : Network → Option ℕ
uneven_link net = find (λ l. is_uneven net.per (link_at net l)) (fed net)
