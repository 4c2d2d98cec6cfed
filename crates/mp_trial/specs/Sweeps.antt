-- The sweeps of a trial: rates over a denominator grow from 0 until each movement has what comes to it and an excess beside.
use Rattle.std.specs.Prelude.{◌==◌, ℕ, zero, suc, ◌+◌, ◌-◌, ◌*◌, ◌/◌, Bool, ◌||◌, nat_lt, List, map, sum_by, Option}
use Rattle.std.specs.List.{list_any, list_all, find, range_with_len}
use Rattle.mp_model.specs.Network.{Network, movement_numbers, from_of, share_of, flow_of, link_at, into_link, entry}

-- This is the limit of sweeps of a trial.
abbrev pub sweep_limit : ℕ
sweep_limit = 131072

-- This is the first number over the second, rounded up.
abbrev pub rounded_up : ℕ → ℕ → ℕ
rounded_up a b = (a + (b - 1)) / b

-- This is what comes to link l at some rates over the denominator D, in vehicles per rate length: the link's own rate, and the rates of the movements into it.
abbrev pub brought_to : Network → ℕ → List ℕ → ℕ → ℕ
brought_to net D h l = D * (link_at net l).rate + net.per * sum_by (entry h) (into_link net l)

-- This is what movement k has to carry at some rates, times the share total and the rate length: its share of what comes to its link, and the excess e.
abbrev pub burden : Network → ℕ → ℕ → List ℕ → ℕ → ℕ
burden net D e h k = share_of net k * brought_to net D h (from_of net k) + net.shares * net.per * e

-- This is the rate of movement k after a sweep over some rates: the least whole number that carries its burden.
unfoldable pub swept_rate : Network → ℕ → ℕ → List ℕ → ℕ → ℕ
swept_rate net D e h k = rounded_up (burden net D e h k) (net.shares * net.per)

-- These are the rates after a sweep over some rates.
unfoldable pub swept : Network → ℕ → ℕ → List ℕ → List ℕ
swept net D e h = map (swept_rate net D e h) (movement_numbers net)

-- These are the rates after so many sweeps; before the first one each rate is 0.
unfoldable pub rates_after : Network → ℕ → ℕ → ℕ → List ℕ
rates_after net D e zero = map (λ k. 0) (movement_numbers net)
rates_after net D e (suc i) = swept net D e (rates_after net D e i)

-- Some movement has a rate above its flow.
abbrev pub is_above : Network → ℕ → List ℕ → Bool
is_above net D h = list_any (λ k. nat_lt (flow_of net k * D) (entry h k)) (movement_numbers net)

-- A sweep leaves the rates as they are.
abbrev pub is_stable : Network → ℕ → ℕ → List ℕ → Bool
is_stable net D e h = list_all (λ k. swept_rate net D e h k == entry h k) (movement_numbers net)

-- The sweep that comes after i others is the last: it brings some rate above its flow, or leaves the rates as they are.
unfoldable pub is_last_after : Network → ℕ → ℕ → ℕ → Bool
is_last_after net D e i = is_above net D (rates_after net D e (suc i)) || is_stable net D e (rates_after net D e i)

-- This is how many sweeps come before the last one, or none where no sweep within the limit is the last.
unfoldable pub sweeps_before_last : Network → ℕ → ℕ → Option ℕ
sweeps_before_last net D e = find (is_last_after net D e) (range_with_len 0 sweep_limit)
