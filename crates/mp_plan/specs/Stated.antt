-- The greens and the bounds of a plan as stated calculations: each operation gives its number, or nothing where it exceeds 128 signed bits.
use Rattle.std.specs.Prelude.{◌==◌, ℕ, ◌+◌, ◌-◌, ◌*◌, ◌^◌, max, nat_lt, Bool, true, false, if◌then◌else◌, List, length, sum_by, Option, Some, None, option_map, option_and_then}
use Rattle.mp_model.specs.GuardedBursts.{quotient_up}
use Rattle.mp_model.specs.Network.{Network, Junction, movement_numbers, burst_before, entry, flow_of, from_of, into_link, out_of, share_of, stage_at, stage_numbers, start_of}
use Rattle.mp_model.specs.Plans.{flow_before, home_of}
use Rattle.mp_num.specs.Passing.{each, stepped}

-- This is a number where it fits 128 signed bits, and nothing where it exceeds them.
unfoldable pub fitting : ℕ → Option ℕ
fitting n = if nat_lt n (2 ^ 127) then Some n else None

-- What a movement wants: what comes in a cycle times the flow of its link, then the unit times the denominator, then this times the most that it passes, and the first divided by the last and rounded up.
unfoldable pub wanted_from : ℕ → ℕ → ℕ → ℕ → ℕ → Option ℕ
wanted_from coming flow unit d most = option_and_then (λ above. option_and_then (λ whole. option_map (λ below. quotient_up above below) (fitting (whole * most))) (fitting (unit * d))) (fitting (coming * flow))

-- This is what movement k wants by the stated calculation: the cycle times its share, and the share total times the rate length, never exceed 128 bits.
unfoldable pub stated_wanted : Network → List ℕ → ℕ → ℕ → ℕ → Option ℕ
stated_wanted net f d cycle k = wanted_from (cycle * share_of net k) (flow_before net f k) (net.shares * net.per) d (flow_of net k)

-- A green is the greater of itself and what a movement at home in its stage wants, at least 1; a movement at home elsewhere leaves it.
abbrev pub greener : Bool → ℕ → Option ℕ → Option ℕ
greener true green want = option_map (λ n. max green (max 1 n)) want
greener false green want = Some green

-- This is the green with one more movement of the stage.
unfoldable pub green_with : Network → List ℕ → ℕ → ℕ → Junction → ℕ → ℕ → ℕ → Option ℕ
green_with net f d cycle j s green k = greener (home_of j k == s) green (stated_wanted net f d cycle k)

-- This is the green of stage s by the stated calculation.
unfoldable pub stated_green : Network → List ℕ → ℕ → ℕ → Junction → ℕ → Option ℕ
stated_green net f d cycle j s = stepped (green_with net f d cycle j s) 0 (stage_at j s)

-- This is the sum of a list, from left to right.
unfoldable pub stated_sum : List ℕ → Option ℕ
stated_sum ns = stepped (λ so_far n. fitting (so_far + n)) 0 ns

-- These are the greens of a junction by the stated calculation, with their sum.
unfoldable pub stated_greens : Network → List ℕ → ℕ → ℕ → Junction → Option (List ℕ)
stated_greens net f d cycle j = option_and_then (λ greens. option_map (λ all. greens) (stated_sum greens)) (each (stated_green net f d cycle j) (stage_numbers j))

-- What may come to a movement: what may come to its link at once times d, times the rate length, plus the flow of the link times the cycle, and all that times its share.
unfoldable pub coming_from : ℕ → ℕ → ℕ → ℕ → ℕ → ℕ → Option ℕ
coming_from share burst d per flow cycle =
    option_and_then (λ some. option_and_then (λ at_once. option_and_then (λ in_cycle. option_and_then (λ all. fitting (share * all)) (fitting (at_once + in_cycle))) (fitting (flow * cycle))) (fitting (some * per))) (fitting (burst * d))

-- What the split lets come early: d times the rate length, times the number of movements out of the link, times the share total less one.
unfoldable pub early_from : ℕ → ℕ → ℕ → ℕ → Option ℕ
early_from d per outs shares = option_and_then (λ some. option_and_then (λ all. fitting (all * (shares - 1))) (fitting (some * outs))) (fitting (d * per))

-- This is a bound where it is at most 2^62, and nothing where it is above.
unfoldable pub with_room : ℕ → Option ℕ
with_room n = if nat_lt (2 ^ 62) n then None else Some n

-- A bound: what comes plus what comes early, over the unit times the denominator and rounded up, and the start queue.
unfoldable pub bound_from : ℕ → ℕ → ℕ → ℕ → ℕ → Option ℕ
bound_from coming early unit d start = option_and_then (λ above. option_and_then (λ below. with_room (start + quotient_up above below)) (fitting (unit * d))) (fitting (coming + early))

-- This is what may come to movement k, from a list of bounds: the burst of its link and the bounds of the movements into it come at once.
unfoldable pub stated_coming : Network → List ℕ → ℕ → ℕ → List ℕ → ℕ → Option ℕ
stated_coming net f d cycle bounds k =
    option_and_then (λ burst. coming_from (share_of net k) burst d net.per (flow_before net f k) cycle) (fitting (burst_before net k + sum_by (entry bounds) (into_link net (from_of net k))))

-- This is what the split of the link of movement k lets come early.
abbrev pub stated_early : Network → ℕ → ℕ → Option ℕ
stated_early net d k = early_from d net.per (length (out_of net (from_of net k))) net.shares

-- This is the bound of movement k from a list of bounds by the stated calculation, and nothing where a number exceeds 128 bits or it is above 2^62.
unfoldable pub stated_bound : Network → List ℕ → ℕ → ℕ → List ℕ → ℕ → Option ℕ
stated_bound net f d cycle bounds k =
    option_and_then (λ coming. option_and_then (λ early. bound_from coming early (net.shares * net.per) d (start_of net k)) (stated_early net d k)) (stated_coming net f d cycle bounds k)

-- These are the bounds of all movements from a list of bounds by the stated calculation.
unfoldable pub stated_bounds : Network → List ℕ → ℕ → ℕ → List ℕ → Option (List ℕ)
stated_bounds net f d cycle bounds = each (stated_bound net f d cycle bounds) (movement_numbers net)
