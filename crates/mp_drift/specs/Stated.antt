-- The greatest drift value as a stated calculation: each operation gives its number, or nothing where it exceeds 128 signed bits. The root of the greatest drift value plus a credit-and-burst term never passes them.
use Rattle.std.specs.Prelude.{ℕ, ◌+◌, ◌*◌, ◌/◌, ◌^◌, max, nat_lt, if◌then◌else◌, sum_by, Option, Some, None, option_map, option_and_then}
use Rattle.mp_model.specs.Network.{Network, movement_numbers}
use Rattle.mp_model.specs.Bounds.{credit_term, drift_constant, start_drift}

-- This is a number where it fits 128 signed bits, and nothing where it exceeds them.
unfoldable pub fitting : ℕ → Option ℕ
fitting n = if nat_lt n (2 ^ 127) then Some n else None

-- This is the share total times the rate length.
abbrev pub unit_of : Network → ℕ
unit_of net = net.shares * net.per

-- This is the sum of the credit-and-burst terms of all movements.
abbrev pub credit_sum : Network → ℕ
credit_sum net = sum_by (credit_term net) (movement_numbers net)

-- This is the queue threshold from a drift constant and a factor under the slack E/D: first D times the drift constant, then the factor times E, then the first divided by the second and rounded down.
unfoldable pub threshold_from : ℕ → ℕ → ℕ → ℕ → Option ℕ
threshold_from factor drift E D = option_and_then (λ above. option_map (λ below. above / below) (fitting (factor * E))) (fitting (D * drift))

-- This is the greatest drift value from a unit, a sum of credit-and-burst terms, a drift constant, the drift value of the start queues and a threshold: the unit times the threshold, plus the sum, then the square of this, plus the drift constant, and the greater of this and the value of the start queues, which never exceeds 128 bits.
unfoldable pub greatest_from : ℕ → ℕ → ℕ → ℕ → ℕ → Option ℕ
greatest_from unit credits drift starts threshold =
    option_and_then (λ few. option_and_then (λ root. option_and_then (λ square. option_map (λ v. max v starts) (fitting (square + drift))) (fitting (root * root))) (fitting (few + credits))) (fitting (unit * threshold))

-- This is the greatest drift value of a network from a drift constant and a factor under the slack E/D by the stated calculation, and nothing where it exceeds 128 bits.
abbrev pub greatest_under : Network → ℕ → ℕ → ℕ → ℕ → Option ℕ
greatest_under net factor drift E D =
    option_and_then (greatest_from (unit_of net) (credit_sum net) drift (start_drift net)) (threshold_from factor drift E D)

-- For the drift constant of the network the factor is twice the square of its unit.
abbrev pub stated_greatest : Network → ℕ → ℕ → Option ℕ
stated_greatest net E D = greatest_under net (2 * (unit_of net * unit_of net)) (drift_constant net) E D
