-- The stated calculation of the two sums of a vector against a network.
use Rattle.std.specs.Prelude.{◌≡◌, ℕ, ℤ, pos, int_lt, if◌then◌else◌, List, Option, Some, None, option_map, option_and_then, Result, Ok, Err}
use Rattle.mp_model.specs.Network.{Network, movement_numbers, junction_numbers, stage_numbers, junction_at, stage_at, share_of, flow_of, rate_before, downstream}
use Rattle.mp_model.specs.Certificate.{int_entry}
use Rattle.mp_num.specs.Passing.{stepped}
use Rattle.mp_num.specs.Operations.{times, plus, less, num, summed}
use Rattle.mp_cert.specs.declared.types.Weighed.{Weighed}
use Rattle.mp_cert.specs.declared.types.Overflow.{Overflow}

-- A movement brings its number times its share, times the rate of its link.
unfoldable pub brought : Network → List ℤ → ℕ → Option ℤ
brought net p k = times (times (Some (int_entry p k)) (num (share_of net k))) (num (rate_before net k))

-- The load is the sum of what the movements bring.
unfoldable pub load_formed : Network → List ℤ → Option ℤ
load_formed net p = summed (brought net p) (movement_numbers net)

-- A movement counts behind others with its share times its number.
unfoldable pub counted : Network → List ℤ → ℕ → Option ℤ
counted net p j = times (num (share_of net j)) (Some (int_entry p j))

-- This is the sum over the movements downstream of movement k.
abbrev pub behind_formed : Network → List ℤ → ℕ → Option ℤ
behind_formed net p k = summed (counted net p) (downstream net k)

-- The weight of movement k is the share total times its number, less what is counted behind it.
unfoldable pub weight_formed : Network → List ℤ → ℕ → Option ℤ
weight_formed net p k = less (times (num net.shares) (Some (int_entry p k))) (behind_formed net p k)

-- A sum takes in the flow of movement k times its weight where the weight is above 0.
unfoldable pub press_added : Network → ℕ → ℤ → ℤ → Option ℤ
press_added net k sum weight = if int_lt (pos 0) weight then plus (Some sum) (times (num (flow_of net k)) (Some weight)) else Some sum

-- A sum takes in movement k of a stage, after its weight was formed.
unfoldable pub pressed : Network → List ℤ → ℤ → ℕ → Option ℤ
pressed net p sum k = option_and_then (λ weight. press_added net k sum weight) (weight_formed net p k)

-- The pressure of a stage is summed over its movements in the order of the stage.
unfoldable pub pressure_formed : Network → List ℤ → List ℕ → Option ℤ
pressure_formed net p stage = stepped (pressed net p) (pos 0) stage

-- This is the greater of two numbers.
abbrev pub greater : ℤ → ℤ → ℤ
greater most x = if int_lt most x then x else most

-- The greatest so far takes in stage s of junction j.
unfoldable pub stage_taken : Network → List ℤ → ℕ → ℤ → ℕ → Option ℤ
stage_taken net p j most s = option_map (greater most) (pressure_formed net p (stage_at (junction_at net j) s))

-- The capacity of junction j is the greatest pressure of its stages, which is at least 0.
unfoldable pub junction_formed : Network → List ℤ → ℕ → Option ℤ
junction_formed net p j = stepped (stage_taken net p j) (pos 0) (stage_numbers (junction_at net j))

-- What is served is the sum of the capacities of the junctions, times the rate length.
unfoldable pub served_formed : Network → List ℤ → Option ℤ
served_formed net p = times (summed (junction_formed net p) (junction_numbers net)) (num net.per)

-- The load is formed first, and then what is served.
unfoldable pub weighed : Network → List ℤ → Option Weighed
weighed net p = option_and_then (λ load. option_map (λ served. record { load = load; served = served }) (served_formed net p)) (load_formed net p)

-- A result is the sums where they are there, and an overflow where a calculation has exceeded 128 bits.
abbrev pub WeighsTo : Result Weighed Overflow → Option Weighed → Type 0
WeighsTo (Ok sums) calculation = calculation ≡ Some sums
WeighsTo (Err overflow) calculation = calculation ≡ None
