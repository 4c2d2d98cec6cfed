-- The greens of a junction from its mix in the trial of the excess 0, as a stated calculation.
use Rattle.std.specs.Prelude.{◌==◌, ◌&&◌, ℕ, ◌-◌, ◌*◌, max, nat_lt, cond, List, map, ℤ, pos, ◌*ℤ◌, unsigned_abs, Option, Some, None, option_map, option_and_then, find, slice_set}
use Rattle.std.specs.List.{fold}
use Rattle.mp_num.specs.Checked.{within}
use Rattle.mp_num.specs.Passing.{each}
use Rattle.mp_model.specs.Certificate.{Mix}
use Rattle.mp_model.specs.Guard.{is_always_green, sum_with}
use Rattle.mp_model.specs.Load.{greatest}
use Rattle.mp_model.specs.Network.{Network, Junction, movement_numbers, junction_at, junction_of_movement, flow_of, own, stage_at, stage_numbers, has, entry}
use Rattle.mp_trial.specs.Sweeps.{rounded_up}

-- This is the first number over the second, rounded up, where both fit 128 bits.
abbrev pub quotient : Option ℤ → Option ℤ → Option ℕ
quotient over under = option_and_then (λ x. option_map (λ y. rounded_up (unsigned_abs x) (unsigned_abs y)) under) over

-- A part has a green of as many periods as it is of the cycle, rounded up.
unfoldable pub green_for : ℕ → ℕ → ℤ → ℤ → Option ℕ
green_for cycle D whole part = quotient (within (pos cycle *ℤ part)) (within (whole *ℤ pos D))

-- These are the greens of the parts of a mix.
abbrev pub greens_for : ℕ → ℕ → Mix → Option (List ℕ)
greens_for cycle D mix = each (green_for cycle D mix.whole) mix.parts

-- Movement k wants as many periods of a cycle as its flow takes to pass what its rate brings, and one at least; nothing where it is always green.
unfoldable pub wanted : Network → ℕ → ℕ → List ℕ → ℕ → ℕ
wanted net cycle D h k = cond (is_always_green (junction_at net (junction_of_movement net k)) k) 0 (max 1 (rounded_up (cycle * entry h k) (D * flow_of net k)))

-- This is what all movements want.
abbrev pub all_wanted : Network → ℕ → ℕ → List ℕ → List ℕ
all_wanted net cycle D h = map (wanted net cycle D h) (movement_numbers net)

-- A stage gets a green of 1.
abbrev pub with_one : List ℕ → Option ℕ → List ℕ
with_one greens None = greens
with_one greens (Some s) = slice_set greens (s - 1) 1

-- This is the lowest stage of movement k.
abbrev pub lowest_stage : Junction → ℕ → Option ℕ
lowest_stage j k = find (λ s. has (stage_at j s) k) (stage_numbers j)

-- Where movement k wants some and no stage with a green has it, its lowest stage gets 1.
unfoldable pub raised_for : Junction → List ℕ → List ℕ → ℕ → List ℕ
raised_for j wants greens k = cond (nat_lt 0 (entry wants k) && sum_with j.stages greens k == 0) (with_one greens (lowest_stage j k)) greens

-- This is what movement k lacks under some greens.
abbrev pub lack : Junction → List ℕ → List ℕ → ℕ → ℕ
lack j wants greens k = entry wants k - sum_with j.stages greens k

-- The green of stage s becomes the least with which no movement of it lacks any, under the greens of the other stages.
unfoldable pub lowered_at : Junction → List ℕ → List ℕ → ℕ → List ℕ
lowered_at j wants greens s =
    let others : List ℕ = slice_set greens (s - 1) 0 in
    slice_set others (s - 1) (greatest (map (lack j wants others) (stage_at j s)))

-- Each movement of the junction in order is given some, and then the green of each stage in order becomes the least.
abbrev pub settled : Network → Junction → List ℕ → List ℕ → List ℕ
settled net j wants greens = fold (lowered_at j wants) (fold (raised_for j wants) greens (own net j)) (stage_numbers j)

-- These are the greens of junction j by its mix.
abbrev pub greens_by : Network → ℕ → ℕ → List ℕ → ℕ → Mix → Option (List ℕ)
greens_by net cycle D wants j mix = option_map (settled net (junction_at net j) wants) (greens_for cycle D mix)
