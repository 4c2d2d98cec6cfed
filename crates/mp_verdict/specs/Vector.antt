-- The vector that shows the slack of the game's end.
use Rattle.std.specs.Prelude.{◌==◌, ℕ, cond, List, [], ◌∷◌, map, ℤ, pos, Option, Some, option_map, option_and_then}
use Rattle.mp_num.specs.Divisor.{reduced}
use Rattle.mp_num.specs.Passing.{each}
use Rattle.mp_model.specs.Network.{Network, link_numbers, movement_numbers, junction_at, to_of, share_of, out_of, own}
use Rattle.mp_model.specs.Certificate.{int_entry}
use Rattle.mp_flow.specs.Systems.{Worths, stated_worths, onward}
use Rattle.mp_num.specs.Operations.{times, plus, num, summed}
use Rattle.mp_verdict.specs.Game.{Score}

-- This is the value beside movement k in two lists, and 0 where the movement is not there.
abbrev pub value_beside : List ℕ → List ℤ → ℕ → ℤ
value_beside [] zs k = pos 0
value_beside (m ∷ ms) [] k = pos 0
value_beside (m ∷ ms) (z ∷ zs) k = cond (m == k) z (value_beside ms zs k)

-- These are the values of a score over all movements, 0 outside the worst junction.
unfoldable pub spread : Network → Score → List ℤ
spread net score = map (value_beside (own net (junction_at net score.junction)) score.values) (movement_numbers net)

-- This is what the values bring to link l: the sum over the movements out of it of the share times the value.
unfoldable pub link_value : Network → List ℤ → ℕ → Option ℤ
link_value net values l = summed (λ k. times (num (share_of net k)) (Some (int_entry values k))) (out_of net l)

-- These are what the values bring to the links.
unfoldable pub link_values : Network → List ℤ → Option (List ℤ)
link_values net values = each (link_value net values) (link_numbers net)

-- This is the number of movement k before the vector is reduced: its value times the worths' denominator, and the worth of the link that it goes to.
unfoldable pub vector_entry : Network → List ℤ → Worths → ℕ → Option ℤ
vector_entry net values worths k = plus (times (Some (int_entry values k)) (Some worths.d)) (Some (onward worths.x (to_of net k)))

-- This is the vector of some values by the worths of the links, reduced.
unfoldable pub vector_by : Network → List ℤ → Worths → Option (List ℤ)
vector_by net values worths = option_map reduced (each (vector_entry net values worths) (movement_numbers net))

-- This is the vector of a score: its values bring something to the links, from which come the worths.
unfoldable pub vector_of : Network → Score → Option (List ℤ)
vector_of net score =
    (let values = spread net score in
    option_and_then (λ u. option_and_then (λ worths. vector_by net values worths) (stated_worths net u)) (link_values net values))
