-- The linear program of a junction: how much of a period its stages need for some rates.
use Rattle.std.specs.Prelude.{ℕ, ℤ, pos, cond, List, [], ◌∷◌, ◌++◌, length, map}
use Rattle.mp_model.specs.Network.{Network, Junction, flow_of, own, has}
use Rattle.mp_model.specs.Certificate.{int_entry}
use Rattle.mp_flow.specs.declared.network.Place.{Place}
use Rattle.mp_simplex.specs.declared.Lp.{Lp}
use Rattle.mp_simplex.specs.declared.Optimum.{Optimum}
use Rattle.mp_simplex.specs.Outcome.{Outcome, Optimal, Ray, Passes, Limit}
use Rattle.mp_verdict.specs.Stated.{Stated, Reached, PassesAt, LimitAt}

-- This is the row of a stage over some movements: the flow of each that the stage holds, and 0 at the others.
abbrev pub stage_row : Network → List ℕ → List ℕ → List ℤ
stage_row net ks stage = map (λ k. cond (has stage k) (pos (flow_of net k)) (pos 0)) ks

-- These are the rows of some stages, one after the other.
abbrev pub stage_rows : Network → List ℕ → List (List ℕ) → List ℤ
stage_rows net ks [] = []
stage_rows net ks (stage ∷ stages) = stage_row net ks stage ++ stage_rows net ks stages

-- This is the program of a junction at some rates: a column for each of its movements and a row for each of its stages, the right side 1 in each row, and the rates as the objective.
abbrev pub program : Network → Junction → List ℤ → Lp
program net j h = record {
  rows = length j.stages;
  cols = length (own net j);
  a = stage_rows net (own net j) j.stages;
  b = map (λ (stage : List ℕ). pos 1) j.stages;
  c = map (int_entry h) (own net j);
}

-- This is the optimum of the program of junction j, by its outcome. A program that grows without end, as none of a network does, counts as exceeding 128 bits.
abbrev pub optimum_at : Place → ℕ → Outcome → Stated Optimum
optimum_at place j (Optimal o) = Reached o
optimum_at place j (Ray x) = PassesAt place
optimum_at place j (Passes pivots) = PassesAt place
optimum_at place j Limit = LimitAt j
