-- The trial of an excess over a denominator, as a stated calculation: the sweeps, and then the program of each junction at the stable rates.
use Rattle.std.specs.Prelude.{ℕ, suc, Bool, true, false, cond, List, [], ◌∷◌, ◌++◌, map, pos, ◌*ℤ◌, int_lt, Option, Some, None, option_map}
use Rattle.mp_num.specs.Checked.{within}
use Rattle.mp_model.specs.Network.{Network, junction_at, junction_numbers}
use Rattle.mp_model.specs.Certificate.{Mix, Cert}
use Rattle.mp_simplex.specs.declared.Optimum.{Optimum}
use Rattle.mp_simplex.specs.Outcome.{Outcome, Optimal, Ray, Passes, Limit, maximised}
use Rattle.mp_verdict.specs.Program.{program}
use Rattle.mp_verdict.specs.declared.TheConstants.{TURN_LIMIT}
use Rattle.mp_verdict.specs.Mixes.{mix_of}
use Rattle.mp_trial.specs.Sweeps.{rates_after, is_above, sweeps_before_last}

-- A trial fits with a certificate, is unfit, doesn't end within the limit of sweeps, or ends at a junction whose calculation exceeds 128 bits or comes to its limit of turns.
pub data Trial : Type 0 where
  Fits : Cert → Trial
  Unfit : Trial
  Endless : Trial
  PassesIn : ℕ → Trial
  LimitIn : ℕ → Trial

-- The value of a program is above the denominator.
unfoldable pub is_above_whole : ℕ → Optimum → Option Bool
is_above_whole D o = option_map (λ most. int_lt most o.value.num) (within (pos D *ℤ o.value.den))

-- Junction j ends the trial where the value of its program is above the denominator; otherwise the trial goes on with its mix.
abbrev pub by_value : ℕ → Optimum → Option Bool → (Mix → Trial) → Trial
by_value j o None go = PassesIn j
by_value j o (Some true) go = Unfit
by_value j o (Some false) go = go (mix_of o)

-- The trial goes on by the outcome of the program of junction j. A program that grows without end, as none of a network does, counts as exceeding 128 bits.
abbrev pub by_outcome : ℕ → ℕ → Outcome → (Mix → Trial) → Trial
by_outcome D j (Optimal o) go = by_value j o (is_above_whole D o) go
by_outcome D j (Ray x) go = PassesIn j
by_outcome D j (Passes pivots) go = PassesIn j
by_outcome D j Limit go = LimitIn j

-- This is the certificate of the denominator D, the excess e, the rates h and some mixes.
abbrev pub certificate_with : ℕ → ℕ → List ℕ → List Mix → Cert
certificate_with D e h mixes = record { d = pos D; e = pos e; h = map pos h; mixes = mixes }

-- This is the trial at the rates h from some junctions on, in order; the mixes are those of the junctions before.
unfoldable pub served_by : Network → ℕ → ℕ → List ℕ → List Mix → List ℕ → Trial
served_by net D e h mixes [] = Fits (certificate_with D e h mixes)
served_by net D e h mixes (j ∷ js) =
    by_outcome D j (maximised (program net (junction_at net j) (map pos h)) TURN_LIMIT) (λ mix. served_by net D e h (mixes ++ mix ∷ []) js)

-- The trial is unfit where the last sweep brings some rate above its flow; otherwise it goes on with the junctions at the rates that this sweep leaves as they are.
abbrev pub by_sweeps : Network → ℕ → ℕ → Option ℕ → Trial
by_sweeps net D e None = Endless
by_sweeps net D e (Some i) = cond (is_above net D (rates_after net D e (suc i))) Unfit (served_by net D e (rates_after net D e i) [] (junction_numbers net))

-- This is the trial of the excess e over the denominator D.
unfoldable pub trial : Network → ℕ → ℕ → Trial
trial net D e = by_sweeps net D e (sweeps_before_last net D e)
