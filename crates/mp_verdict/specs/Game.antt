-- The game of the junctions: the slack falls from junction to junction until all can serve the rates at it.
use Rattle.std.specs.Prelude.{◌==◌, ℕ, zero, suc, ◌+◌, ◌-◌, Bool, true, false, cond, List, [], ◌∷◌, map, ℤ, pos, ◌*ℤ◌, int_lt, Option, Some, None, option_map, option_and_then}
use Rattle.std.specs.declared.cmp.Ordering.{Ordering}
use Rattle.mp_num.specs.Checked.{within, compared}
use Rattle.mp_num.specs.Fraction.{Fraction, lowest_terms}
use Rattle.mp_num.specs.Passing.{stepped}
use Rattle.mp_model.specs.Network.{Network, junction_at, junction_numbers, flow_of, own}
use Rattle.mp_flow.specs.declared.network.Place.{Place}
use Rattle.mp_flow.specs.Systems.{Flows}
use Rattle.mp_simplex.specs.declared.Optimum.{Optimum}
use Rattle.mp_simplex.specs.Outcome.{maximised}
use Rattle.mp_verdict.specs.declared.TheConstants.{TURN_LIMIT}
use Rattle.mp_verdict.specs.Stated.{Stated, Reached, LimitAt, then, at_place, run_reached}
use Rattle.mp_num.specs.Operations.{times, plus, less, num}
use Rattle.mp_verdict.specs.Rates.{Rates, period_unit, rate_need, unit_need, rates_at}
use Rattle.mp_verdict.specs.Program.{program, optimum_at}

-- The score of the game is the slack so far, the worst junction, which it comes from, and a value for each movement of that junction.
pub record Score : Type 0 where
  pub slack : Fraction
  pub junction : ℕ
  pub values : List ℤ

-- This is a fraction in lowest terms from its two numbers, where both are there.
unfoldable pub fraction_of : Option ℤ → Option ℤ → Option Fraction
fraction_of num den = option_and_then (λ n. option_map (λ d. lowest_terms n d) den) num

-- ---- first each movement of a junction alone
-- This is the slack at which movement k alone takes the whole time of its junction.
unfoldable pub slack_alone : Network → Flows → ℕ → Option Fraction
slack_alone net flows k = fraction_of (less (times (period_unit net flows) (num (flow_of net k))) (rate_need net flows k)) (times (num net.per) (unit_need net flows k))

-- These are the values of some movements: 1 at k and 0 elsewhere.
abbrev pub alone : ℕ → List ℕ → List ℤ
alone k ks = map (λ m. cond (m == k) (pos 1) (pos 0)) ks

-- The first of two numbers is less.
abbrev pub is_less : Ordering → Bool
is_less Ordering.Less = true
is_less Ordering.Equal = false
is_less Ordering.Greater = false

-- The first of two slacks is lower, by their cross products.
unfoldable pub is_lower : Fraction → Fraction → Option Bool
is_lower a b = option_map is_less (compared (within (a.num *ℤ b.den)) (within (b.num *ℤ a.den)))

-- The new score is taken where its slack is lower.
abbrev pub taken : Score → Score → Bool → Option Score
taken new old true = Some new
taken new old false = Some old

-- A new score is taken where there is none yet, or where its slack is lower.
abbrev pub lower_of : Score → Option Score → Option (Option Score)
lower_of new None = Some (Some new)
lower_of new (Some old) = option_map (taken new old) (is_lower new.slack old.slack)

-- This is the score after movement k of junction j, of which ks are the movements, was tried alone.
unfoldable pub tried : Network → Flows → ℕ → List ℕ → Option Score → ℕ → Option (Option Score)
tried net flows j ks score k =
    option_and_then (λ slack. lower_of (record { slack = slack; junction = j; values = alone k ks }) score) (slack_alone net flows k)

-- This is the score after each movement of junction j was tried alone.
unfoldable pub all_tried : Network → Flows → ℕ → Option Score → Option (Option Score)
all_tried net flows j score = (let ks = own net (junction_at net j) in stepped (tried net flows j ks) score ks)

-- ---- then the stages of a junction together
-- The value of a program is above the denominator of the rates.
unfoldable pub is_over : Rates → Optimum → Option Bool
is_over rates o = option_map (λ most. int_lt most o.value.num) (within (rates.d *ℤ o.value.den))

-- This is a sum so far with a term of each number of a list and the value beside it.
unfoldable pub summed_beside : (ℕ → ℤ → Option ℤ) → ℤ → List ℕ → List ℤ → Option ℤ
summed_beside term sum [] zs = Some sum
summed_beside term sum (k ∷ ks) [] = Some sum
summed_beside term sum (k ∷ ks) (z ∷ zs) = option_and_then (λ t. summed_beside term t ks zs) (plus (Some sum) (term k z))

-- This is the slack that some values over a denominator give, for the movements beside them.
unfoldable pub slack_of : Network → Flows → List ℕ → List ℤ → ℤ → Option Fraction
slack_of net flows ks values den =
    fraction_of
    (less (times (period_unit net flows) (Some den)) (summed_beside (λ k z. times (rate_need net flows k) (Some z)) (pos 0) ks values))
    (times (num net.per) (summed_beside (λ k z. times (unit_need net flows k) (Some z)) (pos 0) ks values))

-- A turn ends with the junction carrying the slack, or with a lower slack and so many turns left.
pub data Turn : Type 0 where
  Carried : Turn
  Lowered : ℕ → Score → Turn

-- One of the turns that are left is spent; where none is left, junction j has come to the limit.
abbrev pub spent : ℕ → ℕ → Stated ℕ
spent j zero = LimitAt j
spent j (suc turns) = Reached turns

-- This is the turn in which the optimum of junction j lowers the slack, with so many turns left before.
unfoldable pub lowered : Network → Flows → ℕ → ℕ → Optimum → Stated Turn
lowered net flows j turns o =
    then (spent j turns) (λ left.
    then (at_place (Place.Game j) (slack_of net flows (own net (junction_at net j)) o.primal o.primal_den)) (λ slack.
    Reached (Lowered left (record { slack = slack; junction = j; values = o.primal }))))

-- A value above the denominator lowers the slack; with any other the junction carries it.
abbrev pub by_value : Bool → Stated Turn → Stated Turn
by_value true lower = lower
by_value false lower = Reached Carried

-- This is a turn at junction j with so many turns left: the rates at the slack are found and the program of the junction is solved, each pivot costing a turn.
unfoldable pub turn : Network → Flows → ℕ → ℕ → Fraction → Stated Turn
turn net flows j turns slack =
    then (at_place (Place.Game j) (rates_at net flows slack)) (λ rates.
    then (optimum_at (Place.Game j) j (maximised (program net (junction_at net j) rates.h) turns)) (λ o.
    then (at_place (Place.Game j) (is_over rates o)) (λ over.
    by_value over (lowered net flows j (turns - o.pivots) o))))

-- After a turn the play of a junction ends with its score, or goes on.
abbrev pub after_turn : Score → Turn → (ℕ → Score → Stated Score) → Stated Score
after_turn score Carried go = Reached score
after_turn score (Lowered left next) go = go left next

-- This is the play of junction j with so many turns left, within so many rounds; each round spends a turn, so that the turns end first.
unfoldable pub played : Network → Flows → ℕ → ℕ → ℕ → Score → Stated Score
played net flows j zero turns score = LimitAt j
played net flows j (suc rounds) turns score =
    then (turn net flows j turns score.slack) (λ t. after_turn score t (played net flows j rounds))

-- The play of a junction needs a score; there is none as long as no junction has had a movement.
abbrev pub played_from : Network → Flows → ℕ → Option Score → Stated (Option Score)
played_from net flows j None = Reached None
played_from net flows j (Some score) = then (played net flows j (TURN_LIMIT + 1) TURN_LIMIT score) (λ next. Reached (Some next))

-- This is the score after junction j: its movements are tried alone, and then its stages together.
unfoldable pub after_junction : Network → Flows → Option Score → ℕ → Stated (Option Score)
after_junction net flows score j = then (at_place (Place.Game j) (all_tried net flows j score)) (λ next. played_from net flows j next)

-- This is the score at the end of the game, after all junctions in order.
unfoldable pub game : Network → Flows → Stated (Option Score)
game net flows = run_reached (after_junction net flows) None (junction_numbers net)
