-- The rates of the movements at a slack. Flows are those of the network's links.
use Rattle.std.specs.Prelude.{ℕ, ℤ, List, ◌∷◌, drop, Option, Some, option_map, option_and_then}
use Rattle.mp_num.specs.Divisor.{reduced}
use Rattle.mp_num.specs.Fraction.{Fraction}
use Rattle.mp_num.specs.Passing.{each}
use Rattle.mp_num.specs.Row.{entry}
use Rattle.mp_model.specs.Network.{Network, movement_numbers, from_of, share_of}
use Rattle.mp_model.specs.Certificate.{int_entry}
use Rattle.mp_flow.specs.Systems.{Flows}
use Rattle.mp_num.specs.Operations.{times, plus, num}

-- The share total times the rate length times the flows' denominator stands for a rate of one vehicle per period.
unfoldable pub period_unit : Network → Flows → Option ℤ
period_unit net flows = times (times (num net.shares) (num net.per)) (Some flows.d)

-- This is what the rates of the links bring to movement k: its share of the flow of its link.
unfoldable pub rate_need : Network → Flows → ℕ → Option ℤ
rate_need net flows k = times (num (share_of net k)) (Some (int_entry flows.rate (from_of net k)))

-- This is what one unit of slack on every movement brings to movement k: its share of what comes to its link, and the unit of its own.
unfoldable pub unit_need : Network → Flows → ℕ → Option ℤ
unit_need net flows k = plus (times (num (share_of net k)) (Some (int_entry flows.unit (from_of net k)))) (times (num net.shares) (Some flows.d))

-- This is the need of movement k at a slack: that of the rates times the slack's denominator, and that of the units times the slack's numerator and the rate length.
unfoldable pub need_at : Network → Flows → Fraction → ℕ → Option ℤ
need_at net flows slack k = plus (times (rate_need net flows k) (Some slack.den)) (times (times (num net.per) (Some slack.num)) (unit_need net flows k))

-- The rates at a slack are a denominator, an excess, and a rate per movement.
pub record Rates : Type 0 where
  pub d : ℤ
  pub e : ℤ
  pub h : List ℤ

-- These are the rates in a list: the denominator, then the excess, then the rates of the movements.
abbrev pub rates_in : List ℤ → Rates
rates_in row = record { d = entry row 0; e = entry row 1; h = drop 2 row }

-- These are the rates at a slack before they are reduced.
unfoldable pub rate_row : Network → Flows → Fraction → Option (List ℤ)
rate_row net flows slack =
    option_and_then (λ d. option_and_then (λ e. option_map (λ h. d ∷ e ∷ h)
    (each (need_at net flows slack) (movement_numbers net)))
    (times (period_unit net flows) (Some slack.num)))
    (times (period_unit net flows) (Some slack.den))

-- These are the rates at a slack, reduced together.
unfoldable pub rates_at : Network → Flows → Fraction → Option Rates
rates_at net flows slack = option_map (λ row. rates_in (reduced row)) (rate_row net flows slack)
