-- The rates at the slack of the game's end were found in the game.
use Rattle.std.proofs.Common.{◌≡◌, ℕ, zero, suc, ◌+◌, List, [], ◌∷◌, Option, Some, None, subst}
use Rattle.mp_model.specs.Network.{Network, junction_numbers}
use Rattle.mp_flow.specs.declared.network.Place.{Place}
use Rattle.mp_flow.specs.Systems.{Flows}
use Rattle.mp_verdict.specs.Stated.{Reached, at_place, run_reached}
use Rattle.mp_verdict.specs.Rates.{Rates, rates_at}
use Rattle.mp_verdict.specs.Game.{Score, Turn, Carried, Lowered, turn, after_turn, played, played_from, all_tried, after_junction, game}
use Rattle.mp_verdict.specs.declared.TheConstants.{TURN_LIMIT}
use Rattle.mp_verdict.specs.Laws.{RatesLaw}
use Rattle.mp_verdict.proofs.Reaching.{then_reached, same_reached, at_place_reached}

abbrev RatesAt : Network → Flows → Score → Type 0
RatesAt net flows st = (rates : Rates) × (rates_at net flows st.slack ≡ Some rates)

abbrev RatesAfter : Network → Flows → Option Score → Type 0
RatesAfter net flows None = Unit {0}
RatesAfter net flows (Some st) = RatesAt net flows st

module _ (net : Network) (flows : Flows) where
  turn_rates : (j turns : ℕ) (st : Score) (t : Turn) → turn net flows j turns st.slack ≡ Reached t → RatesAt net flows st
  unfolding turn
  turn_rates j turns st t e =
      then_reached (at_place (Place.Game j) (rates_at net flows st.slack)) _ t e (λ rates hr e1. (rates, at_place_reached (Place.Game j) (rates_at net flows st.slack) rates hr))

  after_rates : (j rounds : ℕ) (st end : Score) (t : Turn) → RatesAt net flows st → ((turns : ℕ) (next : Score) → played net flows j rounds turns next ≡ Reached end → RatesAt net flows end) →
      after_turn st t (played net flows j rounds) ≡ Reached end → RatesAt net flows end
  after_rates j rounds st end Carried here more e = subst (RatesAt net flows) (same_reached st end e) here
  after_rates j rounds st end (Lowered left next) here more e = more left next e

  played_rates : (j rounds turns : ℕ) (st end : Score) → played net flows j rounds turns st ≡ Reached end → RatesAt net flows end
  unfolding played
  played_rates j zero turns st end e = absurd (cc)
  played_rates j (suc rounds) turns st end e =
      then_reached (turn net flows j turns st.slack) _ end e (λ t ht e1. after_rates j rounds st end t (turn_rates j turns st t ht) (λ left next e2. played_rates j rounds left next end e2) e1)

  from_rates : (j : ℕ) (mid next : Option Score) → played_from net flows j mid ≡ Reached next → RatesAfter net flows next
  from_rates j None next e = subst (RatesAfter net flows) (same_reached None next e) tt
  from_rates j (Some st) next e =
      then_reached (played net flows j (TURN_LIMIT + 1) TURN_LIMIT st) _ next e (λ end he e1.
      subst (RatesAfter net flows) (same_reached (Some end) next e1) (played_rates j (TURN_LIMIT + 1) TURN_LIMIT st end he))

  junction_rates : (j : ℕ) (score next : Option Score) → after_junction net flows score j ≡ Reached next → RatesAfter net flows next
  unfolding after_junction
  junction_rates j score next e = then_reached (at_place (Place.Game j) (all_tried net flows j score)) _ next e (λ mid hm e1. from_rates j mid next e1)

  passed_rates : (js : List ℕ) (score fin : Option Score) → RatesAfter net flows score → run_reached (after_junction net flows) score js ≡ Reached fin → RatesAfter net flows fin
  unfolding run_reached
  passed_rates [] score fin h e = subst (RatesAfter net flows) (same_reached score fin e) h
  passed_rates (j ∷ js) score fin h e = then_reached (after_junction net flows score j) _ fin e (λ mid hm e1. passed_rates js mid fin (junction_rates j score mid hm) e1)

pub rates_there : RatesLaw
unfolding game
rates_there net flows score e = passed_rates net flows (junction_numbers net) None (Some score) tt e
