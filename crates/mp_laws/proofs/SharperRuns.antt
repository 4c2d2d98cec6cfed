-- Sharper forms of the laws on the run, the event core and the stream fail.
use Rattle.std.proofs.Common.{◌≡◌, ◌≤◌, ℕ, ◌+◌, List, [], ◌∷◌, length, codes, arith, ◌-◌, refl, sym, ap, lit<}
use Rattle.std.specs.List.{AllByRecursion}
use Rattle.mp_model.specs.Network.{Network, link_numbers, link_at, fed, entry}
use Rattle.mp_model.specs.NetworkRules.{IsNetwork}
use Rattle.mp_model.specs.Arrivals.{counts_of, KeepsTo, excess}
use Rattle.mp_model.specs.Step.{State, queued, received_by, step}
use Rattle.mp_model.specs.Run.{opening, run, state_after}
use Rattle.mp_model.specs.EventCore.{Event, apply, core_opening, core_after, closed_of, all_lacking}
use Rattle.mp_model.specs.EventCore.Event.{hear, decide, close}
use Rattle.mp_model.specs.EventCore.{Answer}
use Rattle.mp_model.specs.EventCore.Answer.{closed}
use Rattle.mp_model.specs.Stream.{kinds, arrivals_of_kinds}
use Rattle.mp_model.specs.StreamEnd.{stream_end, stream_closed}
use Rattle.mp_model.specs.StreamEnd.StreamEnd.{above_in}
use Rattle.mp_model.specs.Worked.{two_approaches, roundabout}
use Rattle.mp_laws.proofs.Cases.{two_network, roundabout_acceptable}
use Rattle.mp_laws.proofs.SharperSplits.{apart}

-- a vehicle would enter that is neither queued nor departed
run_one_more : ¬ ((net : Network) → IsNetwork net → (A : List (List ℕ)) → AllByRecursion (λ state. state.total_in ≡ state.total_out + queued net state + 1) (run net A))
run_one_more law = apart 0 1 (lit< tt) (law two_approaches (two_network 1) []).0

-- a period would mend a state that has lost a vehicle
step_of_any : ¬ ((net : Network) → IsNetwork net → (stages : List ℕ) (arrivals : ℕ → ℕ) (state : State) → (step net stages arrivals state).total_in ≡ (step net stages arrivals state).total_out + queued net (step net stages arrivals state))
step_of_any law = apart 0 1 (lit< tt) (sym (law two_approaches (two_network 1) (1 ∷ 1 ∷ []) (λ l. 0) (record (opening two_approaches) { total_in = 1 })))

-- two periods of the roundabout, in which its one vehicle goes round: the link has received 2, and its phase is 0 again
abbrev round_events : List Event
round_events = hear 1 1 ∷ decide 1 ∷ close (1 ∷ []) ∷ hear 1 1 ∷ decide 1 ∷ close (0 ∷ []) ∷ []

phase_without_rest : ¬ ((net : Network) → IsNetwork net → (es : List Event) →
    AllByRecursion (λ l. entry (core_after net (core_opening net) es).phases l ≡ received_by (state_after net (opening net) (closed_of net (core_opening net) es)) l) (link_numbers net))
phase_without_rest law = apart 0 2 (lit< tt) (law roundabout roundabout_acceptable.network round_events).0

-- a period with 2 vehicles on the first of two approaches, whose burst is 2
abbrev full_events : List Event
full_events = decide 1 ∷ close (2 ∷ 0 ∷ []) ∷ []

-- the core would close only what keeps to a burst one lower
burst_one_lower : ¬ ((net : Network) (es : List Event) → AllByRecursion (λ l. KeepsTo net.per ((link_at net l).burst - 1) (link_at net l).rate (counts_of net (closed_of net (core_opening net) es) l)) (fed net))
burst_one_lower law = let h : 8 ≤ 5 = (law two_approaches full_events).0 [] (2 ∷ []) [] refl in absurd (omega arith)

-- the level would be one more than the greatest excess
level_one_more : ¬ ((net : Network) (es : List Event) → AllByRecursion (λ l. entry (core_after net (core_opening net) es).levels l ≡ excess net.per (link_at net l).rate (counts_of net (closed_of net (core_opening net) es) l) + 1) (link_numbers net))
level_one_more law = apart 0 1 (lit< tt) (law two_approaches []).0

-- each line of arrivals would close its period
lines_all_close : ¬ ((net : Network) → IsNetwork net → (es : List Event) (counts : List ℕ) →
    (apply net (core_after net (core_after net (core_opening net) es) (all_lacking net (core_after net (core_opening net) es))) (close counts)).0 ≡ closed)
lines_all_close law = apart 0 1 (lit< tt) (ap closings (law two_approaches (two_network 1) [] (3 ∷ 0 ∷ [])))
  where
    closings : Answer → ℕ
    closings closed = 1
    closings answer = 0

-- a stream would close all its arrivals even where it is refused
streams_all_close : ¬ ((net : Network) (text : List ℕ) → stream_closed net text ≡ arrivals_of_kinds (kinds net text))
streams_all_close law = apart 0 1 (lit< tt) (ap length (law two_approaches (codes "3,0\n")))

-- the period that is named would be the last that closed
period_one_lower : ¬ ((net : Network) (text : List ℕ) (line period l : ℕ) → stream_end net text ≡ above_in line period l → period ≡ length (stream_closed net text))
period_one_lower law = apart 0 1 (lit< tt) (sym (law two_approaches (codes "3,0\n") 1 1 1 refl))
