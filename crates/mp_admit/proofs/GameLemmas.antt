-- The game, junction by junction.
use Rattle.std.proofs.Common.{to_z-of_z, ◌≡◌, ℕ, suc, ◌+◌, ◌<◌, ◌≤◌, List, drop, get_or, length, Option, Some, None, Result, Ok, Err, refl, ap, sym, ◌∙◌, subst, arith}
use Rattle.std.proofs.lemmas.List.{drop_all, drop_more}
use Rattle.std.proofs.lemmas.List.FromFn.{length-range_with_len}
use Rattle.mp_model.specs.Network.{Network, junction_numbers}
use Rattle.mp_flow.specs.Systems.{Flows}
use Rattle.mp_flow.specs.declared.network.Place.{Place}
use Rattle.mp_flow.specs.declared.network.CalcFault.{CalcFault}
use Rattle.mp_verdict.specs.Game.{Score, all_tried, played, played_from, after_junction, game}
use Rattle.mp_verdict.specs.declared.TheConstants.{TURN_LIMIT}
use Rattle.mp_verdict.specs.Stated.{Reached, at_place, then, run_reached, Gives}
use Rattle.mp_admit.specs.declared.score.Score.{Score as Kept}
use Rattle.mp_admit.specs.Scores.{score_of, scores_of, IfStands, StandsIn}
use Rattle.mp_admit.proofs.FaultLemmas.{fault_then}
use Rattle.mp_admit.proofs.PushLemmas.{number_at}

-- ---- one junction
pub after_refused : {X X' : Type 0} (seen : X → Option Score) (seen' : X' → Option Score) (net : Network) (flows : Flows) (before : Option Score) (j : ℕ) (fault : CalcFault) →
    Gives seen (Err fault) (at_place (Place.Game j) (all_tried net flows j before)) → Gives seen' (Err fault) (after_junction net flows before j)
unfolding after_junction
after_refused seen seen' net flows before j fault g = fault_then seen seen' fault (at_place (Place.Game j) (all_tried net flows j before)) _ _ refl g

after_with : (net : Network) (flows : Flows) (before next : Option Score) (j : ℕ) → at_place (Place.Game j) (all_tried net flows j before) ≡ Reached next → after_junction net flows before j ≡ played_from net flows j next
unfolding after_junction
after_with net flows before next j e = rw e refl

pub after_none : (net : Network) (flows : Flows) (before : Option Score) (j : ℕ) (tried : Option Kept) → at_place (Place.Game j) (all_tried net flows j before) ≡ Reached (scores_of tried) → tried ≡ None → after_junction net flows before j ≡ Reached None
after_none net flows before j tried e n = after_with net flows before (scores_of tried) j e ∙ ap (λ t. played_from net flows j (scores_of t)) n

pub after_played : (net : Network) (flows : Flows) (before : Option Score) (j : ℕ) (tried : Option Kept) (start : Kept) (end : Score) → at_place (Place.Game j) (all_tried net flows j before) ≡ Reached (scores_of tried) → tried ≡ Some start →
    played net flows j (TURN_LIMIT + 1) TURN_LIMIT (score_of start) ≡ Reached end → after_junction net flows before j ≡ Reached (Some end)
after_played net flows before j tried start end e s p = after_with net flows before (scores_of tried) j e ∙ ap (λ t. played_from net flows j (scores_of t)) s ∙ ap (λ t. then t (λ next. Reached (Some next))) p

pub after_stopped : {X X' : Type 0} (seen : X → Score) (seen' : X' → Option Score) (net : Network) (flows : Flows) (before : Option Score) (j : ℕ) (tried : Option Kept) (start : Kept) (fault : CalcFault) → at_place (Place.Game j) (all_tried net flows j before) ≡ Reached (scores_of tried) → tried ≡ Some start →
    Gives seen (Err fault) (played net flows j (TURN_LIMIT + 1) TURN_LIMIT (score_of start)) → Gives seen' (Err fault) (after_junction net flows before j)
after_stopped seen seen' net flows before j tried start fault e s g =
    fault_then seen seen' fault (played net flows j (TURN_LIMIT + 1) TURN_LIMIT (score_of start)) (λ next. Reached (Some next)) _ (after_with net flows before (scores_of tried) j e ∙ ap (λ t. played_from net flows j (scores_of t)) s) g

pub start_stands : (net : Network) (tried : Option Kept) (start : Kept) → IfStands net tried → tried ≡ Some start → StandsIn net start
start_stands net tried start h e = subst (λ (t : Option Kept). IfStands net t) e h

pub ruleset passing = (to_z-of_z, start_stands, after_none, after_played)

-- ---- all junctions, one after the other
pub record Passing (net : Network) (flows : Flows) (i : ℕ) (now : Option Kept) : Type 0 where
  pub rest : game net flows ≡ run_reached (after_junction net flows) (scores_of now) (drop i (junction_numbers net))
  pub stands : IfStands net now

pub passing_start : (net : Network) (flows : Flows) → Passing net flows 0 None
unfolding game
passing_start net flows = record { rest = refl; stands = tt }

passed_at : (net : Network) (flows : Flows) (now : Option Score) (i : ℕ) → i < length net.junctions →
    run_reached (after_junction net flows) now (drop i (junction_numbers net)) ≡ then (after_junction net flows now (i + 1)) (λ t. run_reached (after_junction net flows) t (drop (i + 1) (junction_numbers net)))
unfolding run_reached
passed_at net flows now i h =
    let l = length-range_with_len 1 (length net.junctions) in
    rw (drop_more (junction_numbers net) i 0 (omega (arith, l))) (ap (λ k. then (after_junction net flows now k) (λ t. run_reached (after_junction net flows) t (drop (i + 1) (junction_numbers net)))) (sym (number_at (length net.junctions) i h)))

pub passing_more : (net : Network) (flows : Flows) (i : ℕ) (now next : Option Kept) → Passing net flows i now → i < length net.junctions → after_junction net flows (scores_of now) (i + 1) ≡ Reached (scores_of next) → IfStands net next → Passing net flows (i + 1) next
passing_more net flows i now next p h e s = record { rest = p.rest ∙ passed_at net flows (scores_of now) i h ∙ ap (λ t. then t (λ t. run_reached (after_junction net flows) t (drop (i + 1) (junction_numbers net)))) e; stands = s }

pub passing_fault : {X X' : Type 0} (seen : X → Option Score) (seen' : X' → Option Score) (net : Network) (flows : Flows) (i : ℕ) (now : Option Kept) (fault : CalcFault) → Passing net flows i now → i < length net.junctions →
    Gives seen (Err fault) (after_junction net flows (scores_of now) (i + 1)) → Gives seen' (Err fault) (game net flows)
passing_fault seen seen' net flows i now fault p h g = fault_then seen seen' fault (after_junction net flows (scores_of now) (i + 1)) _ (game net flows) (p.rest ∙ passed_at net flows (scores_of now) i h) g

pub passing_end : (net : Network) (flows : Flows) (i : ℕ) (now : Option Kept) → Passing net flows i now → length net.junctions ≤ i → game net flows ≡ Reached (scores_of now)
unfolding run_reached
passing_end net flows i now p h = let l = length-range_with_len 1 (length net.junctions) in p.rest ∙ rw (drop_all i (junction_numbers net) (omega (arith, l))) refl

pub passing_stands : (net : Network) (flows : Flows) (i : ℕ) (now : Option Kept) → Passing net flows i now → IfStands net now
passing_stands net flows i now p = p.stands

pub ruleset games = (to_z-of_z, passing_start, passing_more, passing_end, passing_stands)
