-- Where the delay is 0, a line closes its period with the stages of greatest pressure at the queues of now.
use Rattle.std.proofs.Common.{◌≡◌, ℕ, List, [], ◌∷◌, ◌++◌, Option, Some, None, find, sym, ◌∙◌, ap, refl, subst}
use Rattle.std.specs.Prelude.{OnOk, Result, Ok, Err}
use Rattle.mp_model.specs.EventCore.{Core, Event, all_lacking, apply, arrivals_events, close_at, core_after, core_opening, first_undecided, is_above}
use Rattle.mp_model.specs.EventCore.Answer.{closed}
use Rattle.mp_model.specs.EventCore.Event.{close}
use Rattle.mp_model.specs.EventPeriods.{ages_after, no_ages}
use Rattle.mp_model.specs.Network.{Network, entry, fed}
use Rattle.mp_model.specs.NetworkRules.{IsNetwork}
use Rattle.mp_model.specs.Reports.{History, first_history}
use Rattle.mp_model.specs.Run.{greatest_stages}
use Rattle.mp_laws.specs.Order.{history_of}
use Rattle.mp_laws.proofs.LineEvents.{after_append, performs_line}
use Rattle.mp_laws.proofs.Order.{Follows, follows, opening_follows}
use Rattle.mp_laws.proofs.Reported.{zero_stages}
use Rattle.mp_step.specs.declared.state.AboveAt.{AboveAt}
use Rattle.mp_round.specs.Events.{closing_answer}
use Rattle.mp_round.specs.RoundView.{RoundView, core_of}
use Rattle.mp_round.proofs.Quiet.{prompt_stages}
use Rattle.mp_session.specs.SessionView.{IsReached}

-- a core that follows a run closes with the greatest stages
closes_prompt : (net : Network) → net.delay ≡ 0 → (core : Core) (history : History) (ages : List (List ℕ)) → Follows net core history ages → (counts : List ℕ) → (apply net core (close counts)).0 ≡ closed →
    (apply net core (close counts)).1.last ≡ greatest_stages net (entry core.queues)
closes_prompt net prompt core history ages f counts h = go (first_undecided 1 core.decided) refl (find (is_above net core counts) (fed net)) h
  where
    go : (u : Option ℕ) → first_undecided 1 core.decided ≡ u → (above : Option ℕ) → (close_at net core counts u above).0 ≡ closed → (close_at net core counts u above).1.last ≡ greatest_stages net (entry core.queues)
    go (Some j) e above h = cc
    go None e (Some l) h = cc
    go None e None h =
        let chosen = prompt_stages net prompt history 1 net.junctions core.decided ages f.stages e in
        chosen.stages ∙ zero_stages net history net.junctions ages chosen.count chosen.zeros ∙ ap (λ qs. greatest_stages net (entry qs)) (sym f.agrees.queues)

-- and so does a line after any events, since what the period lacks changes no queue
line_greatest : (net : Network) → IsNetwork net → net.delay ≡ 0 → (es : List Event) (counts : List ℕ) →
    let core = core_after net (core_opening net) es in
    (apply net (core_after net core (all_lacking net core)) (close counts)).0 ≡ closed → (core_after net core (arrivals_events net core counts)).last ≡ greatest_stages net (entry core.queues)
line_greatest net ok prompt es counts h =
    let core : Core = core_after net (core_opening net) es in
    let ready : Core = core_after net core (all_lacking net core) in
    let f = (follows net ok (es ++ all_lacking net core) (core_opening net) (first_history net) (no_ages net) (opening_follows net)).follows_to in
    let all : Follows net ready (history_of net (es ++ all_lacking net core)) (ages_after net (core_opening net) (no_ages net) (es ++ all_lacking net core)) =
    subst (λ (core : Core). Follows net core (history_of net (es ++ all_lacking net (core_after net (core_opening net) es))) (ages_after net (core_opening net) (no_ages net) (es ++ all_lacking net (core_after net (core_opening net) es)))) (after_append net es (all_lacking net core) (core_opening net)) f in
    ap (λ (core : Core). core.last) (after_append net (all_lacking net core) (close counts ∷ []) core)
    ∙ closes_prompt net prompt ready (history_of net (es ++ all_lacking net core)) (ages_after net (core_opening net) (no_ages net) (es ++ all_lacking net core)) all counts h
    ∙ ap (λ qs. greatest_stages net (entry qs)) (performs_line net ok es counts).queues

-- so a line that a session closes shows them
pub line_prompt : (net : Network) → IsNetwork net → (round next : RoundView) → IsReached net round → (counts : List ℕ) (r : Result (Unit {0}) AboveAt) →
    core_of next ≡ core_after net (core_of round) (arrivals_events net (core_of round) counts) →
    closing_answer r ≡ (apply net (core_after net (core_of round) (all_lacking net (core_of round))) (close counts)).0 →
    net.delay ≡ 0 → OnOk r (next.last ≡ greatest_stages net (entry round.standing.queues))
line_prompt net ok round next reached counts (Err above) core answer prompt = tt
line_prompt net ok round next reached counts (Ok done) core answer prompt =
    ap (λ (core : Core). core.last) core
    ∙ subst (λ (now : Core). (apply net (core_after net now (all_lacking net now)) (close counts)).0 ≡ closed → (core_after net now (arrivals_events net now counts)).last ≡ greatest_stages net (entry now.queues)) (sym reached.core)
    (line_greatest net ok prompt reached.events counts) (sym answer)
