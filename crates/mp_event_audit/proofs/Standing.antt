-- What a round shows that stands behind lines of arrivals.
use Rattle.std.proofs.Common.{◌≡◌, ℕ, suc, ◌+◌, ◌%◌, List, [], ◌∷◌, ◌++◌, length, arith, refl, sym, ◌∙◌, ap, ap₂, subst}
use Rattle.std.proofs.Math.Nat.{suc-mod, zero-mod}
use Rattle.std.proofs.lemmas.List.{append_assoc, append-nil, length-append}
use Rattle.mp_model.specs.EventCore.{Core, Event, all_lacking, apply, arrivals_events, core_after, core_opening}
use Rattle.mp_model.specs.EventCore.Event.{close}
use Rattle.mp_model.specs.EventPeriods.{ages_after, no_ages, periods_from, periods_of}
use Rattle.mp_model.specs.Log.{period_line}
use Rattle.mp_model.specs.Network.{Network}
use Rattle.mp_model.specs.NetworkRules.{IsNetwork}
use Rattle.mp_model.specs.ReportedLog.{reported_line, reported_lines_from}
use Rattle.mp_model.specs.Reports.{History, Period, advance_by, first_history, history_after, renewed_ages, renewed_periods, reported_stages}
use Rattle.mp_laws.specs.Order.{Agrees}
use Rattle.mp_laws.proofs.LineEvents.{after_append}
use Rattle.mp_laws.proofs.Order.{follows_run}
use Rattle.mp_laws.proofs.Renewed.{periods_append}
use Rattle.mp_step.specs.Standing.{Stands}
use Rattle.mp_round.specs.RoundView.{RoundView, core_of}
use Rattle.mp_event_audit.specs.Behind.{AllClose, Closes, StandsBehind, core_from, history_behind, line_behind, lines_behind, period_behind, shown_line}
use Rattle.mp_event_audit.specs.Auditing.{ClosesLogged}
use Rattle.mp_event_audit.proofs.Renewing.{Starts, ages_append, closes_aged, next_age, opening_starts}

-- one more period of a run
pub renewed_more : (net : Network) (before : ℕ) (A : List (List ℕ)) (counts : List ℕ) → renewed_periods net before (A ++ counts ∷ []) ≡ renewed_periods net before A ++ record { counts = counts; ages = renewed_ages net (before + length A) } ∷ []
renewed_more net before [] counts =
    let next : before ≡ before + 0 = omega arith in
    ap (λ n. let p : Period = record { counts = counts; ages = renewed_ages net n } in p ∷ []) next
renewed_more net before (c ∷ A) counts =
    let first : Period = record { counts = c; ages = renewed_ages net before } in
    let next : before + 1 + length A ≡ before + suc (length A) = omega arith in
    ap (λ (ps : List Period). first ∷ ps) (renewed_more net (before + 1) A counts)
    ∙ ap (λ n. let p : Period = record { counts = counts; ages = renewed_ages net n } in first ∷ (renewed_periods net (before + 1) A ++ p ∷ [])) next

pub history_more : (net : Network) (periods : List Period) (history : History) (period : Period) → history_after net history (periods ++ period ∷ []) ≡ advance_by net period (history_after net history periods)
history_more net [] history period = refl
history_more net (p ∷ ps) history period = history_more net ps (advance_by net p history) period

pub lines_more : (net : Network) (periods : List Period) (history : History) (period : Period) → reported_lines_from net history (periods ++ period ∷ []) ≡ reported_lines_from net history periods ++ reported_line net (history_after net history periods) period ∷ []
lines_more net [] history period = refl
lines_more net (p ∷ ps) history period = ap (λ lines. reported_line net history p ∷ lines) (lines_more net ps (advance_by net p history) period)

renewed_next : (net : Network) (A : List (List ℕ)) (counts : List ℕ) → renewed_periods net 0 (A ++ counts ∷ []) ≡ renewed_periods net 0 A ++ period_behind net A counts ∷ []
renewed_next net A counts =
    let place : 0 + length A ≡ length A = omega arith in
    renewed_more net 0 A counts ∙ ap (λ n. let p : Period = record { counts = counts; ages = renewed_ages net n } in renewed_periods net 0 A ++ p ∷ []) place

pub history_next : (net : Network) (A : List (List ℕ)) (counts : List ℕ) → history_behind net (A ++ counts ∷ []) ≡ advance_by net (period_behind net A counts) (history_behind net A)
history_next net A counts = ap (history_after net (first_history net)) (renewed_next net A counts) ∙ history_more net (renewed_periods net 0 A) (first_history net) (period_behind net A counts)

pub lines_next : (net : Network) (A : List (List ℕ)) (counts : List ℕ) → lines_behind net (A ++ counts ∷ []) ≡ lines_behind net A ++ line_behind net A counts ∷ []
lines_next net A counts = ap (reported_lines_from net (first_history net)) (renewed_next net A counts) ∙ lines_more net (renewed_periods net 0 A) (first_history net) (period_behind net A counts)

-- the core after lines of these arrivals, each of which closed, and the events that lead to it
pub record Held (net : Network) (core : Core) (A : List (List ℕ)) : Type 0 where
  pub events : List Event
  pub is : core ≡ core_after net (core_opening net) events
  pub periods : periods_of net events ≡ renewed_periods net 0 A
  pub ages : ages_after net (core_opening net) (no_ages net) events ≡ no_ages net
  pub starts : Starts net core (length A % (net.delay + 1))

held_first : (net : Network) → Held net (core_opening net) []
held_first net = record { events = []; is = refl; periods = refl; ages = refl; starts = subst (Starts net (core_opening net)) (sym (zero-mod (net.delay + 1))) (opening_starts net) }

-- the events of a line behind others
after_lines : (net : Network) (es es' : List Event) (core : Core) → core ≡ core_after net (core_opening net) es → core_after net (core_opening net) (es ++ es') ≡ core_after net core es'
after_lines net es es' core is = after_append net es es' (core_opening net) ∙ ap (λ c. core_after net c es') (sym is)

periods_lines : (net : Network) (core : Core) (A : List (List ℕ)) → (h : Held net core A) → (es : List Event) → periods_of net (h.events ++ es) ≡ renewed_periods net 0 A ++ periods_from net core (no_ages net) es
periods_lines net core A h es =
    periods_append net h.events es (core_opening net) (no_ages net)
    ∙ ap₂ ◌++◌ h.periods (ap (λ c. periods_from net c (ages_after net (core_opening net) (no_ages net) h.events) es) (sym h.is) ∙ ap (λ a. periods_from net core a es) h.ages)

ages_lines : (net : Network) (core : Core) (A : List (List ℕ)) → (h : Held net core A) → (es : List Event) → ages_after net (core_opening net) (no_ages net) (h.events ++ es) ≡ ages_after net core (no_ages net) es
ages_lines net core A h es =
    ages_append net h.events es (core_opening net) (no_ages net)
    ∙ ap (λ c. ages_after net c (ages_after net (core_opening net) (no_ages net) h.events) es) (sym h.is) ∙ ap (λ a. ages_after net core a es) h.ages

held_more : (net : Network) (core : Core) (A : List (List ℕ)) (counts : List ℕ) → Held net core A → Closes net core counts → Held net (core_after net core (arrivals_events net core counts)) (A ++ counts ∷ [])
held_more net core A counts h closes =
    let c = closes_aged net core (length A % (net.delay + 1)) counts h.starts closes in
    let es = arrivals_events net core counts in
    let size : length (A ++ counts ∷ []) ≡ suc (length A) = omega (arith, length-append A (counts ∷ [])) in
    let age : next_age net (length A % (net.delay + 1)) ≡ length (A ++ counts ∷ []) % (net.delay + 1) = sym (suc-mod (length A) (net.delay + 1)) ∙ ap (λ n. n % (net.delay + 1)) (sym size) in
    record {
      events = h.events ++ es;
      is = sym (after_lines net h.events es core h.is);
      periods = periods_lines net core A h es ∙ ap (λ (ps : List Period). renewed_periods net 0 A ++ ps) c.periods ∙ sym (renewed_next net A counts);
      ages = ages_lines net core A h es ∙ c.ages;
      starts = subst (Starts net (core_after net core es)) age c.starts;
    }

held_from : (net : Network) (A before : List (List ℕ)) (core : Core) → Held net core before → AllClose net core A → Held net (core_from net core A) (before ++ A)
held_from net [] before core h all = subst (Held net core) (sym (append-nil before)) h
held_from net (c ∷ A) before core h all =
    subst (Held net (core_from net (core_after net core (arrivals_events net core c)) A)) (append_assoc before (c ∷ []) A)
    (held_from net A (before ++ c ∷ []) (core_after net core (arrivals_events net core c)) (held_more net core before c h all.0) all.1)

held : (net : Network) (round : RoundView) (A : List (List ℕ)) → StandsBehind net round A → Held net (core_of round) A
held net round A s = subst (λ c. Held net c A) (sym s.core) (held_from net A [] (core_opening net) (held_first net) s.closes)

held_agrees : (net : Network) → IsNetwork net → (core : Core) (A : List (List ℕ)) → Held net core A → Agrees net core (history_behind net A).now
held_agrees net ok core A h =
    let f = (follows_run net ok h.events).agrees in
    subst (λ c. Agrees net c (history_behind net A).now) (sym h.is) (subst (λ (ps : List Period). Agrees net (core_after net (core_opening net) h.events) (history_after net (first_history net) ps).now) h.periods f)

-- a round stands where the run does
pub stands_at : (net : Network) → IsNetwork net → (round : RoundView) (A : List (List ℕ)) → StandsBehind net round A → Stands net round.standing (history_behind net A).now
stands_at net ok round A s = let a = held_agrees net ok (core_of round) A (held net round A s) in record { queues = a.queues; phases = a.phases; period = a.period; total_in = a.total_in; total_out = a.total_out }

-- the stages of the line that closes
held_stages : (net : Network) → IsNetwork net → (core : Core) (A : List (List ℕ)) (counts : List ℕ) → Held net core A → Closes net core counts → (core_after net core (arrivals_events net core counts)).last ≡ reported_stages net (history_behind net A) (renewed_ages net (length A))
held_stages net ok core A counts h closes =
    let c = closes_aged net core (length A % (net.delay + 1)) counts h.starts closes in
    let es = h.events ++ all_lacking net core in
    let ready = core_after net core (all_lacking net core) in
    let there : core_after net (core_opening net) es ≡ ready = after_lines net h.events (all_lacking net core) core h.is in
    let periods : periods_of net es ≡ renewed_periods net 0 A = periods_lines net core A h (all_lacking net core) ∙ ap (λ (ps : List Period). renewed_periods net 0 A ++ ps) c.quiet ∙ append-nil (renewed_periods net 0 A) in
    let ages : ages_after net (core_opening net) (no_ages net) es ≡ renewed_ages net (length A) = ages_lines net core A h (all_lacking net core) ∙ c.ready_ages in
    let greatest = (follows_run net ok es).greatest counts (ap (λ c. (apply net c (close counts)).0) there ∙ closes) in
    ap (λ (core : Core). core.last) c.after ∙ ap (λ c. (apply net c (close counts)).1.last) (sym there) ∙ greatest
    ∙ ap₂ (reported_stages net) (ap (history_after net (first_history net)) periods) ages

-- the line that a round shows is that of the run
pub shown_is : (net : Network) → IsNetwork net → (line counts : List ℕ) (old new : RoundView) (A : List (List ℕ)) → StandsBehind net old A → ClosesLogged net line counts old new → shown_line new counts ≡ line_behind net A counts
shown_is net ok line counts old new A s c =
    let h = held net old A s in
    let next = advance_by net (period_behind net A counts) (history_behind net A) in
    let agrees : Agrees net (core_of new) next.now =
    subst (λ (core : Core). Agrees net core next.now) (sym c.core)
    (subst (λ (history : History). Agrees net (core_after net (core_of old) (arrivals_events net (core_of old) counts)) history.now) (history_next net A counts)
    (held_agrees net ok (core_after net (core_of old) (arrivals_events net (core_of old) counts)) (A ++ counts ∷ []) (held_more net (core_of old) A counts h c.closes))) in
    let stages : new.last ≡ reported_stages net (history_behind net A) (renewed_ages net (length A)) = ap (λ (core : Core). core.last) c.core ∙ held_stages net ok (core_of old) A counts h c.closes in
    ap (λ p. period_line p counts new.last new.standing.queues) agrees.period ∙ ap (λ ss. period_line next.now.period counts ss new.standing.queues) stages
    ∙ ap (λ qs. period_line next.now.period counts (reported_stages net (history_behind net A) (renewed_ages net (length A))) qs) agrees.queues

-- one more line behind those before
closes_next : (net : Network) (A : List (List ℕ)) (counts : List ℕ) (core : Core) → AllClose net core A → Closes net (core_from net core A) counts → AllClose net core (A ++ counts ∷ [])
closes_next net [] counts core all closes = (closes, tt)
closes_next net (c ∷ A) counts core all closes = (all.0, closes_next net A counts (core_after net core (arrivals_events net core c)) all.1 closes)

core_next : (net : Network) (A : List (List ℕ)) (counts : List ℕ) (core : Core) → core_from net core (A ++ counts ∷ []) ≡ core_after net (core_from net core A) (arrivals_events net (core_from net core A) counts)
core_next net [] counts core = refl
core_next net (c ∷ A) counts core = core_next net A counts (core_after net core (arrivals_events net core c))

pub stands_next : (net : Network) (line counts : List ℕ) (old new : RoundView) (A : List (List ℕ)) → StandsBehind net old A → ClosesLogged net line counts old new → StandsBehind net new (A ++ counts ∷ [])
stands_next net line counts old new A s c = record {
  taken = c.taken A s.taken;
  closes = closes_next net A counts (core_opening net) s.closes (subst (λ core. Closes net core counts) s.core c.closes);
  core = c.core ∙ ap (λ core. core_after net core (arrivals_events net core counts)) s.core ∙ sym (core_next net A counts (core_opening net));
}

-- how many periods a run has
pub history_period : (net : Network) (periods : List Period) (history : History) → (history_after net history periods).now.period ≡ history.now.period + length periods
history_period net [] history = omega arith
history_period net (p ∷ ps) history = let rest = history_period net ps (advance_by net p history) in omega (arith, rest)

pub renewed_length : (net : Network) (before : ℕ) (A : List (List ℕ)) → length (renewed_periods net before A) ≡ length A
renewed_length net before [] = refl
renewed_length net before (c ∷ A) = let rest = renewed_length net (before + 1) A in omega (arith, rest)

pub behind_period : (net : Network) (A : List (List ℕ)) → (history_behind net A).now.period ≡ length A
behind_period net A = omega (arith, history_period net (renewed_periods net 0 A) (first_history net), renewed_length net 0 A)

pub standing_period : (net : Network) → IsNetwork net → (round : RoundView) (A : List (List ℕ)) → StandsBehind net round A → round.standing.period ≡ length A
standing_period net ok round A s = (stands_at net ok round A s).period ∙ behind_period net A
