-- Copies are near the queues of now, and within the bounds; decided stages are nearly greatest.
use Rattle.std.proofs.Common.{◌≡◌, ◌==◌, ℕ, zero, suc, ◌-◌, ◌*◌, ◌≤◌, ◌<◌, true, List, [], ◌∷◌, length, get_or, map, Option, Some, None, arith, sym, ◌∙◌, ap, subst, zero-le}
use Rattle.std.specs.List.{AllByRecursion}
use Rattle.mp_laws.specs.Copies.{IsNear, KeepsCopies, AreAlike}
use Rattle.mp_laws.specs.Order.{history_of}
use Rattle.mp_laws.specs.Periods.{IsWithin, phase_of}
use Rattle.mp_laws.specs.Reports.{DifferBy}
use Rattle.mp_laws.specs.Stages.{IsNearlyGreatest}
use Rattle.mp_laws.proofs.Bounds.{Stays, step_is}
use Rattle.mp_laws.proofs.Changes.{changes, near_by}
use Rattle.mp_laws.proofs.Greatest.{greatest_stage_by_is}
use Rattle.mp_laws.proofs.Levels.{windows_kept}
use Rattle.mp_laws.proofs.Lists.{AllOf-map, all_of, at_in, each_in, filter_sub, in_numbers}
use Rattle.mp_laws.proofs.Order.{Follows, IsDecided, IsRight, RightStages, count_map, follows, follows_run, opening_follows, some_of}
use Rattle.mp_laws.proofs.Permitted.{stays}
use Rattle.mp_laws.proofs.PromptOrder.{prompt_order}
use Rattle.mp_laws.proofs.Reported.{Linked, ago, reports_near, bound_of_reported}
use Rattle.mp_model.specs.Arrivals.{HasCounts, IsPermitted, StaysWithin, arrivals_of, count_in, next_level}
use Rattle.mp_model.specs.Bounds.{AreBounds, greatest_change}
use Rattle.mp_model.specs.Certificate.{Cert, Certifies}
use Rattle.mp_model.specs.EventCore.{Copy, Event, closed_of, copy_of, core_after, core_opening, decided_at}
use Rattle.mp_model.specs.EventPeriods.{ages_after, no_ages, periods_of}
use Rattle.mp_model.specs.Network.{Network, Junction, entry, from_of, has, junction_at, junction_numbers, link_at, link_numbers, movement_numbers, no_junction, out_of}
use Rattle.mp_model.specs.NetworkRules.{IsNetwork, HasStages}
use Rattle.mp_model.specs.Reports.{History, Period, advance_by, first_history, history_after, reported_queue, reported_run_from, reported_stage, reported_stages, state_ago}
use Rattle.mp_model.specs.Run.{opening, state_after}
use Rattle.mp_model.specs.Slack.{IsSlack}
use Rattle.mp_model.specs.Step.{State, queue, step}

-- from each state to the next no queue changes by more than its greatest change
linked_after : (net : Network) → IsNetwork net → (periods : List Period) (history : History) (level : ℕ → ℕ) → IsWithin net level → Linked net history.now history.earlier → Stays net level (map (λ period. period.counts) periods) →
    Linked net (history_after net history periods).now (history_after net history periods).earlier
linked_after net ok [] history level within linked stays = linked
linked_after net ok (period ∷ periods) history level within linked stays =
    let counts = period.counts in
    let stages = reported_stages net history period.ages in
    let next : ℕ → ℕ = λ l. next_level net.per (link_at net l).rate (level l) (arrivals_of net counts l) in
    let now = step net stages (arrivals_of net counts) history.now in
    let moves = step_is net ok stages counts history.now level within in
    let within' = AllOf-map (λ l. StaysWithin net.per (link_at net l).burst (link_at net l).rate (level l) (map (λ counts. arrivals_of net counts l) (map (λ period. period.counts) (period ∷ periods)))) (λ l. next l ≤ net.per * (link_at net l).burst) (λ l s. s.0) (link_numbers net) stays in
    linked_after net ok periods (advance_by net period history) next within'
    (changes net ok stages (arrivals_of net counts) (queue history.now) (phase_of net history.now) level (queue now) (phase_of net now) next moves within', linked)
    (AllOf-map (λ l. StaysWithin net.per (link_at net l).burst (link_at net l).rate (level l) (map (λ counts. arrivals_of net counts l) (map (λ period. period.counts) (period ∷ periods)))) (λ l. StaysWithin net.per (link_at net l).burst (link_at net l).rate (next l) (map (λ counts. arrivals_of net counts l) (map (λ period. period.counts) periods))) (λ l s. s.1) (link_numbers net) stays)

-- what holds of each state of a run holds of each state of its history
all_history : (net : Network) (P : State → Type 0) (periods : List Period) (history : History) → AllByRecursion P (reported_run_from net history periods) → AllByRecursion P history.earlier → AllByRecursion P ((history_after net history periods).now ∷ (history_after net history periods).earlier)
all_history net P [] history run earlier = (run.0, earlier)
all_history net P (period ∷ periods) history run earlier = all_history net P periods (advance_by net period history) run.1 (run.0, earlier)

at_ago : (P : State → Type 0) (xs : List State) (i : ℕ) (d : State) → P d → AllByRecursion P xs → P (get_or xs i d)
at_ago P [] i d p h = p
at_ago P (x ∷ xs) zero d p h = h.0
at_ago P (x ∷ xs) (suc i) d p h = at_ago P xs i d p h.1

-- the decision of a junction
decision_of : (net : Network) (history : History) (js : List Junction) (ds : List (Option ℕ)) (as' : List (List ℕ)) (i s : ℕ) → RightStages net history js ds as' → get_or ds i None ≡ Some s → IsDecided net history (get_or js i no_junction) (get_or as' i []) s
decision_of net history [] [] [] i s h e = cc
decision_of net history [] [] (b ∷ as') i s h e = absurd h
decision_of net history [] (d ∷ ds) as' i s h e = absurd h
decision_of net history (j ∷ js) [] as' i s h e = absurd h
decision_of net history (j ∷ js) (d ∷ ds) [] i s h e = absurd h
decision_of net history (j ∷ js) (None ∷ ds) (b ∷ as') zero s h e = cc
decision_of net history (j ∷ js) (Some r ∷ ds) (b ∷ as') zero s h e = let same : r ≡ s = cc in subst (IsDecided net history j b) same h.0
decision_of net history (j ∷ js) (d ∷ ds) (b ∷ as') (suc i) s h e = decision_of net history js ds as' i s h.1 e

at_place : {X : Type 0} (P : X → Type 0) (d : X) (xs : List X) (i : ℕ) → i < length xs → AllByRecursion P xs → P (get_or xs i d)
at_place P d [] i lt h = absurd (omega arith)
at_place P d (x ∷ xs) zero lt h = h.0
at_place P d (x ∷ xs) (suc i) lt h = at_place P d xs i (omega arith) h.1

module _ (net : Network) (ok : IsNetwork net) (es : List Event) (counts : AllByRecursion (HasCounts net) (closed_of net (core_opening net) es)) where
  abbrev history : History
  history = history_of net es

  follows_es : Follows net (core_after net (core_opening net) es) history (ages_after net (core_opening net) (no_ages net) es)
  follows_es = (follows net ok es (core_opening net) (first_history net) (no_ages net) (opening_follows net)).follows_to

  permitted : IsPermitted net (map (λ period. period.counts) (periods_of net es))
  permitted = subst (IsPermitted net) (sym (follows_run net ok es).arrivals) (record { counts = counts; windows = windows_kept net es })

  linked : Linked net history.now history.earlier
  linked = linked_after net ok (periods_of net es) (first_history net) (λ l. 0) (all_of (λ l. 0 ≤ net.per * (link_at net l).burst) (λ l. zero-le) (link_numbers net)) tt (stays net (map (λ period. period.counts) (periods_of net es)) permitted)

  copied : (j l : ℕ) (copy : Copy) → copy_of net (core_after net (core_opening net) es) j l ≡ Some copy → IsRight net history (core_after net (core_opening net) es).period l copy
  copied j l copy e = some_of (IsRight net history (core_after net (core_opening net) es).period l) (copy_of net (core_after net (core_opening net) es) j l) copy (follows_es.copies j l) e

  copied_count : (j l : ℕ) (copy : Copy) → copy_of net (core_after net (core_opening net) es) j l ≡ Some copy → (k : ℕ) → has (out_of net l) k ≡ true →
      count_in (out_of net l) copy.counts k ≡ queue (state_ago history ((core_after net (core_opening net) es).period - copy.period)) k
  copied_count j l copy e k in' = ap (λ c. count_in (out_of net l) c k) (copied j l copy e).counts ∙ count_map (queue (state_ago history ((core_after net (core_opening net) es).period - copy.period))) (out_of net l) k in'

  near_copies : (j l : ℕ) (copy : Copy) → copy_of net (core_after net (core_opening net) es) j l ≡ Some copy → IsNear net (core_after net (core_opening net) es).period (core_after net (core_opening net) es).queues l copy
  near_copies j l copy e =
      let period = (core_after net (core_opening net) es).period in
      let right = copied j l copy e in
      let past = right.past in
      let f = follows_es in
      let old = f.old in
      record {
        past = right.past;
        near = each_in (λ k. DifferBy ((period - copy.period) * greatest_change net k) (entry (core_after net (core_opening net) es).queues k) (count_in (out_of net l) copy.counts k)) (out_of net l) (λ k in'.
            subst (λ n. DifferBy ((period - copy.period) * greatest_change net k) (entry (core_after net (core_opening net) es).queues k) n) (sym (copied_count j l copy e k in'))
            (subst (λ Q. DifferBy ((period - copy.period) * greatest_change net k) (entry Q k) (queue (state_ago history (period - copy.period)) k)) (sym f.agrees.queues)
            (ago net history.now history.now history.earlier linked (period - copy.period) k (filter_sub (λ k. from_of net k == l) (movement_numbers net) k in') (omega arith))));
      }

  near_stages : (j s : ℕ) → has (junction_numbers net) j ≡ true → decided_at (core_after net (core_opening net) es) j ≡ Some s → IsNearlyGreatest net (entry (core_after net (core_opening net) es).queues) (junction_at net j) s
  near_stages j s in' e =
      let f = follows_es in
      let i = in_numbers (length net.junctions) j in' in
      let ages = get_or (ages_after net (core_opening net) (no_ages net) es) (j - 1) [] in
      let d = decision_of net history net.junctions (core_after net (core_opening net) es).decided (ages_after net (core_opening net) (no_ages net) es) (j - 1) s f.stages e in
      let some = at_place (λ j. 1 ≤ length j.stages) no_junction net.junctions (j - 1) (omega (arith, i)) ok.some_stage in
      let has' = at_place (HasStages net) no_junction net.junctions (j - 1) (omega (arith, i)) ok.stages in
      subst (λ s. IsNearlyGreatest net (entry (core_after net (core_opening net) es).queues) (junction_at net j) s) (sym d.stage)
      (subst (λ Q. IsNearlyGreatest net (entry Q) (junction_at net j) (reported_stage net history (junction_at net j) ages)) (sym f.agrees.queues)
      (near_by net ok (queue history.now) (reported_queue net history (junction_at net j) ages) (reports_near net history linked (junction_at net j) ages d.timely) (junction_at net j) has'
      (reported_stage net history (junction_at net j) ages) (greatest_stage_by_is net (queue history.now) (reported_queue net history (junction_at net j) ages) (junction_at net j) some)))

  bounded_copies : (cert : Cert) → Certifies net cert → (E D : ℕ) → IsSlack cert E D → (bounds : List ℕ) → AreBounds net E D bounds →
      (j l : ℕ) (copy : Copy) → copy_of net (core_after net (core_opening net) es) j l ≡ Some copy → AllByRecursion (λ k. count_in (out_of net l) copy.counts k ≤ entry bounds k) (out_of net l)
  bounded_copies cert c E D slack bounds are j l copy e =
      let P : State → Type 0 = λ state. AllByRecursion (λ k. queue state k ≤ entry bounds k) (movement_numbers net) in
      let all = all_history net P (periods_of net es) (first_history net) (bound_of_reported net ok cert c E D slack bounds are (periods_of net es) permitted (follows_run net ok es).timely) tt in
      let then = at_ago P (history.now ∷ history.earlier) ((core_after net (core_opening net) es).period - copy.period) history.now all.0 all in
      each_in (λ k. count_in (out_of net l) copy.counts k ≤ entry bounds k) (out_of net l) (λ k in'.
      subst (λ n. n ≤ entry bounds k) (sym (copied_count j l copy e k in')) (at_in (λ k. queue (state_ago history ((core_after net (core_opening net) es).period - copy.period)) k ≤ entry bounds k) k (movement_numbers net) (filter_sub (λ k. from_of net k == l) (movement_numbers net) k in') then))

pub copies_kept : (net : Network) → IsNetwork net → (es : List Event) → AllByRecursion (HasCounts net) (closed_of net (core_opening net) es) → KeepsCopies net es
copies_kept net ok es counts = record { copies = near_copies net ok es counts; decided = near_stages net ok es counts }

pub copies_bounded : (net : Network) → IsNetwork net → (cert : Cert) → Certifies net cert → (E D : ℕ) → IsSlack cert E D → (bounds : List ℕ) → AreBounds net E D bounds → (es : List Event) → AllByRecursion (HasCounts net) (closed_of net (core_opening net) es) →
    (j l : ℕ) (copy : Copy) → copy_of net (core_after net (core_opening net) es) j l ≡ Some copy → AllByRecursion (λ k. count_in (out_of net l) copy.counts k ≤ entry bounds k) (out_of net l)
copies_bounded net ok cert c E D slack bounds are es counts = bounded_copies net ok es counts cert c E D slack bounds are

-- the same periods
pub alike : (net : Network) → IsNetwork net → (es es' : List Event) → periods_of net es ≡ periods_of net es' → AreAlike net es es'
alike net ok es es' same =
    let states : history_of net es ≡ history_of net es' = ap (history_after net (first_history net)) same in
    record { states = states; queues = (follows_run net ok es).agrees.queues ∙ ap (λ h. h.now.queues) states ∙ sym (follows_run net ok es').agrees.queues }

pub prompt_alike : (net : Network) → IsNetwork net → net.delay ≡ 0 → (es es' : List Event) → closed_of net (core_opening net) es ≡ closed_of net (core_opening net) es' → (core_after net (core_opening net) es).queues ≡ (core_after net (core_opening net) es').queues
prompt_alike net ok prompt es es' same =
    (prompt_order net ok prompt es).queues ∙ ap (λ A. (state_after net (opening net) A).queues) same ∙ sym (prompt_order net ok prompt es').queues
