-- What a line does to a run by events.
use Rattle.std.proofs.Common.{◌≡◌, ◌<◌, ◌^◌, ℕ, ◌+◌, List, [], ◌∷◌, ◌++◌, length, Option, Some, None, IsTrue, arith, refl, sym, ◌∙◌, ap, ap₂, subst}
use Rattle.std.proofs.lemmas.List.{append-nil}
use Rattle.std.specs.List.{AllByRecursion}
use Rattle.mp_edge.specs.Outside.{Tells, GainsPrefix}
use Rattle.mp_edge.proofs.Told.{Tells-same, Tells-weaker}
use Rattle.mp_model.specs.Arrivals.{HasCounts}
use Rattle.mp_model.specs.EventCore.{Answer, Core, Event, all_lacking, apply, arrivals_events, core_after}
use Rattle.mp_model.specs.EventCore.Answer.{above_at, closed}
use Rattle.mp_model.specs.EventCore.Event.{hear, decide, close}
use Rattle.mp_model.specs.EventPeriods.{periods_from, periods_of}
use Rattle.mp_model.specs.Log.{period_line, text_of}
use Rattle.mp_model.specs.Network.{Network, has, junction_numbers}
use Rattle.mp_model.specs.NetworkRules.{IsNetwork}
use Rattle.mp_model.specs.ReportedLog.{reported_line, reported_lines}
use Rattle.mp_model.specs.Reports.{first_history}
use Rattle.mp_model.specs.Stream.{LineKind, arrivals_of_kinds, line_events}
use Rattle.mp_model.specs.Stream.LineKind.{skipped_line, arrivals_line, long_line, bad_line, hear_line, decide_line}
use Rattle.mp_model.specs.StreamEnd.{StreamEnd, earlier, first_refusal, refusal_of}
use Rattle.mp_model.specs.StreamEnd.StreamEnd.{above_in}
use Rattle.mp_laws.proofs.Lists.{in_numbers}
use Rattle.mp_press.specs.Written.{IsAmong}
use Rattle.mp_laws.proofs.LineEvents.{performs_line, refusal_append}
use Rattle.mp_round.specs.RoundView.{RoundView, core_of}
use Rattle.mp_run.proofs.PeriodLemmas.{one_line}
use Rattle.mp_stream.specs.Course.{IsTaken}
use Rattle.mp_stream.specs.Taking.{CutsShort, HasRoom, Takes, WritesMore}
use Rattle.mp_event_run.specs.Behind.{core_behind, events_behind, history_behind, periods_behind, refusal_behind}
use Rattle.mp_event_run.specs.Running.{course_of, end_refused, IsEventLine, IsRefused, Performs, StandsBehind}
use Rattle.mp_event_run.specs.declared.ends.Refusal.{Refusal}
use Rattle.mp_event_run.specs.declared.ends.Refusal.TheVariants.{Above}
use Rattle.mp_event_run.proofs.Lines.{ages_behind, core_more, decide_no_period, events_more, hear_no_period, periods_more}
use Rattle.mp_event_run.proofs.Periods.{line_is, lines_more, period_closes, period_there}
use Rattle.mp_event_run.proofs.Permits.{period_behind, permitted_more}

-- a run has room for a period
pub room_for_period : (net : Network) → IsNetwork net → (round : RoundView) → HasRoom (StandsBehind net round) → round.standing.period < 2 ^ 48
room_for_period net ok round room =
    let few = room.few in
    let same = ap (λ (c : Core). c.period) room.stands.core in
    let count = period_behind net ok room.kinds room.stands.permitted in
    omega arith

-- a junction of the network is among its junctions
pub junction_there : (net : Network) (j : ℕ) → IsTrue (has (junction_numbers net) j) → IsAmong (length net.junctions) j
junction_there net j h = let i = in_numbers (length net.junctions) j h in (i.0, omega (arith, i))

-- the run stands behind one more line
stands_more : (net : Network) (kinds : List LineKind) (kind : LineKind) (old new : RoundView) → Performs net old kind new → StandsBehind net old kinds → refusal_behind net kinds kind ≡ None → AllByRecursion (HasCounts net) (arrivals_of_kinds (kind ∷ [])) →
    StandsBehind net new (kinds ++ kind ∷ [])
stands_more net kinds kind old new performs on unrefused counts = record {
  core = performs ∙ ap (λ c. core_after net c (line_events net c kind)) on.core ∙ sym (core_more net kinds kind);
  permitted = permitted_more net kinds kind on.permitted unrefused counts;
}

-- a line that closes no period writes nothing
writes_nothing : (net : Network) (kinds : List LineKind) (kind : LineKind) (held : Option (List ℕ)) → periods_from net (core_behind net kinds) (ages_behind net kinds) (line_events net (core_behind net kinds) kind) ≡ [] →
    WritesMore (reported_lines net (periods_behind net kinds)) (reported_lines net (periods_behind net (kinds ++ kind ∷ []))) held held
writes_nothing net kinds kind held none = (
  [],
  ap (reported_lines net) (periods_more net kinds kind ∙ ap (λ ps. periods_behind net kinds ++ ps) none ∙ append-nil (periods_behind net kinds)) ∙ sym (append-nil (reported_lines net (periods_behind net kinds))),
  Tells-same held _ (λ before. sym (append-nil before)),
)

-- a skipped line changes nothing
pub takes_skipped : (net : Network) (round : RoundView) (held : Option (List ℕ)) → Takes (course_of net) (StandsBehind net round) (StandsBehind net round) skipped_line held held
takes_skipped net round held = record {
  taken = tt;
  stands = λ kinds on. stands_more net kinds skipped_line round round refl on refl tt;
  permitted = λ kinds on. permitted_more net kinds skipped_line on.permitted refl tt;
  written = λ kinds on. writes_nothing net kinds skipped_line held refl;
}

-- a hearing or a decision is one event, and closes no period
pub record EventLine (net : Network) (kind : LineKind) (event : Event) : Type 0 where
  pub taken : IsTaken kind
  pub events : (core : Core) → line_events net core kind ≡ event ∷ []
  pub periods : (core : Core) (ages : List (List ℕ)) → periods_from net core ages (event ∷ []) ≡ []
  pub counts : AllByRecursion (HasCounts net) (arrivals_of_kinds (kind ∷ []))

event_line : (net : Network) (kind : LineKind) (event : Event) → IsEventLine kind event → EventLine net kind event
event_line net (hear_line j l) event is = record {
  taken = tt;
  events = λ core. ap (λ e. e ∷ []) (sym is);
  periods = λ core ages. subst (λ e. periods_from net core ages (e ∷ []) ≡ []) (sym is) (hear_no_period (apply net core (hear j l)).0 j l ages []);
  counts = tt;
}
event_line net (decide_line j) event is = record {
  taken = tt;
  events = λ core. ap (λ e. e ∷ []) (sym is);
  periods = λ core ages. subst (λ e. periods_from net core ages (e ∷ []) ≡ []) (sym is) (decide_no_period (apply net core (decide j)).0 j ages []);
  counts = tt;
}
event_line net long_line event is = absurd is
event_line net skipped_line event is = absurd is
event_line net (arrivals_line counts) event is = absurd is
event_line net bad_line event is = absurd is

earlier_none : (o : Option StreamEnd) → earlier o None ≡ o
earlier_none None = refl
earlier_none (Some e) = refl

module _ (net : Network) (kind : LineKind) (event : Event) (is : IsEventLine kind event) (answer : Answer) (old new : RoundView) (applied : (answer, core_of new) ≡ apply net (core_of old) event) where
  pub performs_event : Performs net old kind new
  performs_event = ap (λ (r : Answer × Core). r.1) applied ∙ ap (core_after net (core_of old)) (sym ((event_line net kind event is).events (core_of old)))

  -- the line is refused as its event is
  refusal_is : (why : Option Refusal) → ((line : ℕ) → refusal_of line (old.standing.period + 1) answer ≡ end_refused line why) → (kinds : List LineKind) → StandsBehind net old kinds → refusal_behind net kinds kind ≡ end_refused (length kinds + 1) why
  refusal_is why refused kinds on =
      let n = length kinds + 1 in
      subst (λ c. first_refusal net n c (line_events net c kind) ≡ end_refused n why) on.core
      (ap (first_refusal net n (core_of old)) ((event_line net kind event is).events (core_of old)) ∙ earlier_none (refusal_of n (old.standing.period + 1) (apply net (core_of old) event).0)
      ∙ ap (λ (r : Answer × Core). refusal_of n (old.standing.period + 1) r.0) (sym applied) ∙ refused n)

  pub takes_event : (held : Option (List ℕ)) → ((line : ℕ) → refusal_of line (old.standing.period + 1) answer ≡ end_refused line None) → Takes (course_of net) (StandsBehind net old) (StandsBehind net new) kind held held
  takes_event held unrefused =
      let e = event_line net kind event is in
      record {
        taken = e.taken;
        stands = λ kinds on. stands_more net kinds kind old new performs_event on (refusal_is None unrefused kinds on) e.counts;
        permitted = λ kinds on. permitted_more net kinds kind on.permitted (refusal_is None unrefused kinds on) e.counts;
        written = λ kinds on. writes_nothing net kinds kind held (ap (periods_from net (core_behind net kinds) (ages_behind net kinds)) (e.events (core_behind net kinds)) ∙ e.periods (core_behind net kinds) (ages_behind net kinds));
      }

  pub refuses_event : (why : Refusal) → ((line : ℕ) → refusal_of line (old.standing.period + 1) answer ≡ end_refused line (Some why)) → (kinds : List LineKind) → StandsBehind net old kinds → IsRefused net kinds kind why
  refuses_event why refused kinds on = refusal_is (Some why) refused kinds on

-- the answer to the close of a line
abbrev pub close_answer : Network → Core → List ℕ → Answer
close_answer net core counts = (apply net (core_after net core (all_lacking net core)) (close counts)).0

module _ (net : Network) (ok : IsNetwork net) (counts : List ℕ) (has : HasCounts net counts) (old : RoundView) where
  -- nothing but the close of a line of arrivals is refused
  close_refusal : (kinds : List LineKind) (a : Answer) → close_answer net (core_behind net kinds) counts ≡ a →
      refusal_behind net kinds (arrivals_line counts) ≡ refusal_of (length kinds + 1) ((core_behind net kinds).period + 1) a
  close_refusal kinds a is =
      let n = length kinds + 1 in
      let core = core_behind net kinds in
      let lack = all_lacking net core in
      let ready = core_after net core lack in
      let p = performs_line net ok (events_behind net kinds) counts in
      refusal_append net n lack (close counts ∷ []) core (p.quiet n) ∙ earlier_none (refusal_of n (ready.period + 1) (apply net ready (close counts)).0) ∙ ap₂ (λ m a. refusal_of n (m + 1) a) p.period is

  there : (kinds : List LineKind) → StandsBehind net old kinds → (a : Answer) → a ≡ close_answer net (core_of old) counts → close_answer net (core_behind net kinds) counts ≡ a
  there kinds on a is = sym (is ∙ ap (λ c. close_answer net c counts) on.core)

  -- arrivals above a bucket refuse their line
  pub refuses_arrivals : (period l : ℕ) → period ≡ old.standing.period + 1 → above_at l ≡ close_answer net (core_of old) counts → (kinds : List LineKind) → StandsBehind net old kinds → IsRefused net kinds (arrivals_line counts) (Above period l)
  refuses_arrivals period l next is kinds on =
      close_refusal kinds (above_at l) (there kinds on (above_at l) is) ∙ ap (λ p. Some (above_in (length kinds + 1) p l)) (ap (λ (c : Core). c.period + 1) (sym on.core) ∙ sym next)

  module _ (new : RoundView) (performs : Performs net old (arrivals_line counts) new) (shut : closed ≡ close_answer net (core_of old) counts) where
    unrefused : (kinds : List LineKind) → StandsBehind net old kinds → refusal_behind net kinds (arrivals_line counts) ≡ None
    unrefused kinds on = close_refusal kinds closed (there kinds on closed shut)

    -- the line of the period that is closed
    abbrev line_there : List LineKind → List ℕ
    line_there kinds = reported_line net (history_behind net kinds) (period_there net ok (events_behind net kinds) counts)

    lines_there : (kinds : List LineKind) → StandsBehind net old kinds → reported_lines net (periods_behind net (kinds ++ arrivals_line counts ∷ [])) ≡ reported_lines net (periods_behind net kinds) ++ line_there kinds ∷ []
    lines_there kinds on =
        ap (reported_lines net) (ap (periods_of net) (events_more net kinds (arrivals_line counts)) ∙ period_closes net ok (events_behind net kinds) counts (there kinds on closed shut))
        ∙ lines_more net (first_history net) (periods_behind net kinds) (period_there net ok (events_behind net kinds) counts)

    put_is : (stages : List ℕ) (period : ℕ) → stages ≡ new.last → period ≡ new.standing.period → (kinds : List LineKind) → StandsBehind net old kinds → period_line period counts stages new.standing.queues ++ 10 ∷ [] ≡ text_of (line_there kinds ∷ [])
    put_is stages period chosen number kinds on =
        let new_is : core_of new ≡ core_after net (core_behind net kinds) (arrivals_events net (core_behind net kinds) counts) = performs ∙ ap (λ c. core_after net c (arrivals_events net c counts)) on.core in
        ap₂ (λ p s. period_line p counts s new.standing.queues ++ 10 ∷ []) number chosen
        ∙ ap (λ line. line ++ 10 ∷ []) (sym (line_is net ok (events_behind net kinds) counts (core_of new) new_is (there kinds on closed shut)))
        ∙ sym (one_line (line_there kinds))

    more : (kinds : List LineKind) → StandsBehind net old kinds → StandsBehind net new (kinds ++ arrivals_line counts ∷ [])
    more kinds on = stands_more net kinds (arrivals_line counts) old new performs on (unrefused kinds on) (has, tt)

    -- a put that succeeds closes the period
    pub closes_arrivals : (stages : List ℕ) (period : ℕ) (was now : Option (List ℕ)) → stages ≡ new.last → period ≡ new.standing.period →
        Tells was now (λ before after. after ≡ before ++ (period_line period counts stages new.standing.queues ++ 10 ∷ [])) → Takes (course_of net) (StandsBehind net old) (StandsBehind net new) (arrivals_line counts) was now
    closes_arrivals stages period was now chosen number told = record {
      taken = tt;
      stands = more;
      permitted = λ kinds on. (more kinds on).permitted;
      written = λ kinds on. (line_there kinds ∷ [], lines_there kinds on, Tells-weaker was now _ _ (λ before after e. e ∙ ap (λ xs. before ++ xs) (put_is stages period chosen number kinds on)) told);
    }

    -- one that fails cuts its line short
    pub cuts_arrivals : (stages : List ℕ) (period : ℕ) (was now : Option (List ℕ)) → stages ≡ new.last → period ≡ new.standing.period →
        Tells was now (GainsPrefix (period_line period counts stages new.standing.queues ++ 10 ∷ [])) → CutsShort (course_of net) (StandsBehind net old) (arrivals_line counts) was now
    cuts_arrivals stages period was now chosen number told = record {
      taken = tt;
      permitted = λ kinds on. (more kinds on).permitted;
      written = λ kinds on. (line_there kinds ∷ [], lines_there kinds on, subst (λ (text : List ℕ). Tells was now (GainsPrefix text)) (put_is stages period chosen number kinds on) told);
    }
