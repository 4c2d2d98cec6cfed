-- Lines none of whose events is refused.
use Rattle.std.proofs.Common.{◌≡◌, ◌≤◌, ◌^◌, ℕ, ◌+◌, cond, List, [], ◌∷◌, ◌++◌, length, map, Option, Some, None, arith, refl, sym, ◌∙◌, ap, ap₂, subst, append_assoc}
use Rattle.std.proofs.lemmas.Bool.{le-ltb}
use Rattle.std.proofs.lemmas.List.{length-map}
use Rattle.std.specs.List.{AllByRecursion}
use Rattle.mp_model.specs.Arrivals.{HasCounts, IsPermitted}
use Rattle.mp_model.specs.EventCore.{Answer, Core, Event, apply, closed_of, core_after, core_opening}
use Rattle.mp_model.specs.EventPeriods.{no_ages}
use Rattle.mp_model.specs.Network.{Network}
use Rattle.mp_model.specs.NetworkRules.{IsNetwork}
use Rattle.mp_model.specs.Reports.{AllTimely, History, Period, advance_by, first_history, history_after}
use Rattle.mp_model.specs.Stream.{LineKind, arrivals_of_kinds, line_events}
use Rattle.mp_model.specs.Stream.LineKind.{skipped_line, arrivals_line, long_line, bad_line, hear_line, decide_line}
use Rattle.mp_model.specs.StreamEnd.{StreamEnd, earlier, first_refusal, kind_refusal, line_refusal, refusal_of}
use Rattle.mp_model.specs.StreamEnd.StreamEnd.{too_many}
use Rattle.mp_laws.proofs.LineEvents.{after_append, closed_append}
use Rattle.mp_laws.proofs.Levels.{windows_kept}
use Rattle.mp_laws.proofs.Order.{closed_counts, follows_run}
use Rattle.mp_laws.proofs.StreamEnds.{HasSize, kinds_more, line_closes, opening_size, size_after}
use Rattle.mp_stream.specs.Course.{IsTaken}
use Rattle.mp_stream.proofs.KindLemmas.{few_arrivals}
use Rattle.mp_event_run.specs.Behind.{ArePermitted, AreUnrefused, core_behind, events_behind, events_from, periods_behind, refusal_behind}

pub permitted_empty : (net : Network) → ArePermitted net []
permitted_empty net = record { unrefused = tt; counts = tt }

unrefused_append : (net : Network) (kind : LineKind) (ks : List LineKind) (line n : ℕ) (core last : Core) → n ≡ line + length ks → last ≡ core_after net core (events_from net core ks) → AreUnrefused net line core ks →
    first_refusal net n last (line_events net last kind) ≡ None → AreUnrefused net line core (ks ++ kind ∷ [])
unrefused_append net kind [] line n core last at is h more =
    let same : n ≡ line = omega arith in (
      subst (λ m. first_refusal net m core (line_events net core kind) ≡ None) same (subst (λ c. first_refusal net n c (line_events net c kind) ≡ None) is more),
      tt,
    )
unrefused_append net kind (k ∷ ks) line n core last at is h more =
    let es = line_events net core k in
    let next = core_after net core es in
    (h.0, unrefused_append net kind ks (line + 1) n next last (omega arith) (is ∙ after_append net es (events_from net next ks) core) h.1 more)

arrivals_append : (ks ms : List LineKind) → arrivals_of_kinds (ks ++ ms) ≡ arrivals_of_kinds ks ++ arrivals_of_kinds ms
arrivals_append [] ms = refl
arrivals_append (k ∷ ks) ms =
    sym (kinds_more k (ks ++ ms)) ∙ ap (λ A. arrivals_of_kinds (k ∷ []) ++ A) (arrivals_append ks ms) ∙ sym (append_assoc (arrivals_of_kinds (k ∷ [])) (arrivals_of_kinds ks) (arrivals_of_kinds ms))
    ∙ ap (λ A. A ++ arrivals_of_kinds ms) (kinds_more k ks)

append_all : (P : List ℕ → Type 0) (xs ys : List (List ℕ)) → AllByRecursion P xs → AllByRecursion P ys → AllByRecursion P (xs ++ ys)
append_all P [] ys h k = k
append_all P (x ∷ xs) ys h k = (h.0, append_all P xs ys h.1 k)

-- a line that is not refused is permitted behind permitted ones
pub permitted_more : (net : Network) (kinds : List LineKind) (kind : LineKind) → ArePermitted net kinds → refusal_behind net kinds kind ≡ None → AllByRecursion (HasCounts net) (arrivals_of_kinds (kind ∷ [])) → ArePermitted net (kinds ++ kind ∷ [])
permitted_more net kinds kind before unrefused counts = record {
  unrefused = unrefused_append net kind kinds 1 (length kinds + 1) (core_opening net) (core_behind net kinds) (omega arith) refl before.unrefused unrefused;
  counts = subst (AllByRecursion (HasCounts net)) (sym (arrivals_append kinds (kind ∷ []))) (append_all (HasCounts net) (arrivals_of_kinds kinds) (arrivals_of_kinds (kind ∷ [])) before.counts counts);
}

-- whether a line is refused does not rest on its number
answer_renumbered : (n m period : ℕ) (a : Answer) → refusal_of n period a ≡ None → refusal_of m period a ≡ None
answer_renumbered n m period (Answer.stale j l) h = cc
answer_renumbered n m period (Answer.not_adjacent j l) h = cc
answer_renumbered n m period (Answer.above_at l) h = cc
answer_renumbered n m period Answer.heard h = refl
answer_renumbered n m period (Answer.chose s) h = refl
answer_renumbered n m period (Answer.undecided j) h = refl
answer_renumbered n m period Answer.closed h = refl

renumbered : (net : Network) (n m : ℕ) (es : List Event) (core : Core) → first_refusal net n core es ≡ None → first_refusal net m core es ≡ None
renumbered net n m [] core h = refl
renumbered net n m (e ∷ es) core h = go (renumbered net n m es (apply net core e).1) (refusal_of n (core.period + 1) (apply net core e).0) refl h
  where
    go : (first_refusal net n (apply net core e).1 es ≡ None → first_refusal net m (apply net core e).1 es ≡ None) → (o : Option StreamEnd) → refusal_of n (core.period + 1) (apply net core e).0 ≡ o → earlier o (first_refusal net n (apply net core e).1 es) ≡ None →
        earlier (refusal_of m (core.period + 1) (apply net core e).0) (first_refusal net m (apply net core e).1 es) ≡ None
    go more (Some s) is h = cc
    go more None is h = ap (λ o. earlier o (first_refusal net m (apply net core e).1 es)) (answer_renumbered n m (core.period + 1) (apply net core e).0 is) ∙ more h

-- within the limit of lines a line is refused as its events are
pub within_limit : (net : Network) (line : ℕ) (core : Core) (kind : LineKind) → line ≤ 2 ^ 48 → line_refusal net line core kind ≡ kind_refusal net line core kind
within_limit net line core kind few = ap (λ b. cond b (Some too_many) (kind_refusal net line core kind)) (le-ltb (2 ^ 48) line few)

pub taken_refusal : (net : Network) (line : ℕ) (core : Core) (kind : LineKind) → IsTaken kind → kind_refusal net line core kind ≡ first_refusal net line core (line_events net core kind)
taken_refusal net line core skipped_line taken = refl
taken_refusal net line core (arrivals_line counts) taken = refl
taken_refusal net line core (hear_line j l) taken = refl
taken_refusal net line core (decide_line j) taken = refl
taken_refusal net line core long_line taken = absurd taken
taken_refusal net line core bad_line taken = absurd taken

-- lines that are not refused close their arrivals
closes_kind : (net : Network) (line : ℕ) (core : Core) (kind : LineKind) → HasSize net core → first_refusal net line core (line_events net core kind) ≡ None → closed_of net core (line_events net core kind) ≡ arrivals_of_kinds (kind ∷ [])
closes_kind net line core long_line size h = refl
closes_kind net line core bad_line size h = refl
closes_kind net line core skipped_line size h = refl
closes_kind net line core (arrivals_line counts) size h = line_closes net core 1 (arrivals_line counts) size (within_limit net 1 core (arrivals_line counts) (omega arith) ∙ renumbered net line 1 (line_events net core (arrivals_line counts)) core h)
closes_kind net line core (hear_line j l) size h = line_closes net core 1 (hear_line j l) size (within_limit net 1 core (hear_line j l) (omega arith) ∙ renumbered net line 1 (line_events net core (hear_line j l)) core h)
closes_kind net line core (decide_line j) size h = line_closes net core 1 (decide_line j) size (within_limit net 1 core (decide_line j) (omega arith) ∙ renumbered net line 1 (line_events net core (decide_line j)) core h)

closes_kinds : (net : Network) (ks : List LineKind) (line : ℕ) (core : Core) → HasSize net core → AreUnrefused net line core ks → closed_of net core (events_from net core ks) ≡ arrivals_of_kinds ks
closes_kinds net [] line core size h = refl
closes_kinds net (k ∷ ks) line core size h =
    let es = line_events net core k in
    let next = core_after net core es in
    closed_append net es (events_from net next ks) core ∙ ap₂ ◌++◌ (closes_kind net line core k size h.0) (closes_kinds net ks (line + 1) next (size_after net es core size) h.1) ∙ kinds_more k ks

pub closed_behind : (net : Network) (kinds : List LineKind) → ArePermitted net kinds → closed_of net (core_opening net) (events_behind net kinds) ≡ arrivals_of_kinds kinds
closed_behind net kinds permitted = closes_kinds net kinds 1 (core_opening net) (opening_size net) permitted.unrefused

pub counts_behind : (net : Network) (kinds : List LineKind) → ArePermitted net kinds → map (λ period. period.counts) (periods_behind net kinds) ≡ arrivals_of_kinds kinds
counts_behind net kinds permitted = closed_counts net (events_behind net kinds) (core_opening net) (no_ages net) ∙ closed_behind net kinds permitted

-- so what they close is permitted, with timely reports
pub arrivals_permitted : (net : Network) (kinds : List LineKind) → ArePermitted net kinds → IsPermitted net (map (λ period. period.counts) (periods_behind net kinds))
arrivals_permitted net kinds permitted =
    let es = events_behind net kinds in
    subst (IsPermitted net) (sym (closed_counts net es (core_opening net) (no_ages net))) (record {
      counts = subst (AllByRecursion (HasCounts net)) (sym (closed_behind net kinds permitted)) permitted.counts;
      windows = windows_kept net es;
    })

pub reports_timely : (net : Network) → IsNetwork net → (kinds : List LineKind) → AllTimely net 0 (periods_behind net kinds)
reports_timely net ok kinds = (follows_run net ok (events_behind net kinds)).timely

-- the period counts the lines of arrivals
period_count : (net : Network) (ps : List Period) (history : History) → (history_after net history ps).now.period ≡ history.now.period + length ps
period_count net [] history = omega arith
period_count net (p ∷ ps) history = let rest : (history_after net (advance_by net p history) ps).now.period ≡ history.now.period + 1 + length ps = period_count net ps (advance_by net p history) in omega arith

pub period_behind : (net : Network) → IsNetwork net → (kinds : List LineKind) → ArePermitted net kinds → (core_behind net kinds).period ≤ length kinds
period_behind net ok kinds permitted =
    let agrees = (follows_run net ok (events_behind net kinds)).agrees.period in
    let count = period_count net (periods_behind net kinds) (first_history net) in
    let listed = length-map (periods_behind net kinds) (λ period. period.counts) in
    let closed = ap (length {A = List ℕ}) (counts_behind net kinds permitted) in
    let few = few_arrivals kinds in
    omega arith
