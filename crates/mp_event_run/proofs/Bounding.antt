-- What a session by events keeps, over one line and over a whole run.
use Rattle.std.proofs.Common.{◌≡◌, ◌≤◌, ◌<◌, ◌^◌, ℕ, ℤ, ◌+◌, ◌-◌, List, [], ◌∷◌, ◌++◌, map, sum, Result, refl, sym, ◌∙◌, ap, subst, pos, arith}
use Rattle.std.specs.declared.option.Option.{Option}
use Rattle.std.specs.List.{All}
use Rattle.mp_edge.specs.Outside.{Tells, Puts}
use Rattle.mp_model.specs.Arrivals.{HasCounts, IsPermitted}
use Rattle.mp_model.specs.EventCore.{Core, core_opening}
use Rattle.mp_model.specs.Log.{end_line, end_line_of, text_of}
use Rattle.mp_model.specs.Network.{Network}
use Rattle.mp_model.specs.NetworkRules.{IsNetwork}
use Rattle.mp_model.specs.Reports.{AllTimely, Period}
use Rattle.mp_model.specs.Step.{AreStages}
use Rattle.mp_model.specs.Stream.{LineKind}
use Rattle.mp_model.specs.StreamPeriods.{stream_periods}
use Rattle.mp_laws.proofs.Order.{follows_run}
use Rattle.mp_laws.proofs.Renewed.{closes_periods}
use Rattle.mp_laws.proofs.Reported.{bound_of_reported}
use Rattle.mp_laws.proofs.StreamEnds.{stream_closes}
use Rattle.mp_laws.specs.Order.{Agrees}
use Rattle.mp_log.specs.Fitting.{FitsLine}
use Rattle.mp_num.specs.Fraction.{numerator, denominator}
use Rattle.mp_press.specs.Queues.{naturals}
use Rattle.mp_round.specs.RoundView.{RoundView, core_of}
use Rattle.mp_run.proofs.BoundLemmas.{naturals_are}
use Rattle.mp_run.proofs.PeriodLemmas.{end_line_is, line_fits, one_line}
use Rattle.mp_session.specs.SessionView.{SessionView, IsBounded}
use Rattle.mp_step.specs.Standing.{Standing, IsOn, Stands}
use Rattle.mp_stream.specs.Taking.{IsAtStart}
use Rattle.mp_event_run.specs.Behind.{ArePermitted, events_behind, history_behind, periods_behind}
use Rattle.mp_event_run.specs.Keeping.{kept_of}
use Rattle.mp_event_run.specs.Running.{course_of, StandsBehind, StaysWithin}
use Rattle.mp_event_run.proofs.Permits.{arrivals_permitted, permitted_empty, reports_timely}

-- over permitted arrivals and timely reports each queue is at most its bound
pub stays_within : (s : SessionView) → IsBounded s → (periods : List Period) → IsPermitted s.net (map (λ period. period.counts) periods) → AllTimely s.net 0 periods → StaysWithin s.net (naturals s.bounds) periods
stays_within s b periods permitted timely =
    subst (λ (bounds : List ℕ). StaysWithin s.net bounds periods) (sym (ap naturals b.bounds.listed ∙ naturals_are b.bounds.bounds))
    (bound_of_reported s.net b.acceptable.network b.certified.0 b.certified.1 (numerator s.slack) (denominator s.slack) b.certified.2 b.bounds.bounds b.bounds.are periods permitted timely)

-- and so over lines that are permitted
pub lines_within : (s : SessionView) → IsBounded s → (kinds : List LineKind) → ArePermitted s.net kinds → StaysWithin s.net (naturals s.bounds) (periods_behind s.net kinds)
lines_within s b kinds permitted = stays_within s b (periods_behind s.net kinds) (arrivals_permitted s.net kinds permitted) (reports_timely s.net b.acceptable.network kinds)

-- and over what a stream closes
pub stream_stays : (s : SessionView) → IsBounded s → (text : List ℕ) → StaysWithin s.net (naturals s.bounds) (stream_periods s.net text)
stream_stays s b text =
    let c = closes_periods s.net b.acceptable.network text in
    stays_within s b (stream_periods s.net text) (subst (IsPermitted s.net) (sym c.arrivals) (stream_closes s.net text).permitted) c.timely

-- a session at the opening is at its start
pub starts : (net : Network) (round : RoundView) → core_of round ≡ core_opening net → IsAtStart (course_of net) (StandsBehind net round)
starts net round is = record { stands = record { core = is; permitted = permitted_empty net }; permitted = permitted_empty net; nothing = refl }

-- what a session keeps tells what stays the same
pub same_of_kept : (old new : SessionView) → kept_of new ≡ kept_of old → new ≡ record old { round = new.round }
same_of_kept old new kept = ap (λ k. let s : SessionView = record { net = k.net; slack = k.slack; bounds = k.bounds; round = new.round } in s) kept

pub kept_of_same : (old new : SessionView) → new ≡ record old { round = new.round } → kept_of new ≡ kept_of old
kept_of_same old new same = ap kept_of same

-- the line of a period that a session closed fits
pub closed_line_fits : (s : SessionView) → IsBounded s → (at : Standing) (period : ℕ) (counts stages : List ℕ) (queues : List ℤ) → at ≡ s.round.standing → period ≡ at.period → 1 ≤ period → stages ≡ s.round.last → HasCounts s.net counts → All (λ a. a < 10 ^ 9) counts → period ≤ 2 ^ 48 →
    queues ≡ map pos at.queues → All (λ q. q ≤ 2 ^ 85) at.queues → FitsLine period counts stages queues
closed_line_fits s b at period counts stages queues there number some chosen has digits low queues_are few =
    let same = ap (λ (st : Standing). st.period) there in
    let late : 1 ≤ s.round.standing.period = omega arith in
    line_fits s.net period counts stages queues at b.acceptable.range (subst (λ (st : Standing). IsOn s.net st) (sym there) b.on.on) has
    (subst (λ (ss : List ℕ). AreStages s.net.junctions ss) (sym chosen) (b.on.last late)) digits low queues_are few

-- the end line that is put
pub finishes : {T E : Type 0} (r : Result T E) (net : Network) → IsNetwork net → (round : RoundView) (period total_in total_out n : ℕ) (was now : Option (List ℕ)) → IsOn net round.standing → period ≡ round.standing.period → total_in ≡ round.standing.total_in → total_out ≡ round.standing.total_out →
    n ≡ total_in - total_out → round.standing.total_in ≡ round.standing.total_out + sum round.standing.queues → Tells was now (Puts r (end_line_of period total_in total_out n ++ 10 ∷ [])) →
    (kinds : List LineKind) → StandsBehind net round kinds → Tells was now (Puts r (text_of ((course_of net).end_line kinds ∷ [])))
finishes r net ok round period total_in total_out n was now on p i o is conserved told kinds behind =
    let state = (history_behind net kinds).now in
    let agrees : Agrees net (core_of round) state = subst (λ (c : Core). Agrees net c state) (sym behind.core) (follows_run net ok (events_behind net kinds)).agrees in
    let stands : Stands net round.standing state = record { queues = agrees.queues; phases = agrees.phases; period = agrees.period; total_in = agrees.total_in; total_out = agrees.total_out } in
    let same = end_line_is net round.standing period total_in total_out n on p i o is conserved state stands in
    subst (λ (text : List ℕ). Tells was now (Puts r text)) (ap (λ line. line ++ 10 ∷ []) same ∙ sym (one_line (end_line net state))) told
