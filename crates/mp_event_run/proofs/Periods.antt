-- The period that a line of arrivals closes, and its line.
use Rattle.std.proofs.Common.{◌≡◌, ℕ, List, [], ◌∷◌, ◌++◌, map, refl, sym, ◌∙◌, ap, ap₂, subst}
use Rattle.std.proofs.lemmas.List.{append-nil}
use Rattle.mp_model.specs.EventCore.{Core, Event, all_lacking, apply, arrivals_events, core_after, core_opening}
use Rattle.mp_model.specs.EventCore.Answer.{closed}
use Rattle.mp_model.specs.EventCore.Event.{close}
use Rattle.mp_model.specs.EventPeriods.{ages_after, no_ages, period_by, periods_from, periods_of}
use Rattle.mp_model.specs.Log.{period_line}
use Rattle.mp_model.specs.Network.{Network}
use Rattle.mp_model.specs.NetworkRules.{IsNetwork}
use Rattle.mp_model.specs.ReportedLog.{reported_line, reported_lines_from}
use Rattle.mp_model.specs.Reports.{History, Period, advance_by, first_history, history_after, reported_stages}
use Rattle.mp_model.specs.Step.{State}
use Rattle.mp_laws.proofs.LineEvents.{after_append, performs_line}
use Rattle.mp_laws.proofs.Order.{closed_counts, follows_run}
use Rattle.mp_laws.proofs.Renewed.{periods_append}
use Rattle.mp_laws.specs.Order.{Agrees, history_of}
use Rattle.mp_event_run.proofs.Lines.{ages_append}

-- one more period at the end of a run
pub history_more : (net : Network) (history : History) (ps : List Period) (p : Period) → history_after net history (ps ++ p ∷ []) ≡ advance_by net p (history_after net history ps)
history_more net history [] p = refl
history_more net history (q ∷ ps) p = history_more net (advance_by net q history) ps p

pub lines_more : (net : Network) (history : History) (ps : List Period) (p : Period) → reported_lines_from net history (ps ++ p ∷ []) ≡ reported_lines_from net history ps ++ reported_line net (history_after net history ps) p ∷ []
lines_more net history [] p = refl
lines_more net history (q ∷ ps) p = ap (λ (ls : List (List ℕ)). reported_line net history q ∷ ls) (lines_more net (advance_by net q history) ps p)

no_periods : (ps : List Period) → map (λ period. period.counts) ps ≡ [] → ps ≡ []
no_periods [] e = refl
no_periods (p ∷ ps) e = cc

module _ (net : Network) (ok : IsNetwork net) (es : List Event) (counts : List ℕ) where
  abbrev pub core_there : Core
  core_there = core_after net (core_opening net) es

  abbrev pub lack_there : List Event
  lack_there = all_lacking net core_there

  abbrev pub ready_there : Core
  ready_there = core_after net core_there lack_there

  -- the period that the line closes
  abbrev pub period_there : Period
  period_there = record { counts = counts; ages = ages_after net (core_opening net) (no_ages net) (es ++ lack_there) }

  quiet_there : (ages : List (List ℕ)) → periods_from net core_there ages lack_there ≡ []
  quiet_there ages = no_periods (periods_from net core_there ages lack_there) (closed_counts net lack_there core_there ages ∙ (performs_line net ok es counts).none)

  same_periods : periods_of net (es ++ lack_there) ≡ periods_of net es
  same_periods =
      periods_append net es lack_there (core_opening net) (no_ages net) ∙ ap (λ ps. periods_of net es ++ ps) (quiet_there (ages_after net (core_opening net) (no_ages net) es)) ∙ append-nil (periods_of net es)

  pub period_closes : (apply net ready_there (close counts)).0 ≡ closed → periods_of net (es ++ arrivals_events net core_there counts) ≡ periods_of net es ++ period_there ∷ []
  period_closes is =
      let before = ages_after net (core_opening net) (no_ages net) es in
      let ages = ages_after net core_there before lack_there in
      let one : periods_from net ready_there ages (close counts ∷ []) ≡ record { counts = counts; ages = ages } ∷ [] = ap (λ a. period_by a (close counts) ages []) is in
      let same : ages ≡ period_there.ages = sym (ages_append net es lack_there (core_opening net) (no_ages net)) in
      periods_append net es (arrivals_events net core_there counts) (core_opening net) (no_ages net)
      ∙ ap (λ ps. periods_of net es ++ ps)
      (periods_append net lack_there (close counts ∷ []) core_there before ∙ ap₂ ◌++◌ (quiet_there before) one ∙ ap (λ (a : List (List ℕ)). let p : Period = record { counts = counts; ages = a } in p ∷ []) same)

  -- what a line that is not closed leaves of the periods
  pub history_there : (apply net ready_there (close counts)).0 ≡ closed → history_of net (es ++ arrivals_events net core_there counts) ≡ advance_by net period_there (history_of net es)
  history_there is = ap (history_after net (first_history net)) (period_closes is) ∙ history_more net (first_history net) (periods_of net es) period_there

  -- its line has the period, the last stages and the queues of the core behind it
  pub line_is : (new : Core) → new ≡ core_after net core_there (arrivals_events net core_there counts) → (apply net ready_there (close counts)).0 ≡ closed →
      reported_line net (history_of net es) period_there ≡ period_line new.period counts new.last new.queues
  line_is new is shut =
      let line = arrivals_events net core_there counts in
      let there : core_after net (core_opening net) (es ++ lack_there) ≡ ready_there = after_append net es lack_there (core_opening net) in
      let greatest = (follows_run net ok (es ++ lack_there)).greatest counts (ap (λ c. (apply net c (close counts)).0) there ∙ shut) in
      let last : new.last ≡ reported_stages net (history_of net es) period_there.ages =
      ap (λ (c : Core). c.last) (is ∙ after_append net lack_there (close counts ∷ []) core_there) ∙ sym (ap (λ c. (apply net c (close counts)).1.last) there) ∙ greatest
      ∙ ap (λ ps. reported_stages net (history_after net (first_history net) ps) period_there.ages) same_periods in
      let agrees : Agrees net new (advance_by net period_there (history_of net es)).now =
      subst (λ c. Agrees net c (advance_by net period_there (history_of net es)).now) (after_append net es line (core_opening net) ∙ sym is)
      (subst (λ h. Agrees net (core_after net (core_opening net) (es ++ line)) h.now) (history_there shut) (follows_run net ok (es ++ line)).agrees) in
      let after : State = (advance_by net period_there (history_of net es)).now in
      ap (λ n. period_line n counts (reported_stages net (history_of net es) period_there.ages) after.queues) (sym agrees.period)
      ∙ ap (λ (s : List ℕ). period_line new.period counts s after.queues) (sym last)
      ∙ ap (λ (q : List ℕ). period_line new.period counts new.last q) (sym agrees.queues)
