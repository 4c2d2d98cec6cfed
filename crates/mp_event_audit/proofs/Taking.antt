-- One line of a log, from what the calls say.
use Rattle.std.proofs.Common.{◌≡◌, ◌≢◌, ◌<◌, ◌^◌, ℕ, ◌+◌, ◌-◌, List, [], ◌∷◌, ◌++◌, length, get_or, sum, Bool, true, false, MatchBool, Option, Result, Ok, Err, is_err, refl, sym, ◌∙◌, ap, subst, arith, inl, inr, ⊎_elim}
use Rattle.mp_edge.specs.Outside.{Tells}
use Rattle.mp_edge.proofs.Told.{Tells-weaker}
use Rattle.mp_model.specs.Arrivals.{IsPermitted}
use Rattle.mp_model.specs.EventCore.{Answer, arrivals_events, core_after}
use Rattle.mp_model.specs.EventCore.Answer.{closed}
use Rattle.mp_model.specs.Log.{end_line_of}
use Rattle.mp_model.specs.Network.{Network, fed}
use Rattle.mp_model.specs.NetworkRules.{IsAcceptable, IsNetwork}
use Rattle.mp_model.specs.Stream.{lines_of}
use Rattle.mp_model.specs.declared.limits.TheConstants.{MOST_LOG_LINE_BYTES}
use Rattle.mp_text.specs.Cut.{Cut}
use Rattle.mp_text.specs.Cutting.{Cuts}
use Rattle.mp_text.specs.declared.cutter.LineStep.TheVariants as step
use Rattle.mp_log.specs.Logged.{BeginsPeriod}
use Rattle.mp_log.proofs.LoggedLemmas.{one_period}
use Rattle.mp_round.specs.Events.{closing_answer}
use Rattle.mp_round.specs.RoundView.{RoundView, core_of}
use Rattle.mp_run.specs.Auditing.{GivesCounts}
use Rattle.mp_run.proofs.AuditLemmas.{cut_line, cut_long}
use Rattle.mp_run.proofs.LogLemmas.{small_at}
use Rattle.mp_run.proofs.PeriodLemmas.{end_line_is}
use Rattle.mp_session.specs.SessionView.{SessionView, IsBounded}
use Rattle.mp_step.specs.Standing.{IsOn}
use Rattle.mp_step.specs.Taken.{HasTaken}
use Rattle.mp_step.specs.declared.state.AboveAt.{AboveAt}
use Rattle.mp_event_audit.specs.Auditing.{ClosesLogged, Compares, EndsLogged, IsNext, MovesOn, RefutesCounts, RefutesEnd, TakesLogged, TakesNext}
use Rattle.mp_event_audit.specs.Behind.{Closes, StandsBehind, end_behind, history_behind, line_behind, shown_line}
use Rattle.mp_event_audit.specs.declared.auditing.Compared.TheVariants as compared
use Rattle.mp_event_audit.specs.declared.auditing.Logged.{Logged}
use Rattle.mp_event_audit.specs.declared.auditing.Logged.TheVariants.{Period, End, Other, Failed}
use Rattle.mp_event_audit.proofs.Logs.{line_begins}
use Rattle.mp_event_audit.proofs.Standing.{behind_period, shown_is, standing_period, stands_at}
use Rattle.mp_event_audit.proofs.Timely.{short_next}

module _ (left left' : Option (List ℕ)) (old new : Cut) (wanted : List ℕ) where
  pub compares_end : Tells left left' (Cuts 16385 step.End old new) → Tells left left' (Compares wanted compared.Other old new)
  compares_end told = Tells-weaker _ _ _ _ (λ was now e. inl (ap lines_of e.0)) told

  pub compares_long : length wanted < MOST_LOG_LINE_BYTES → Tells left left' (Cuts 16385 step.TooLong old new) → Tells left left' (Compares wanted compared.Other old new)
  compares_long short told = Tells-weaker _ _ _ _ (λ was now long. let first = cut_long (old.held ++ was) long in inr (first.0, first.1, first.2, λ e. let size = ap (length {A = ℕ}) e in absurd (omega (arith, size, first.3)))) told

-- where a close went well it is answered so
pub closed_answer : (r : Result (Unit {0}) AboveAt) (a : Answer) → is_err r ≡ false → closing_answer r ≡ a → a ≡ closed
closed_answer (Ok x) a ok is = sym is
closed_answer (Err e) a ok is = absurd (cc)

-- the line of a period that was closed is the wanted one, or it is refuted
pub closes_logged : (same : Bool) (net : Network) → IsNetwork net → (line counts wanted : List ℕ) (old new : RoundView) → wanted ≡ shown_line new counts → Closes net (core_of old) counts → core_of new ≡ core_after net (core_of old) (arrivals_events net (core_of old) counts)
    → ((A : List (List ℕ)) → HasTaken net old.standing A → HasTaken net new.standing (A ++ counts ∷ [])) → new.standing.period ≡ old.standing.period + 1
    → MatchBool same (line ≡ wanted) (line ≢ wanted) → MatchBool same (ClosesLogged net line counts old new) (RefutesCounts net line counts old)
closes_logged true net ok line counts wanted old new is closes core taken period same = record { closes = closes; core = core; taken = taken; period = period; line_is = same ∙ is }
closes_logged false net ok line counts wanted old new is closes core taken period other = λ A stands permitted e.
    let c : ClosesLogged net (shown_line new counts) counts old new = record { closes = closes; core = core; taken = taken; period = period; line_is = refl } in
    other (e ∙ sym (shown_is net ok (shown_line new counts) counts old new A stands c) ∙ sym is)

-- the end line is the wanted one, or it is refuted
pub ends_logged : (same : Bool) (net : Network) (line wanted : List ℕ) (round : RoundView) → ((A : List (List ℕ)) → StandsBehind net round A → wanted ≡ end_behind net A) → MatchBool same (line ≡ wanted) (line ≢ wanted)
    → MatchBool same (EndsLogged net round line) (RefutesEnd net round line)
ends_logged true net line wanted round is same = λ A stands. same ∙ is A stands
ends_logged false net line wanted round is other = λ A stands e. other (e ∙ sym (is A stands))

-- the end line of where a round stands
pub shown_end : (net : Network) → IsNetwork net → (round : RoundView) (period total_in total_out n : ℕ) → IsOn net round.standing → period ≡ round.standing.period → total_in ≡ round.standing.total_in → total_out ≡ round.standing.total_out → n ≡ total_in - total_out
    → round.standing.total_in ≡ round.standing.total_out + sum round.standing.queues → (A : List (List ℕ)) → StandsBehind net round A → end_line_of period total_in total_out n ≡ end_behind net A
shown_end net ok round period total_in total_out n on p i o is conserved A stands = end_line_is net round.standing period total_in total_out n on p i o is conserved (history_behind net A).now (stands_at net ok round A stands)

-- a line that begins as that of a period is no end line
begun_not_end : (net : Network) (line : List ℕ) (period n : ℕ) (counts : List ℕ) (A : List (List ℕ)) → BeginsPeriod line period n counts → line ≢ end_behind net A
begun_not_end net line period n counts A begins e = let first : 112 ≡ 101 = ap (λ (xs : List ℕ). get_or xs 0 0) (sym begins.text ∙ e) in absurd (omega (arith, first))

module _ (net : Network) (ok : IsAcceptable net) (line : List ℕ) (round : RoundView) (A : List (List ℕ)) (stands : StandsBehind net round A) where
  -- the line of the next period says its counts
  next_begins : (others : List ℕ) → IsPermitted net (A ++ others ∷ []) → line ≡ line_behind net A others → BeginsPeriod line (round.standing.period + 1) (length (fed net)) others
  next_begins others permitted is =
      let period : (history_behind net A).now.period + 1 ≡ round.standing.period + 1 = omega (arith, behind_period net A, standing_period net ok.network round A stands) in
      subst (λ p. BeginsPeriod line p (length (fed net)) others) period
      (subst (λ (xs : List ℕ). BeginsPeriod xs ((history_behind net A).now.period + 1) (length (fed net)) others) (sym is) (line_begins net (history_behind net A) (length A) others (small_at net ok A [] others permitted)))

  -- counts that a line gives and that were refuted leave nothing that may follow
  pub refuted_counts : (counts : List ℕ) → GivesCounts net round.standing line counts → RefutesCounts net line counts round → ¬ IsNext net A line
  refuted_counts counts gives refutes next =
      ⊎_elim (λ (e : line ≡ end_behind net A). begun_not_end net line (round.standing.period + 1) (length (fed net)) counts A gives.1 e)
      (λ (more : (others : List ℕ) × (length A < 2 ^ 48) × IsPermitted net (A ++ others ∷ []) × (line ≡ line_behind net A others)).
      let same : more.0 ≡ counts = one_period line (round.standing.period + 1) (length (fed net)) more.0 counts (next_begins more.0 more.2 more.3) gives.1 in
      refutes A stands (subst (λ (xs : List ℕ). IsPermitted net (A ++ xs ∷ [])) same more.2) (subst (λ (xs : List ℕ). line ≡ line_behind net A xs) same more.3)) next

  -- a line that gives no counts and is not the end line may not follow
  pub nothing_given : ((counts : List ℕ) → ¬ GivesCounts net round.standing line counts) → RefutesEnd net round line → ¬ IsNext net A line
  nothing_given none refutes next =
      ⊎_elim (λ (e : line ≡ end_behind net A). refutes A stands e)
      (λ (more : (others : List ℕ) × (length A < 2 ^ 48) × IsPermitted net (A ++ others ∷ []) × (line ≡ line_behind net A others)).
      let low : round.standing.period < 2 ^ 48 = let few = more.1 in omega (arith, standing_period net ok.network round A stands) in none more.0 (low, next_begins more.0 more.2 more.3)) next

-- the next line behind the header
pub moves_on : (net : Network) (old new : RoundView) (r : Logged) (line taken : List ℕ) → line ≡ taken → TakesLogged net line r old new → MovesOn net taken r old new
moves_on net old new Period line taken is takes = subst (λ (xs : List ℕ). TakesLogged net xs Period old new) is takes
moves_on net old new End line taken is takes = subst (λ (xs : List ℕ). TakesLogged net xs End old new) is takes
moves_on net old new Other line taken is takes = tt
moves_on net old new Failed line taken is takes = tt

module _ (net : Network) (left left' : Option (List ℕ)) (old : RoundView) (cut cut' : Cut) where
  pub takes_line : (new : RoundView) (r : Logged) (line : List ℕ) → line ≡ cut'.line → TakesLogged net line r old new → Tells left left' (Cuts 16385 step.Line cut cut') → Tells left left' (TakesNext net r old cut cut')
  takes_line new Period line is takes told = Tells-weaker _ _ _ _ (λ was now c. cut_line (cut.held ++ was) (cut'.held ++ now) cut'.line c) told
  takes_line new End line is takes told = Tells-weaker _ _ _ _ (λ was now c. cut_line (cut.held ++ was) (cut'.held ++ now) cut'.line c) told
  takes_line new Other line is takes told =
      Tells-weaker _ _ _ _ (λ was now c A stands. inr (line, lines_of (cut'.held ++ now), cut_line (cut.held ++ was) (cut'.held ++ now) cut'.line c ∙ ap (λ first. first ∷ lines_of (cut'.held ++ now)) (sym is), takes A stands)) told
  takes_line new Failed line is takes told = absurd takes

  pub takes_none : Tells left left' (Cuts 16385 step.End cut cut') → Tells left left' (TakesNext net Other old cut cut')
  takes_none told = Tells-weaker _ _ _ _ (λ was now e A stands. inl (ap lines_of e.0)) told

  pub takes_long : (s : SessionView) → IsBounded s → s.net ≡ net → Tells left left' (Cuts 16385 step.TooLong cut cut') → Tells left left' (TakesNext net Other old cut cut')
  takes_long s b is told =
      Tells-weaker _ _ _ _ (λ was now long A stands.
      let first = cut_long (cut.held ++ was) long in
      inr (first.0, first.1, first.2, λ next. let short = short_next s b A first.0 (subst (λ (n : Network). IsNext n A first.0) (sym is) next) in absurd (omega (arith, short, first.3)))) told
