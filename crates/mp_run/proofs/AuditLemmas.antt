-- One line of a log, from what the calls say.
use Rattle.std.proofs.Common.{◌≡◌, ◌≢◌, ◌≤◌, ◌<◌, ◌^◌, ℕ, ℤ, suc, ◌+◌, ◌-◌, List, [], ◌∷◌, ◌++◌, length, map, get_or, Bool, true, false, cond, MatchBool, Result, Ok, Err, Option, Some, None, is_some, is_err, IfErr, OnOk, OnSome, pos, refl, sym, ◌∙◌, ap, subst, arith, inl, inr, ⊎_elim}
use Rattle.std.specs.List.{All, AllByRecursion}
use Rattle.std.proofs.lemmas.List.{length-map, get_or_default}
use Rattle.std.proofs.lemmas.List.FromFn.{length-map-range_with_len}
use Rattle.mp_edge.specs.Outside.{Tells}
use Rattle.mp_edge.proofs.Told.{Tells-weaker}
use Rattle.mp_model.specs.Network.{Network, fed, entry, movement_numbers}
use Rattle.mp_model.specs.NetworkRules.{IsAcceptable}
use Rattle.mp_model.specs.Arrivals.{IsPermitted}
use Rattle.mp_model.specs.Step.{State, queue}
use Rattle.mp_model.specs.Run.{opening, advance, state_after, run_from, greatest_stages}
use Rattle.mp_model.specs.Log.{line_after, end_line}
use Rattle.mp_model.specs.Bounds.{queue_bound}
use Rattle.mp_model.specs.Stream.{without_return, lines_of}
use Rattle.mp_laws.specs.Buckets.{IsFirstAbove}
use Rattle.mp_laws.proofs.Lists.{at_number, at_index}
use Rattle.mp_model.specs.declared.limits.TheConstants.{MOST_LOG_LINE_BYTES}
use Rattle.mp_text.specs.Cut.{Cut}
use Rattle.mp_text.specs.Cutting.{Cuts, CutsLine, StartsLong}
use Rattle.mp_text.specs.declared.cutter.LineStep.TheVariants as step
use Rattle.mp_log.specs.Logged.{BeginsPeriod}
use Rattle.mp_log.specs.Fitting.{FitsLine}
use Rattle.mp_log.proofs.FedLemmas.{fed_few}
use Rattle.mp_log.proofs.LengthLemmas.{period_short, end_short}
use Rattle.mp_log.proofs.LoggedLemmas.{one_period}
use Rattle.mp_press.specs.Queues.{naturals}
use Rattle.mp_step.specs.Standing.{Standing, Stands}
use Rattle.mp_step.specs.Taken.{HasTaken}
use Rattle.mp_drift.specs.Session.{Bounded, IsBounded}
use Rattle.mp_run.specs.Auditing.{Compares, IsNext, ClosesLogged, RefutesCounts, GivesCounts, RefutesEnd, EndsLogged, TakesLogged, MovesOn, TakesNext, EndsAfter}
use Rattle.mp_run.specs.declared.auditing.Compared.TheVariants as compared
use Rattle.mp_run.specs.declared.auditing.Logged.{Logged}
use Rattle.mp_run.specs.declared.auditing.Logged.TheVariants.{Period, End, Other, Failed}
use Rattle.mp_run.specs.declared.auditing.AuditEnd.TheVariants.{Done, Differs, Read}
use Rattle.mp_run.proofs.BoundLemmas.{stays_within, stages_are, naturals_are}
use Rattle.mp_stream.proofs.BucketLemmas.{none_above}
use Rattle.mp_run.proofs.LogLemmas.{small_at, line_begins, state_period}
use Rattle.mp_run.proofs.PeriodLemmas.{stages_count, stages_small}
use Rattle.mp_run.proofs.CourseLemmas.{state_more}

-- a carriage return is one byte
return_length : (raw : List ℕ) → length raw ≤ length (without_return raw) + 1
return_length [] = omega arith
return_length (b ∷ []) = omega arith
return_length (b ∷ c ∷ bs) = let rest = return_length (c ∷ bs) in omega (arith, rest)

-- the first line of what is to come
pub cut_line : (text rest line : List ℕ) → CutsLine 16385 text rest line → lines_of text ≡ line ∷ lines_of rest
cut_line text rest line cut = ap (map without_return) cut.lines ∙ ap (λ first. first ∷ lines_of rest) (sym cut.given)

pub cut_long : (text : List ℕ) → StartsLong 16385 text → (line : List ℕ) × (more : List (List ℕ)) × (lines_of text ≡ line ∷ more) × (MOST_LOG_LINE_BYTES ≤ length line)
cut_long text long = (without_return long.raw, map without_return long.more, ap (map without_return) long.lines, let most = long.long in omega (arith, return_length long.raw))

module _ (left left' : Option (List ℕ)) (old new : Cut) (wanted : List ℕ) where
  pub compares_line : (line : List ℕ) (same : Bool) → line ≡ new.line → MatchBool same (line ≡ wanted) (line ≢ wanted) → Tells left left' (Cuts 16385 step.Line old new) → Tells left left' (Compares wanted (cond same compared.Same compared.Other) old new)
  compares_line line true is same told = Tells-weaker _ _ _ _ (λ was now cut. cut_line (old.held ++ was) (new.held ++ now) new.line cut ∙ ap (λ first. first ∷ lines_of (new.held ++ now)) (sym is ∙ same)) told
  compares_line line false is other told = Tells-weaker _ _ _ _ (λ was now cut. inr (new.line, lines_of (new.held ++ now), cut_line (old.held ++ was) (new.held ++ now) new.line cut, λ e. other (is ∙ e))) told

  pub compares_end : Tells left left' (Cuts 16385 step.End old new) → Tells left left' (Compares wanted compared.Other old new)
  compares_end told = Tells-weaker _ _ _ _ (λ was now e. inl (ap lines_of e.0)) told

  pub compares_long : length wanted < MOST_LOG_LINE_BYTES → Tells left left' (Cuts 16385 step.TooLong old new) → Tells left left' (Compares wanted compared.Other old new)
  compares_long short told = Tells-weaker _ _ _ _ (λ was now long. let first = cut_long (old.held ++ was) long in inr (first.0, first.1, first.2, λ e. let size = ap (length {A = ℕ}) e in absurd (omega (arith, size, first.3)))) told

  pub compares_failed : Tells left left' (Cuts 16385 step.Failed old new) → Tells left left' (Compares wanted compared.Failed old new)
  compares_failed told = Tells-weaker _ _ _ _ (λ was now e. tt) told

-- what stands behind the end line
module _ (left left' : Option (List ℕ)) (old new : Cut) (periods line : ℕ) where
  pub ends_after : Tells left left' (Cuts 16385 step.End old new) → Tells left left' (EndsAfter periods line (Done periods) old)
  ends_after told = Tells-weaker _ _ _ _ (λ was now e. (refl, ap lines_of e.0, e.1)) told

  pub line_after_end : Tells left left' (Cuts 16385 step.Line old new) → Tells left left' (EndsAfter periods line (Differs line) old)
  line_after_end told = Tells-weaker _ _ _ _ (λ was now cut. (refl, (new.line, lines_of (new.held ++ now), cut_line (old.held ++ was) (new.held ++ now) new.line cut))) told

  pub long_after_end : Tells left left' (Cuts 16385 step.TooLong old new) → Tells left left' (EndsAfter periods line (Differs line) old)
  long_after_end told = Tells-weaker _ _ _ _ (λ was now long. let first = cut_long (old.held ++ was) long in (refl, (first.0, first.1, first.2))) told

  pub fails_after_end : Tells left left' (Cuts 16385 step.Failed old new) → Tells left left' (EndsAfter periods line Read old)
  fails_after_end told = Tells-weaker _ _ _ _ (λ was now e. tt) told

-- arrivals above a bucket are not permitted
pub above_refutes : {T X : Type 0} (r : Result T X) (link : X → ℕ) (net : Network) (st : Standing) (counts : List ℕ) → is_err r ≡ true → IfErr r (λ above. (A : List (List ℕ)) → HasTaken net st A → IsFirstAbove net A counts (link above))
    → (A : List (List ℕ)) → HasTaken net st A → IsPermitted net (A ++ counts ∷ []) → ⊥
above_refutes (Ok x) link net st counts err above A taken permitted = absurd (cc)
above_refutes (Err x) link net st counts err above A taken permitted = none_above net A [] counts (link x) permitted (above A taken)

pub on_ok : {T X : Type 0} (r : Result T X) (P : Type 0) → is_err r ≡ false → OnOk r P → P
on_ok (Ok x) P ok p = p
on_ok (Err x) P ok p = absurd (cc)

-- the line of a period that was closed is the wanted one, or it is refuted
pub closes_logged : (same : Bool) (net : Network) (line counts wanted : List ℕ) (old new : Standing) → ((state : State) → Stands net old state → wanted ≡ line_after net state counts)
    → ((state : State) → Stands net old state → Stands net new (advance net counts state)) → ((A : List (List ℕ)) → HasTaken net old A → HasTaken net new (A ++ counts ∷ [])) → new.period ≡ old.period + 1
    → MatchBool same (line ≡ wanted) (line ≢ wanted) → MatchBool same ((new.period ≡ old.period + 1) × ClosesLogged net line counts old new) (RefutesCounts net line counts old)
closes_logged true net line counts wanted old new is moved taken period same = (period, record { moved = moved; taken = taken; line_is = λ state stands. same ∙ is state stands })
closes_logged false net line counts wanted old new is moved taken period other = λ A state has stands permitted e. other (e ∙ sym (is state stands))

-- the end line is the wanted one, or it is refuted
pub ends_logged : (same : Bool) (net : Network) (line wanted : List ℕ) (st : Standing) → ((state : State) → Stands net st state → wanted ≡ end_line net state) → MatchBool same (line ≡ wanted) (line ≢ wanted)
    → MatchBool same (EndsLogged net st line) (RefutesEnd net st line)
ends_logged true net line wanted st is same = λ state stands. same ∙ is state stands
ends_logged false net line wanted st is other = λ state stands e. other (e ∙ sym (is state stands))

-- the arrivals of the next period were read, or its line gives none
pub gives_counts : (r : Option (Unit {0})) (found : Bool) (net : Network) (st : Standing) (line read : List ℕ) (period n : ℕ) → found ≡ is_some r → OnSome r (BeginsPeriod line period n read)
    → (r ≡ None → ((counts : List ℕ) → ¬ BeginsPeriod line period n counts) × (read ≡ [])) → period ≡ st.period + 1 → n ≡ length (fed net) → st.period < 2 ^ 48
    → MatchBool found (GivesCounts net st line read) ((counts : List ℕ) → ¬ GivesCounts net st line counts)
gives_counts None found net st line read period n is some none next size low =
    rw is (λ counts gives. (none refl).0 counts (subst (λ m. BeginsPeriod line m n counts) (sym next) (subst (λ m. BeginsPeriod line (st.period + 1) m counts) (sym size) gives.1)))
gives_counts (Some x) found net st line read period n is some none next size low =
    rw is (low, subst (λ m. BeginsPeriod line m (length (fed net)) read) next (subst (λ m. BeginsPeriod line period m read) size some))

-- a line that begins as that of a period is no end line
begun_not_end : (net : Network) (line : List ℕ) (period n : ℕ) (counts : List ℕ) (state : State) → BeginsPeriod line period n counts → line ≢ end_line net state
begun_not_end net line period n counts state begins e = let first : 112 ≡ 101 = ap (λ (xs : List ℕ). get_or xs 0 0) (sym begins.text ∙ e) in absurd (omega (arith, first))

module _ (net : Network) (ok : IsAcceptable net) (line : List ℕ) (st : Standing) (A : List (List ℕ)) (taken : HasTaken net st A) (stands : Stands net st (state_after net (opening net) A)) where
  -- counts that a line gives and that were refuted leave nothing that may follow
  pub refuted_counts : (counts : List ℕ) → GivesCounts net st line counts → RefutesCounts net line counts st → ¬ IsNext net A line
  refuted_counts counts gives refutes next =
      let state = state_after net (opening net) A in
      ⊎_elim (λ (e : line ≡ end_line net state). begun_not_end net line (st.period + 1) (length (fed net)) counts state gives.1 e)
      (λ (more : (others : List ℕ) × (length A < 2 ^ 48) × IsPermitted net (A ++ others ∷ []) × (line ≡ line_after net state others)).
      let begins : BeginsPeriod line (st.period + 1) (length (fed net)) more.0 =
      subst (λ p. BeginsPeriod line (p + 1) (length (fed net)) more.0) (sym stands.period) (subst (λ (xs : List ℕ). BeginsPeriod xs (state.period + 1) (length (fed net)) more.0) (sym more.3) (line_begins net state more.0 (small_at net ok A [] more.0 more.2))) in
      let same : more.0 ≡ counts = one_period line (st.period + 1) (length (fed net)) more.0 counts begins gives.1 in
      refutes A state taken stands (subst (λ (xs : List ℕ). IsPermitted net (A ++ xs ∷ [])) same more.2) (subst (λ (xs : List ℕ). line ≡ line_after net state xs) same more.3)) next

  -- a line that gives no counts and is not the end line may not follow
  pub nothing_given : ((counts : List ℕ) → ¬ GivesCounts net st line counts) → RefutesEnd net st line → ¬ IsNext net A line
  nothing_given none refutes next =
      let state = state_after net (opening net) A in
      ⊎_elim (λ (e : line ≡ end_line net state). refutes state stands e)
      (λ (more : (others : List ℕ) × (length A < 2 ^ 48) × IsPermitted net (A ++ others ∷ []) × (line ≡ line_after net state others)).
      let begins : BeginsPeriod line (st.period + 1) (length (fed net)) more.0 =
      subst (λ p. BeginsPeriod line (p + 1) (length (fed net)) more.0) (sym stands.period) (subst (λ (xs : List ℕ). BeginsPeriod xs (state.period + 1) (length (fed net)) more.0) (sym more.3) (line_begins net state more.0 (small_at net ok A [] more.0 more.2))) in
      let low : st.period < 2 ^ 48 = let few = more.1 in omega (arith, stands.period, state_period net (opening net) A) in none more.0 (low, begins)) next

-- no line of a log is too long
last_in : (net : Network) (P : State → Type 0) (state : State) (A : List (List ℕ)) → AllByRecursion P (run_from net state A) → P (state_after net state A)
last_in net P state [] all = all.0
last_in net P state (c ∷ A) all = last_in net P (advance net c state) A all.1

pub record HasSmallQueues (net : Network) (queues : List ℕ) : Type 0 where
  pub size : length queues ≡ length net.movements
  pub small : All (λ q. q ≤ 2 ^ 85) queues

module _ (s : Bounded) (b : IsBounded s) where
  bound_small : (k : ℕ) → entry (naturals s.bounds) k ≤ 2 ^ 62
  bound_small k = at_index (λ n. n ≤ 2 ^ 62) 0 (naturals s.bounds) (k - 1) (subst (AllByRecursion (λ n. n ≤ 2 ^ 62)) (sym (ap naturals b.bounds.listed ∙ naturals_are b.bounds.bounds)) b.bounds.room) (omega arith)

  queues_small : (A : List (List ℕ)) (c : List ℕ) → IsPermitted s.net (A ++ c ∷ []) → HasSmallQueues s.net (advance s.net c (state_after s.net (opening s.net) A)).queues
  queues_small A c permitted =
      let state = advance s.net c (state_after s.net (opening s.net) A) in
      let size : length state.queues ≡ length s.net.movements = length-map-range_with_len _ 1 (length s.net.movements) in
      let within : AllByRecursion (λ k. queue state k ≤ entry (naturals s.bounds) k) (movement_numbers s.net) =
      subst (λ (st : State). AllByRecursion (λ k. queue st k ≤ entry (naturals s.bounds) k) (movement_numbers s.net)) (state_more s.net (opening s.net) A c)
      (last_in s.net (λ st. AllByRecursion (λ k. queue st k ≤ entry (naturals s.bounds) k) (movement_numbers s.net)) (opening s.net) (A ++ c ∷ []) (stays_within s b (A ++ c ∷ []) permitted)) in
      record { size = size; small = λ k d low. small_place state.queues k d low (at_number (λ n. queue state n ≤ entry (naturals s.bounds) n) (length s.net.movements) k (omega (arith, size)) within) (bound_small (suc k)) }
    where
      small_place : (queues : List ℕ) (k d : ℕ) → k < length queues → entry queues (suc k) ≤ entry (naturals s.bounds) (suc k) → entry (naturals s.bounds) (suc k) ≤ 2 ^ 62 → get_or queues k d ≤ 2 ^ 85
      small_place queues k d low h m =
          let place : suc k - 1 ≡ k = omega arith in
          let here : get_or queues k 0 ≤ 2 ^ 62 = subst (λ i. get_or queues i 0 ≤ 2 ^ 62) place (omega (arith, h, m)) in rw (get_or_default queues k d 0 low) (omega (arith, here))

  pub short_next : (A : List (List ℕ)) (line : List ℕ) → IsNext s.net A line → length line < MOST_LOG_LINE_BYTES
  short_next A line next =
      let net = s.net in
      let state = state_after net (opening net) A in
      ⊎_elim (λ (e : line ≡ end_line net state). rw e (end_short state.period state.total_in state.total_out _))
      (λ (more : (c : List ℕ) × (length A < 2 ^ 48) × IsPermitted net (A ++ c ∷ []) × (line ≡ line_after net state c)).
      let small = small_at net b.acceptable A [] more.0 more.2 in
      let queues = queues_small A more.0 more.2 in
      let stages = stages_are s b state.queues in
      let fits : FitsLine (state.period + 1) more.0 (greatest_stages net (queue state)) (map pos (advance net more.0 state).queues) = record {
        counts = (advance net more.0 state).queues;
        none_negative = refl;
        period_in = let few = more.1 in omega (arith, state_period net (opening net) A);
        few_arrivals = let links = b.acceptable.range.links in omega (arith, small.0, fed_few net, links.1);
        few_stages = let junctions = b.acceptable.range.junctions in omega (arith, stages_count net.junctions (greatest_stages net (queue state)) stages, junctions.1);
        few_queues = let movements = b.acceptable.range.movements in omega (arith, length-map (advance net more.0 state).queues pos, queues.size, movements.1);
        arrivals_in = small.1;
        stages_in = stages_small net.junctions (greatest_stages net (queue state)) stages b.acceptable.range.stages;
        queues_in = queues.small;
      } in
      rw more.3 (period_short (state.period + 1) more.0 (greatest_stages net (queue state)) (advance net more.0 state).queues fits)) next

-- the next line behind the header
pub moves_on : (net : Network) (old new : Standing) (r : Logged) (line taken : List ℕ) → line ≡ taken → TakesLogged net line r old new → MovesOn net taken r old new
moves_on net old new Period line taken is takes = subst (λ (xs : List ℕ). TakesLogged net xs Period old new) is takes
moves_on net old new End line taken is takes = subst (λ (xs : List ℕ). TakesLogged net xs End old new) is takes
moves_on net old new Other line taken is takes = tt
moves_on net old new Failed line taken is takes = tt

pub never_failed : (net : Network) (line : List ℕ) (r : Logged) (old new : Standing) → TakesLogged net line r old new → r ≡ Failed → ⊥
never_failed net line r old new takes is = subst (λ (l : Logged). TakesLogged net line l old new) is takes

module _ (net : Network) (left left' : Option (List ℕ)) (old : Standing) (cut cut' : Cut) where
  pub takes_line : (new : Standing) (r : Logged) (line : List ℕ) → line ≡ cut'.line → TakesLogged net line r old new → Tells left left' (Cuts 16385 step.Line cut cut') → Tells left left' (TakesNext net r old cut cut')
  takes_line new Period line is takes told = Tells-weaker _ _ _ _ (λ was now c. cut_line (cut.held ++ was) (cut'.held ++ now) cut'.line c) told
  takes_line new End line is takes told = Tells-weaker _ _ _ _ (λ was now c. cut_line (cut.held ++ was) (cut'.held ++ now) cut'.line c) told
  takes_line new Other line is takes told =
      Tells-weaker _ _ _ _ (λ was now c A taken stands. inr (line, lines_of (cut'.held ++ now), cut_line (cut.held ++ was) (cut'.held ++ now) cut'.line c ∙ ap (λ first. first ∷ lines_of (cut'.held ++ now)) (sym is), takes A taken stands)) told
  takes_line new Failed line is takes told = absurd takes

  pub takes_none : Tells left left' (Cuts 16385 step.End cut cut') → Tells left left' (TakesNext net Other old cut cut')
  takes_none told = Tells-weaker _ _ _ _ (λ was now e A taken stands. inl (ap lines_of e.0)) told

  pub takes_long : (s : Bounded) → IsBounded s → s.net ≡ net → Tells left left' (Cuts 16385 step.TooLong cut cut') → Tells left left' (TakesNext net Other old cut cut')
  takes_long s b is told =
      Tells-weaker _ _ _ _ (λ was now long A taken stands.
      let first = cut_long (cut.held ++ was) long in
      inr (first.0, first.1, first.2, λ next. let short = short_next s b A first.0 (subst (λ (n : Network). IsNext n A first.0) (sym is) next) in absurd (omega (arith, short, first.3)))) told

  pub takes_failed : Tells left left' (Cuts 16385 step.Failed cut cut') → Tells left left' (TakesNext net Failed old cut cut')
  takes_failed told = Tells-weaker _ _ _ _ (λ was now e. tt) told

-- the bounds of a session are one per movement
pub bounds_count : (s : Bounded) → IsBounded s → length s.bounds ≡ length s.net.movements
bounds_count s b =
    let listed = ap (length {A = ℤ}) b.bounds.listed in
    let are = ap (length {A = ℕ}) b.bounds.are.are in
    omega (arith, listed, length-map b.bounds.bounds pos, are, length-map-range_with_len (queue_bound s.net b.bounds.are.root) 1 (length s.net.movements))
