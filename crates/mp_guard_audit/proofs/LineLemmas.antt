-- One line of a log under a guard, from what the calls say.
use Rattle.std.proofs.Common.{◌≡◌, ◌≢◌, ◌≤◌, ◌<◌, ◌^◌, ℕ, ◌+◌, ◌-◌, ◌*◌, List, [], ◌∷◌, ◌++◌, length, map, sum_by, get_or, Bool, true, false, cond, MatchBool, Option, Some, None, is_some, OnSome, pos, refl, sym, ◌∙◌, ap, subst, arith, mul-le-mul_left, inl, inr, ⊎_elim}
use Rattle.std.specs.List.{All, AllByRecursion}
use Rattle.std.proofs.lemmas.List.{length-map, get_or_default}
use Rattle.std.proofs.lemmas.List.FromFn.{get_or-map-range_with_len, length-map-range_with_len}
use Rattle.mp_cert.proofs.PlaceLemmas.{in_list}
use Rattle.mp_edge.specs.Outside.{Tells}
use Rattle.mp_edge.proofs.Told.{Tells-weaker}
use Rattle.mp_guard.proofs.BurstLemmas.{found_few, into_below, red_small}
use Rattle.mp_guard.proofs.RuleLemmas.{stages_few}
use Rattle.mp_guard.proofs.SurplusLemmas.{share_small, surplus_few}
use Rattle.mp_guard_run.proofs.Courses.{after_more}
use Rattle.mp_guard_run.proofs.Steps.{stages_are}
use Rattle.mp_guard_run.specs.Accounts.{stages_by}
use Rattle.mp_guard_run.specs.Running.{HoldsBounds, guarded_after, guarded_line}
use Rattle.mp_guard_run.specs.Session.{Guarded, IsGuarding, StandsAt}
use Rattle.mp_guarded.proofs.Runs.{run_bounded, run_takes}
use Rattle.mp_guarded.proofs.Sweeps.{sweeps_least}
use Rattle.mp_guarded.specs.Runs.{IsBounded, TakesCandidates}
use Rattle.mp_laws.proofs.Lists.{AllOf-map, at_in, at_index}
use Rattle.mp_log.proofs.FedLemmas.{fed_few}
use Rattle.mp_log.proofs.LengthLemmas.{period_short, end_short}
use Rattle.mp_log.proofs.LoggedLemmas.{one_period}
use Rattle.mp_log.specs.Fitting.{FitsLine}
use Rattle.mp_log.specs.Logged.{BeginsPeriod}
use Rattle.mp_model.specs.Arrivals.{IsPermitted}
use Rattle.mp_model.specs.Guard.{Guard, FlowRule, Holds, IsSurplus, guarded_rate, red}
use Rattle.mp_model.specs.GuardedBursts.{AreAtRest, swept}
use Rattle.mp_model.specs.GuardedChoice.{GuardedState, account_in, guarded_advance, guarded_opening, guarded_run_from, guarded_stage, guarded_stages}
use Rattle.mp_model.specs.GuardedRun.{IsCandidate}
use Rattle.mp_model.specs.Lights.{HasSurplus}
use Rattle.mp_model.specs.Log.{end_line, period_line}
use Rattle.mp_model.specs.Network.{Network, Link, Movement, fed, entry, from_of, flow_of, share_of, start_of, has, into_link, junction_at, junction_numbers, link_at, movement_numbers, no_link, no_movement}
use Rattle.mp_model.specs.NetworkRules.{IsAcceptable}
use Rattle.mp_model.specs.Step.{State, queue}
use Rattle.mp_model.specs.Stream.{lines_of}
use Rattle.mp_model.specs.declared.limits.TheConstants.{MOST_LOG_LINE_BYTES}
use Rattle.mp_run.proofs.AuditLemmas.{cut_line, cut_long}
use Rattle.mp_run.proofs.LogLemmas.{small_at}
use Rattle.mp_step.specs.Taken.{HasTaken}
use Rattle.mp_text.specs.Cut.{Cut}
use Rattle.mp_text.specs.Cutting.{Cuts}
use Rattle.mp_text.specs.declared.cutter.LineStep.TheVariants as step
use Rattle.mp_guard_audit.proofs.LogLemmas.{line_begins, state_period}
use Rattle.mp_guard_audit.specs.Auditing.{Compares, IsNext, ClosesLogged, RefutesCounts, GivesCounts, RefutesEnd, EndsLogged, TakesLogged, MovesOn, TakesNext}
use Rattle.mp_guard_audit.specs.GuardedLog.{guarded_state_after}
use Rattle.mp_guard_audit.specs.declared.auditing.Compared.TheVariants as compared
use Rattle.mp_guard_audit.specs.declared.auditing.Logged.{Logged}
use Rattle.mp_guard_audit.specs.declared.auditing.Logged.TheVariants.{Period, End, Other, Failed}

-- ---- a line beside the wanted one
module _ (left left' : Option (List ℕ)) (old new : Cut) (wanted : List ℕ) where
  pub compares_line : (line : List ℕ) (same : Bool) → line ≡ new.line → MatchBool same (line ≡ wanted) (line ≢ wanted) → Tells left left' (Cuts 16385 step.Line old new) → Tells left left' (Compares wanted (cond same compared.Same compared.Other) old new)
  compares_line line true is same told = Tells-weaker _ _ _ _ (λ was now cut. cut_line (old.held ++ was) (new.held ++ now) new.line cut ∙ ap (λ first. first ∷ lines_of (new.held ++ now)) (sym is ∙ same)) told
  compares_line line false is other told = Tells-weaker _ _ _ _ (λ was now cut. inr (new.line, lines_of (new.held ++ now), cut_line (old.held ++ was) (new.held ++ now) new.line cut, λ e. other (is ∙ e))) told

  pub compares_end : Tells left left' (Cuts 16385 step.End old new) → Tells left left' (Compares wanted compared.Other old new)
  compares_end told = Tells-weaker _ _ _ _ (λ was now e. inl (ap lines_of e.0)) told

  pub compares_long : length wanted < MOST_LOG_LINE_BYTES → Tells left left' (Cuts 16385 step.TooLong old new) → Tells left left' (Compares wanted compared.Other old new)
  compares_long short told = Tells-weaker _ _ _ _ (λ was now long. let first = cut_long (old.held ++ was) long in inr (first.0, first.1, first.2, λ e. let size = ap (length {A = ℕ}) e in absurd (omega (arith, size, first.3)))) told

-- ---- the line of a period
pub line_is : (old new : Guarded) (counts shown : List ℕ) (period : ℕ) → ((now : GuardedState) → StandsAt old now → StandsAt new (guarded_advance old.net old.guard counts now)) → period ≡ new.at.period
    → shown ≡ stages_by old.net old.guard (entry old.at.queues) old.at.period old.accounts → (now : GuardedState) → StandsAt old now → period_line period counts shown new.at.queues ≡ guarded_line old.net old.guard now counts
line_is old new counts shown period advances is shows now on =
    let next : GuardedState = guarded_advance old.net old.guard counts now in
    let after : StandsAt new next = advances now on in
    ap (λ p. period_line p counts shown new.at.queues) (is ∙ after.stands.period)
    ∙ ap (λ ss. period_line next.state.period counts ss new.at.queues) (stages_are old.net old.guard old.at old.accounts now on.stands on.paid shown counts shows)
    ∙ ap (λ qs. period_line next.state.period counts (guarded_stages old.net old.guard (queue now.state) now) qs) after.stands.queues

-- the line of a period that was closed is the wanted one, or it is refuted
pub closes_logged : (same : Bool) (line counts wanted : List ℕ) (old new : Guarded) → ((now : GuardedState) → StandsAt old now → wanted ≡ guarded_line old.net old.guard now counts)
    → ((now : GuardedState) → StandsAt old now → StandsAt new (guarded_advance old.net old.guard counts now)) → ((A : List (List ℕ)) → HasTaken old.net old.at A → HasTaken old.net new.at (A ++ counts ∷ [])) → new.at.period ≡ old.at.period + 1
    → MatchBool same (line ≡ wanted) (line ≢ wanted) → MatchBool same ((new.at.period ≡ old.at.period + 1) × ClosesLogged line counts old new) (RefutesCounts line counts old)
closes_logged true line counts wanted old new is moved taken period same = (period, record { moved = moved; taken = taken; line_is = λ now stands. same ∙ is now stands })
closes_logged false line counts wanted old new is moved taken period other = λ A now has stands permitted e. other (e ∙ sym (is now stands))

-- the end line is the wanted one, or it is refuted
pub ends_logged : (same : Bool) (line wanted : List ℕ) (s : Guarded) → ((now : GuardedState) → StandsAt s now → wanted ≡ end_line s.net now.state) → MatchBool same (line ≡ wanted) (line ≢ wanted) → MatchBool same (EndsLogged s line) (RefutesEnd s line)
ends_logged true line wanted s is same = λ now stands. same ∙ is now stands
ends_logged false line wanted s is other = λ now stands e. other (e ∙ sym (is now stands))

-- the arrivals of the next period were read, or its line gives none
pub gives_counts : (r : Option (Unit {0})) (found : Bool) (s : Guarded) (line read : List ℕ) (period n : ℕ) → found ≡ is_some r → OnSome r (BeginsPeriod line period n read)
    → (r ≡ None → ((counts : List ℕ) → ¬ BeginsPeriod line period n counts) × (read ≡ [])) → period ≡ s.at.period + 1 → n ≡ length (fed s.net) → s.at.period < 2 ^ 48
    → MatchBool found (GivesCounts s line read) ((counts : List ℕ) → ¬ GivesCounts s line counts)
gives_counts None found s line read period n is some none next size low =
    rw is (λ counts gives. (none refl).0 counts (subst (λ m. BeginsPeriod line m n counts) (sym next) (subst (λ m. BeginsPeriod line (s.at.period + 1) m counts) (sym size) gives.1)))
gives_counts (Some x) found s line read period n is some none next size low =
    rw is (low, subst (λ m. BeginsPeriod line m (length (fed s.net)) read) next (subst (λ m. BeginsPeriod line period m read) size some))

-- a line that begins as that of a period is no end line
begun_not_end : (net : Network) (line : List ℕ) (period n : ℕ) (counts : List ℕ) (state : State) → BeginsPeriod line period n counts → line ≢ end_line net state
begun_not_end net line period n counts state begins e = let first : 112 ≡ 101 = ap (λ (xs : List ℕ). get_or xs 0 0) (sym begins.text ∙ e) in absurd (omega (arith, first))

module _ (s : Guarded) (ok : IsAcceptable s.net) (line : List ℕ) (A : List (List ℕ)) (taken : HasTaken s.net s.at A) (stands : StandsAt s (guarded_state_after s.net s.guard A)) where
  -- the line of one more period begins as one
  next_begins : (others : List ℕ) → IsPermitted s.net (A ++ others ∷ []) → line ≡ guarded_line s.net s.guard (guarded_state_after s.net s.guard A) others → BeginsPeriod line (s.at.period + 1) (length (fed s.net)) others
  next_begins others permitted is =
      let now = guarded_state_after s.net s.guard A in
      subst (λ p. BeginsPeriod line (p + 1) (length (fed s.net)) others) (sym stands.stands.period)
      (subst (λ (xs : List ℕ). BeginsPeriod xs (now.state.period + 1) (length (fed s.net)) others) (sym is) (line_begins s.net s.guard now others (small_at s.net ok A [] others permitted)))

  -- counts that a line gives and that were refuted leave nothing that may follow
  pub refuted_counts : (counts : List ℕ) → GivesCounts s line counts → RefutesCounts line counts s → ¬ IsNext s.net s.guard A line
  refuted_counts counts gives refutes next =
      let now = guarded_state_after s.net s.guard A in
      ⊎_elim (λ (e : line ≡ end_line s.net now.state). begun_not_end s.net line (s.at.period + 1) (length (fed s.net)) counts now.state gives.1 e)
      (λ (more : (others : List ℕ) × (length A < 2 ^ 48) × IsPermitted s.net (A ++ others ∷ []) × (line ≡ guarded_line s.net s.guard now others)).
      let same : more.0 ≡ counts = one_period line (s.at.period + 1) (length (fed s.net)) more.0 counts (next_begins more.0 more.2 more.3) gives.1 in
      refutes A now taken stands (subst (λ (xs : List ℕ). IsPermitted s.net (A ++ xs ∷ [])) same more.2) (subst (λ (xs : List ℕ). line ≡ guarded_line s.net s.guard now xs) same more.3)) next

  -- a line that gives no counts and is not the end line may not follow
  pub nothing_given : ((counts : List ℕ) → ¬ GivesCounts s line counts) → RefutesEnd s line → ¬ IsNext s.net s.guard A line
  nothing_given none refutes next =
      let now = guarded_state_after s.net s.guard A in
      ⊎_elim (λ (e : line ≡ end_line s.net now.state). refutes now stands e)
      (λ (more : (others : List ℕ) × (length A < 2 ^ 48) × IsPermitted s.net (A ++ others ∷ []) × (line ≡ guarded_line s.net s.guard now others)).
      let low : s.at.period < 2 ^ 48 = let few = more.1 in omega (arith, few, stands.stands.period, state_period s.net s.guard (guarded_opening s.net s.guard) A) in none more.0 (low, next_begins more.0 more.2 more.3)) next

-- ---- no line of a log is too long
last_in : (net : Network) (guard : Guard) (P : GuardedState → Type 0) (now : GuardedState) (A : List (List ℕ)) → AllByRecursion P (guarded_run_from net guard now A) → P (guarded_after net guard now A)
last_in net guard P now [] all = all.0
last_in net guard P now (c ∷ A) all = last_in net guard P (guarded_advance net guard c now) A all.1

-- over plain numbers: 2^85 vehicles hold what comes
holds_many : (W d w X e h c p start : ℕ) → 1 ≤ W → w ≤ 1000 → X ≤ 2 ^ 50 + 10000 → e ≤ 1001000 → h ≤ c * d → c ≤ 1000 → p ≤ 7201 → start ≤ 1000000 → W * d * start + d * (w * X + e) + W * h * p ≤ W * d * 2 ^ 85
holds_many W d w X e h c p start some share crowd surplus rate flow periods starts =
    let a : (W * d) * start ≤ (W * d) * 1000000 = mul-le-mul_left (W * d) starts in
    let b : w * X ≤ w * (2 ^ 50 + 10000) = mul-le-mul_left w crowd in
    let f : d * (w * X + e) ≤ d * (1000 * (2 ^ 50 + 10000) + 1001000) = mul-le-mul_left d (omega (arith, b, share, surplus)) in
    let g : d * 1 ≤ d * W = mul-le-mul_left d some in
    let i : d * c ≤ d * 1000 = mul-le-mul_left d flow in
    let j : W * h ≤ W * (d * 1000) = mul-le-mul_left W (omega (arith, rate, i)) in
    let k : (W * h) * p ≤ (W * h) * 7201 = mul-le-mul_left (W * h) periods in
    omega (arith, a, f, g, j, k)

module _ (s : Guarded) (g : IsGuarding s) (b : HoldsBounds s) where
  abbrev net : Network
  net = s.net

  abbrev guard : Guard
  guard = s.guard

  abbrev surplus : ℕ → ℕ
  surplus = entry b.rests.surpluses

  abbrev bursts : List ℕ
  bursts = swept net guard surplus b.rests.found.sweeps

  holds_high : (k : ℕ) → has (movement_numbers net) k ≡ true → Holds net guard (surplus k) bursts k (1 + 2 * red net guard k) (2 ^ 85)
  holds_high k in' =
      let l : ℕ = from_of net k in
      let few = found_few net g.acceptable guard g.guards b.rests.surpluses bursts b.rests.are b.rests.found.sweeps b.rests.found.few refl in
      let burst : (link_at net l).burst ≤ 10000 = at_index (λ (link : Link). link.burst ≤ 10000) no_link net.links (l - 1) g.acceptable.range.bursts (omega arith) in
      let flow : flow_of net k ≤ 1000 = at_index (λ (m : Movement). m.flow ≤ 1000) no_movement net.movements (k - 1) g.acceptable.range.flows (omega arith) in
      let start : start_of net k ≤ 1000000 = at_index (λ (m : Movement). m.start ≤ 1000000) no_movement net.movements (k - 1) g.acceptable.range.starts (omega arith) in
      let share : share_of net k ≤ 1000 = let most = g.acceptable.range.shares in omega (arith, most, share_small net g.acceptable.network k in') in
      holds_many net.shares guard.denominator (share_of net k) ((link_at net l).burst + sum_by (entry bursts) (into_link net l)) (surplus k) (guarded_rate guard k) (flow_of net k) (1 + 2 * red net guard k) (start_of net k)
      g.acceptable.network.shares share (omega (arith, burst, few, into_below net bursts l)) (surplus_few net g.acceptable b.rests.surpluses b.rests.are k in')
      (at_in (FlowRule net guard) k (movement_numbers net) in' g.guards.flows) flow (omega (arith, red_small net guard g.guards k)) start

  queue_high : (A : List (List ℕ)) → IsPermitted net A → (k : ℕ) → has (movement_numbers net) k ≡ true → queue (guarded_state_after net guard A).state k ≤ 2 ^ 85
  queue_high A permitted k in' =
      let surpluses = AllOf-map (λ k. IsSurplus net k (surplus k)) (λ k. HasSurplus net k (surplus k)) (λ k h. h.holds) (movement_numbers net) b.rests.are.each in
      let rest : AreAtRest net guard surplus bursts = subst (AreAtRest net guard surplus) b.rests.found.found b.rests.found.rest in
      let least = sweeps_least net g.acceptable.network guard g.guards surplus surpluses b.rests.found.sweeps rest in
      let all = run_bounded net g.acceptable.network guard g.guards surplus bursts least.carry A permitted in
      at_in (λ k. (bound : ℕ) → Holds net guard (surplus k) bursts k (1 + 2 * red net guard k) bound → queue (guarded_state_after net guard A).state k ≤ bound) k (movement_numbers net) in'
      (last_in net guard (IsBounded net guard surplus bursts) (guarded_opening net guard) A all) (2 ^ 85) (holds_high k in')

  queues_small : (A : List (List ℕ)) (c : List ℕ) → IsPermitted net (A ++ c ∷ []) → (queues : List ℕ) → queues ≡ (guarded_advance net guard c (guarded_state_after net guard A)).state.queues → length queues ≡ length net.movements → All (λ q. q ≤ 2 ^ 85) queues
  queues_small A c permitted queues is size k d low =
      let back : (k + 1) - 1 ≡ k = omega arith in
      let high : queue (guarded_state_after net guard (A ++ c ∷ [])).state (k + 1) ≤ 2 ^ 85 = queue_high (A ++ c ∷ []) permitted (k + 1) (in_list (length net.movements) (k + 1) (omega arith) (omega (arith, low, size))) in
      let here : entry queues (k + 1) ≤ 2 ^ 85 =
      subst (λ qs. entry qs (k + 1) ≤ 2 ^ 85) (ap (λ (now : GuardedState). now.state.queues) (after_more net guard (guarded_opening net guard) A c) ∙ sym is) high in
      let at : get_or queues k 0 ≤ 2 ^ 85 = subst (λ i. get_or queues i 0 ≤ 2 ^ 85) back here in
      subst (λ n. n ≤ 2 ^ 85) (sym (get_or_default queues k d 0 low)) at

  stages_small : (A : List (List ℕ)) → All (λ m. m ≤ 16) (guarded_stages net guard (queue (guarded_state_after net guard A).state) (guarded_state_after net guard A))
  stages_small A k d low =
      let now = guarded_state_after net guard A in
      let f : ℕ → ℕ = λ j. guarded_stage net guard (junction_at net j) (queue now.state) now.state.period (account_in now j) in
      let within : k < length net.junctions = omega (arith, low, length-map-range_with_len f 1 (length net.junctions)) in
      let takes = last_in net guard (TakesCandidates net guard) (guarded_opening net guard) A (run_takes net g.acceptable.network guard g.guards A) in
      let candidate = at_in (λ j. IsCandidate guard (junction_at net j) (queue now.state) now.state.period (account_in now j) (f j)) (k + 1) (junction_numbers net) (in_list (length net.junctions) (k + 1) (omega arith) (omega (arith, within))) takes in
      subst (λ n. n ≤ 16) (sym (get_or-map-range_with_len f 1 (length net.junctions) k (k + 1) d within (omega arith))) (let most = candidate.is_stage.1 in omega (arith, most, stages_few net g.acceptable (k + 1)))

  pub short_next : (A : List (List ℕ)) (line : List ℕ) → IsNext net guard A line → length line < MOST_LOG_LINE_BYTES
  short_next A line next =
      let now = guarded_state_after net guard A in
      ⊎_elim (λ (e : line ≡ end_line net now.state). rw e (end_short now.state.period now.state.total_in now.state.total_out _))
      (λ (more : (c : List ℕ) × (length A < 2 ^ 48) × IsPermitted net (A ++ c ∷ []) × (line ≡ guarded_line net guard now c)).
      let small = small_at net g.acceptable A [] more.0 more.2 in
      let after : State = (guarded_advance net guard more.0 now).state in
      let size : length after.queues ≡ length net.movements = length-map-range_with_len _ 1 (length net.movements) in
      let stages : List ℕ = guarded_stages net guard (queue now.state) now in
      let fits : FitsLine (now.state.period + 1) more.0 stages (map pos after.queues) = record {
        counts = after.queues;
        none_negative = refl;
        period_in = let few = more.1 in omega (arith, few, state_period net guard (guarded_opening net guard) A);
        few_arrivals = let links = g.acceptable.range.links in omega (arith, small.0, fed_few net, links.1);
        few_stages = let junctions = g.acceptable.range.junctions in omega (arith, length-map-range_with_len (λ j. guarded_stage net guard (junction_at net j) (queue now.state) now.state.period (account_in now j)) 1 (length net.junctions), junctions.1);
        few_queues = let movements = g.acceptable.range.movements in omega (arith, length-map after.queues pos, size, movements.1);
        arrivals_in = small.1;
        stages_in = stages_small A;
        queues_in = queues_small A more.0 more.2 after.queues refl size;
      } in
      rw more.3 (period_short (now.state.period + 1) more.0 stages after.queues fits)) next

-- ---- the next line behind the header
pub moves_on : (old new : Guarded) (r : Logged) (line taken : List ℕ) → line ≡ taken → TakesLogged line r old new → MovesOn taken r old new
moves_on old new Period line taken is takes = subst (λ (xs : List ℕ). TakesLogged xs Period old new) is takes
moves_on old new End line taken is takes = subst (λ (xs : List ℕ). TakesLogged xs End old new) is takes
moves_on old new Other line taken is takes = tt
moves_on old new Failed line taken is takes = tt

pub never_failed : (line : List ℕ) (r : Logged) (old new : Guarded) → TakesLogged line r old new → r ≡ Failed → ⊥
never_failed line r old new takes is = subst (λ (l : Logged). TakesLogged line l old new) is takes

module _ (left left' : Option (List ℕ)) (old : Guarded) (cut cut' : Cut) where
  pub takes_line : (new : Guarded) (r : Logged) (line : List ℕ) → line ≡ cut'.line → TakesLogged line r old new → Tells left left' (Cuts 16385 step.Line cut cut') → Tells left left' (TakesNext r old cut cut')
  takes_line new Period line is takes told = Tells-weaker _ _ _ _ (λ was now c. cut_line (cut.held ++ was) (cut'.held ++ now) cut'.line c) told
  takes_line new End line is takes told = Tells-weaker _ _ _ _ (λ was now c. cut_line (cut.held ++ was) (cut'.held ++ now) cut'.line c) told
  takes_line new Other line is takes told =
      Tells-weaker _ _ _ _ (λ was now c A taken stands. inr (line, lines_of (cut'.held ++ now), cut_line (cut.held ++ was) (cut'.held ++ now) cut'.line c ∙ ap (λ first. first ∷ lines_of (cut'.held ++ now)) (sym is), takes A taken stands)) told
  takes_line new Failed line is takes told = absurd takes

  pub takes_none : Tells left left' (Cuts 16385 step.End cut cut') → Tells left left' (TakesNext Other old cut cut')
  takes_none told = Tells-weaker _ _ _ _ (λ was now e A taken stands. inl (ap lines_of e.0)) told

  pub takes_long : IsGuarding old → HoldsBounds old → Tells left left' (Cuts 16385 step.TooLong cut cut') → Tells left left' (TakesNext Other old cut cut')
  takes_long g b told =
      Tells-weaker _ _ _ _ (λ was now long A taken stands.
      let first = cut_long (cut.held ++ was) long in
      inr (first.0, first.1, first.2, λ next. let short = short_next old g b A first.0 next in absurd (omega (arith, short, first.3)))) told

-- ---- a session that stays the same but for where it stands
pub same_after : (old mid new : Guarded) → mid ≡ record old { at = mid.at; accounts = mid.accounts; stages = mid.stages } → new ≡ record mid { at = new.at; accounts = new.accounts; stages = new.stages } → new ≡ record old { at = new.at; accounts = new.accounts; stages = new.stages }
same_after old mid new before after = after ∙ ap (λ (s : Guarded). record s { at = new.at; accounts = new.accounts; stages = new.stages }) before

pub holds_same : (old new : Guarded) → new ≡ record old { at = new.at; accounts = new.accounts; stages = new.stages } → HoldsBounds old → HoldsBounds new
holds_same old new same holds =
    let kept : HoldsBounds (record old { at = new.at; accounts = new.accounts; stages = new.stages }) = record { rests = holds.rests; are = holds.are } in
    subst HoldsBounds (sym same) kept
