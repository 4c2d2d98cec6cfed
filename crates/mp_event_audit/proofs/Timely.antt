-- Renewed reports are timely, so a run by them stays within its bounds and its lines are short.
use Rattle.std.proofs.Common.{◌≡◌, ◌≤◌, ◌<◌, ◌^◌, ℕ, suc, ◌+◌, ◌-◌, ◌%◌, List, [], ◌∷◌, ◌++◌, length, map, zip, get_or, pos, refl, sym, ap, subst, arith, ⊎_elim}
use Rattle.std.specs.List.{All, AllByRecursion}
use Rattle.std.proofs.lemmas.List.{length-map, get_or_default}
use Rattle.std.proofs.lemmas.List.Elements.{All-cons}
use Rattle.std.proofs.lemmas.List.FromFn.{length-map-range_with_len}
use Rattle.mp_model.specs.Arrivals.{IsPermitted}
use Rattle.mp_model.specs.Network.{Junction, Network, entry, movement_numbers, targets}
use Rattle.mp_model.specs.Reports.{AllTimely, History, IsTimelyAge, Period, advance_by, first_history, history_after, renewed_ages, renewed_periods, reported_queue, reported_run, reported_run_from, reported_stage, reported_stages}
use Rattle.mp_model.specs.Step.{State, queue}
use Rattle.mp_model.specs.declared.limits.TheConstants.{MOST_LOG_LINE_BYTES}
use Rattle.mp_laws.proofs.Greatest.{greatest_stage_by_is}
use Rattle.mp_laws.proofs.Lists.{at_index, at_number}
use Rattle.mp_laws.proofs.Reported.{bound_of_reported}
use Rattle.mp_log.specs.Fitting.{FitsLine}
use Rattle.mp_log.proofs.FedLemmas.{fed_few}
use Rattle.mp_log.proofs.LengthLemmas.{period_short, end_short}
use Rattle.mp_num.specs.Fraction.{numerator, denominator}
use Rattle.mp_run.proofs.LogLemmas.{small_at}
use Rattle.mp_session.specs.SessionView.{SessionView, IsBounded}
use Rattle.mp_event_audit.specs.Behind.{end_behind, history_behind, line_behind, period_behind}
use Rattle.mp_event_audit.specs.Auditing.{IsNext}
use Rattle.mp_event_audit.proofs.Standing.{behind_period, history_next}

-- an age is at most the delay, and no greater than the periods before
ages_timely : (net : Network) (before : ℕ) (ts : List ℕ) → AllByRecursion (IsTimelyAge net before) (map (λ l. before % (net.delay + 1)) ts)
ages_timely net before [] = tt
ages_timely net before (t ∷ ts) = ((omega arith, omega arith), ages_timely net before ts)

all_ages : (net : Network) (before : ℕ) (js : List Junction) → AllByRecursion (AllByRecursion (IsTimelyAge net before)) (map (λ j. map (λ l. before % (net.delay + 1)) (targets net j)) js)
all_ages net before [] = tt
all_ages net before (j ∷ js) = (ages_timely net before (targets net j), all_ages net before js)

ages_count : (net : Network) (n : ℕ) (js : List Junction) → AllByRecursion (λ p. length p.1 ≡ length (targets net p.0)) (zip js (map (λ j. map (λ l. n) (targets net j)) js))
ages_count net n [] = tt
ages_count net n (j ∷ js) = (length-map (targets net j) (λ (l : ℕ). n), ages_count net n js)

all_timely : (net : Network) (before : ℕ) (A : List (List ℕ)) → AllTimely net before (renewed_periods net before A)
all_timely net before [] = tt
all_timely net before (c ∷ A) = (
  record { junctions = length-map net.junctions (λ j. map (λ l. before % (net.delay + 1)) (targets net j)); targets = ages_count net (before % (net.delay + 1)) net.junctions; timely = all_ages net before net.junctions },
  all_timely net (before + 1) A,
)

counts_are : (net : Network) (before : ℕ) (A : List (List ℕ)) → map (λ period. period.counts) (renewed_periods net before A) ≡ A
counts_are net before [] = refl
counts_are net before (c ∷ A) = ap (λ B. c ∷ B) (counts_are net (before + 1) A)

last_in : (net : Network) (P : State → Type 0) (history : History) (periods : List Period) → AllByRecursion P (reported_run_from net history periods) → P (history_after net history periods).now
last_in net P history [] all = all.0
last_in net P history (p ∷ ps) all = last_in net P (advance_by net p history) ps all.1

-- the stages by reports are stages
stages_few : (net : Network) (history : History) (js : List Junction) (ages : List (List ℕ)) → length (map (λ p. reported_stage net history p.0 p.1) (zip js ages)) ≤ length js
stages_few net history [] ages = omega arith
stages_few net history (j ∷ js) [] = omega arith
stages_few net history (j ∷ js) (a ∷ ages) = let rest = stages_few net history js ages in omega arith

stages_low : (net : Network) (history : History) (js : List Junction) (ages : List (List ℕ)) → AllByRecursion (λ j. 1 ≤ length j.stages) js → AllByRecursion (λ j. length j.stages ≤ 16) js → All (λ s. s ≤ 16) (map (λ p. reported_stage net history p.0 p.1) (zip js ages))
stages_low net history [] ages some most = λ k d low. absurd (omega arith)
stages_low net history (j ∷ js) [] some most = λ k d low. absurd (omega arith)
stages_low net history (j ∷ js) (a ∷ ages) some most =
    let is = greatest_stage_by_is net (queue history.now) (reported_queue net history j a) j some.0 in
    All-cons (λ m. m ≤ 16) (reported_stage net history j a) (map (λ p. reported_stage net history p.0 p.1) (zip js ages)) (omega (arith, is.is_stage.1, most.0)) (stages_low net history js ages some.1 most.1)

pub record HasSmallQueues (net : Network) (queues : List ℕ) : Type 0 where
  pub size : length queues ≡ length net.movements
  pub small : All (λ q. q ≤ 2 ^ 85) queues

module _ (s : SessionView) (b : IsBounded s) where
  bound_small : (k : ℕ) → entry b.bounds.bounds k ≤ 2 ^ 62
  bound_small k = at_index (λ n. n ≤ 2 ^ 62) 0 b.bounds.bounds (k - 1) b.bounds.room (omega arith)

  stays_within : (A : List (List ℕ)) → IsPermitted s.net A → AllByRecursion (λ state. AllByRecursion (λ k. queue state k ≤ entry b.bounds.bounds k) (movement_numbers s.net)) (reported_run s.net (renewed_periods s.net 0 A))
  stays_within A permitted =
      bound_of_reported s.net b.acceptable.network b.certified.0 b.certified.1 (numerator s.slack) (denominator s.slack) b.certified.2 b.bounds.bounds b.bounds.are (renewed_periods s.net 0 A)
      (subst (IsPermitted s.net) (sym (counts_are s.net 0 A)) permitted) (all_timely s.net 0 A)

  queues_small : (A : List (List ℕ)) (c : List ℕ) → IsPermitted s.net (A ++ c ∷ []) → HasSmallQueues s.net (advance_by s.net (period_behind s.net A c) (history_behind s.net A)).now.queues
  queues_small A c permitted =
      let state = (advance_by s.net (period_behind s.net A c) (history_behind s.net A)).now in
      let size : length state.queues ≡ length s.net.movements = length-map-range_with_len _ 1 (length s.net.movements) in
      let within : AllByRecursion (λ k. queue state k ≤ entry b.bounds.bounds k) (movement_numbers s.net) =
      subst (λ (history : History). AllByRecursion (λ k. queue history.now k ≤ entry b.bounds.bounds k) (movement_numbers s.net)) (history_next s.net A c)
      (last_in s.net (λ st. AllByRecursion (λ k. queue st k ≤ entry b.bounds.bounds k) (movement_numbers s.net)) (first_history s.net) (renewed_periods s.net 0 (A ++ c ∷ [])) (stays_within (A ++ c ∷ []) permitted)) in
      record { size = size; small = λ k d low. small_place state.queues k d low (at_number (λ n. queue state n ≤ entry b.bounds.bounds n) (length s.net.movements) k (omega (arith, size)) within) (bound_small (suc k)) }
    where
      small_place : (queues : List ℕ) (k d : ℕ) → k < length queues → entry queues (suc k) ≤ entry b.bounds.bounds (suc k) → entry b.bounds.bounds (suc k) ≤ 2 ^ 62 → get_or queues k d ≤ 2 ^ 85
      small_place queues k d low h m =
          let place : suc k - 1 ≡ k = omega arith in
          let here : get_or queues k 0 ≤ 2 ^ 62 = subst (λ i. get_or queues i 0 ≤ 2 ^ 62) place (omega (arith, h, m)) in rw (get_or_default queues k d 0 low) (omega (arith, here))

  -- no line of a log is too long
  pub short_next : (A : List (List ℕ)) (line : List ℕ) → IsNext s.net A line → length line < MOST_LOG_LINE_BYTES
  short_next A line next =
      let net = s.net in
      let state : State = (history_behind net A).now in
      ⊎_elim (λ (e : line ≡ end_behind net A). rw e (end_short state.period state.total_in state.total_out _))
      (λ (more : (c : List ℕ) × (length A < 2 ^ 48) × IsPermitted net (A ++ c ∷ []) × (line ≡ line_behind net A c)).
      let after : State = (advance_by net (period_behind net A more.0) (history_behind net A)).now in
      let stages = reported_stages net (history_behind net A) (renewed_ages net (length A)) in
      let small = small_at net b.acceptable A [] more.0 more.2 in
      let queues = queues_small A more.0 more.2 in
      let fits : FitsLine (state.period + 1) more.0 stages (map pos after.queues) = record {
        counts = after.queues;
        none_negative = refl;
        period_in = let few = more.1 in omega (arith, behind_period net A);
        few_arrivals = let links = b.acceptable.range.links in omega (arith, small.0, fed_few net, links.1);
        few_stages = let junctions = b.acceptable.range.junctions in omega (arith, stages_few net (history_behind net A) net.junctions (renewed_ages net (length A)), junctions.1);
        few_queues = let movements = b.acceptable.range.movements in omega (arith, length-map after.queues pos, queues.size, movements.1);
        arrivals_in = small.1;
        stages_in = stages_low net (history_behind net A) net.junctions (renewed_ages net (length A)) b.acceptable.network.some_stage b.acceptable.range.stages;
        queues_in = queues.small;
      } in
      rw more.3 (period_short (state.period + 1) more.0 stages after.queues fits)) next
