-- The guarded run by its own queues is a play whose counts are the queues.
use Rattle.std.proofs.Common.{◌≡◌, ◌==◌, ℕ, zero, suc, ◌+◌, ◌-◌, ◌*◌, ◌%◌, ◌≤◌, ◌<◌, min, Bool, true, false, cond, ◌&&◌, nat_le, nat_lt, List, [], ◌∷◌, length, get_or, map, Option, Some, None, ℤ, pos, arith, refl, sym, ◌∙◌, ap, ap₂, subst, ⊎_elim, eq-eqb, eqb-true}
use Rattle.std.specs.List.{AllByRecursion, range_with_len, list_any}
use Rattle.std.proofs.lemmas.Bool.{cases_lt, le-leb, leb-true, false≢true, or_left, or_right, or_cases}
use Rattle.std.proofs.lemmas.List.FromFn.{get_or-map-range_with_len}
use Rattle.mp_laws.proofs.FirstGreatest.{first_in}
use Rattle.mp_laws.proofs.Lists.{each_in, filter_has, filter_sub, has_filter, in_numbers, numbered}
use Rattle.mp_laws.proofs.Sums.{sum_by-same_at}
use Rattle.mp_model.specs.Arrivals.{arrivals_of, IsPermitted}
use Rattle.mp_model.specs.Guard.{Guard, Guards, CarryBursts, Holds, greens_at, red}
use Rattle.mp_model.specs.GuardedChoice.{GuardedState, account_in, candidates_in, guarded_advance, guarded_opening, guarded_run, guarded_run_from, guarded_stage, guarded_stages, is_candidate, kept_or, next_account, no_account, passes_under}
use Rattle.mp_model.specs.GuardedRun.{Account, IsCandidate, KeepsGuard, Play, account_of, guarded_state, lights_of, is_green, needed_in, owed_in, paid, stage_of}
use Rattle.mp_model.specs.Lights.{lit_pass}
use Rattle.mp_model.specs.Network.{Network, Junction, flow_of, from_of, goes_out, goes_to, has, into_link, junction_at, junction_numbers, junction_of_movement, link_numbers, movement_numbers, no_junction, stage_at, stage_numbers, to_of}
use Rattle.mp_model.specs.NetworkRules.{IsNetwork}
use Rattle.mp_model.specs.Pressure.{pressure}
use Rattle.mp_model.specs.Split.{first_greatest}
use Rattle.mp_model.specs.Step.{State, got_by, new_queue, departing_by, queue, received_by, step_by}
use Rattle.mp_guarded.specs.Runs.{TakesCandidates, IsBounded}
use Rattle.mp_guarded.proofs.Bounds.{queues_guarded}
use Rattle.mp_guarded.proofs.Candidates.{before_in, candidate_there}
use Rattle.mp_guarded.proofs.Plays.{greens_kept}
use Rattle.mp_served.proofs.Rows.{from_none, listed}
use Rattle.mp_served.proofs.Places.{at_place, junction_in, range_has}

-- ---- what is taken is a candidate
tests : (guard : Guard) (j : Junction) (counts : ℕ → ℕ) (t : ℕ) (account : Account) (s : ℕ) → 1 ≤ s → s ≤ length j.stages → is_candidate guard j counts t account s ≡ true → IsCandidate guard j counts t account s
tests guard j counts t account s low high e = record { is_stage = (low, high); fits = leb-true (needed_in guard.lost (paid guard.lost j counts account s) s + 1 + t % guard.cycle) guard.cycle e }

passes_test : (guard : Guard) (j : Junction) (counts : ℕ → ℕ) (t : ℕ) (account : Account) (s : ℕ) → IsCandidate guard j counts t account s → is_candidate guard j counts t account s ≡ true
passes_test guard j counts t account s c = le-leb (needed_in guard.lost (paid guard.lost j counts account s) s + 1 + t % guard.cycle) guard.cycle c.fits

some_there : (xs : List ℕ) (k : ℕ) → has xs k ≡ true → 1 ≤ length xs
some_there [] k h = absurd (false≢true h)
some_there (x ∷ xs) k h = omega arith

both_of : (x y : Bool) → (x && y) ≡ true → (x ≡ true) × (y ≡ true)
both_of true y e = (refl, e)
both_of false y e = absurd (false≢true e)

kept_is : (net : Network) (guard : Guard) (j : Junction) (counts : ℕ → ℕ) (t : ℕ) (account : Account) (before : Option ℕ) (best : ℕ) → ((r : ℕ) → before ≡ Some r → (1 ≤ r) × (r ≤ length j.stages)) →
    IsCandidate guard j counts t account best → IsCandidate guard j counts t account (kept_or net guard j counts t account before best)
kept_is net guard j counts t account None best range c = c
kept_is net guard j counts t account (Some r) best range c = go (nat_lt 0 guard.lost) (is_candidate guard j counts t account r) refl (nat_le (pressure net counts (stage_at j best)) (2 * pressure net counts (stage_at j r)))
  where
    go : (a b : Bool) → is_candidate guard j counts t account r ≡ b → (d : Bool) → IsCandidate guard j counts t account (cond (a && b && d) r best)
    go true true e true = let at = range r refl in tests guard j counts t account r at.0 at.1 e
    go true true e false = c
    go true false e d = c
    go false b e d = c

turned : (k : ℕ) (xs : List ℕ) → list_any (λ x. k == x) xs ≡ true → has xs k ≡ true
turned k [] h = h
turned k (x ∷ xs) h = ⊎_elim
    (λ e. or_left (x == k) (has xs k) (eq-eqb x k (sym (eqb-true k x e))))
    (λ e. or_right (x == k) (has xs k) (turned k xs e))
    (or_cases (k == x) (list_any (λ x. k == x) xs) h)

pub taken_is : (net : Network) (guard : Guard) (j : Junction) (counts : ℕ → ℕ) (t : ℕ) (account : Account) → ((r : ℕ) → account.before ≡ Some r → (1 ≤ r) × (r ≤ length j.stages)) → (s : ℕ) → IsCandidate guard j counts t account s →
    IsCandidate guard j counts t account (guarded_stage net guard j counts t account)
taken_is net guard j counts t account range s c =
    let key : ℕ → ℤ = λ s. pos (pressure net counts (stage_at j s)) in
    let those : List ℕ = candidates_in guard j counts t account in
    let there : has (stage_numbers j) s ≡ true = range_has 1 (length j.stages) s c.is_stage.0 (omega (arith, c.is_stage.1)) in
    let some = some_there those s (has_filter (is_candidate guard j counts t account) s (stage_numbers j) there (passes_test guard j counts t account s c)) in
    let best : ℕ = first_greatest key those in
    let best_in : has those best ≡ true = turned best those (first_in key those some) in
    let at = in_numbers (length j.stages) best (filter_sub (is_candidate guard j counts t account) (stage_numbers j) best best_in) in
    kept_is net guard j counts t account account.before best range (tests guard j counts t account best at.0 (omega (arith, at.1)) (filter_has (is_candidate guard j counts t account) (stage_numbers j) best best_in))

-- ---- steps in which the same passes are the same
map_same_at : (f g : ℕ → ℕ) (xs : List ℕ) → AllByRecursion (λ x. f x ≡ g x) xs → map f xs ≡ map g xs
map_same_at f g [] h = refl
map_same_at f g (x ∷ xs) h = ap₂ ◌∷◌ h.0 (map_same_at f g xs h.1)

module _ (net : Network) (p p' arrivals : ℕ → ℕ) (state : State) (same : (k : ℕ) → has (movement_numbers net) k ≡ true → p k ≡ p' k) where
  got_same : (l : ℕ) → got_by net p arrivals l ≡ got_by net p' arrivals l
  got_same l = ap (λ n. arrivals l + n) (sum_by-same_at p p' (into_link net l) (each_in (λ k. p k ≡ p' k) (into_link net l) (λ k in'. same k (filter_sub (λ k. goes_to (to_of net k) l) (movement_numbers net) k in'))))

  queues_same : map (λ k. new_queue net (queue state k) (p k) (received_by state (from_of net k)) (got_by net p arrivals (from_of net k)) k) (movement_numbers net)
      ≡ map (λ k. new_queue net (queue state k) (p' k) (received_by state (from_of net k)) (got_by net p' arrivals (from_of net k)) k) (movement_numbers net)
  queues_same = map_same_at (λ k. new_queue net (queue state k) (p k) (received_by state (from_of net k)) (got_by net p arrivals (from_of net k)) k) (λ k. new_queue net (queue state k) (p' k) (received_by state (from_of net k)) (got_by net p' arrivals (from_of net k)) k) (movement_numbers net)
      (each_in (λ k. new_queue net (queue state k) (p k) (received_by state (from_of net k)) (got_by net p arrivals (from_of net k)) k ≡ new_queue net (queue state k) (p' k) (received_by state (from_of net k)) (got_by net p' arrivals (from_of net k)) k) (movement_numbers net)
      (λ k in'. ap₂ (λ x r. new_queue net (queue state k) x (received_by state (from_of net k)) r k) (same k in') (got_same (from_of net k))))

  received_same : map (λ l. received_by state l + got_by net p arrivals l) (link_numbers net) ≡ map (λ l. received_by state l + got_by net p' arrivals l) (link_numbers net)
  received_same = map_same_at (λ l. received_by state l + got_by net p arrivals l) (λ l. received_by state l + got_by net p' arrivals l) (link_numbers net)
      (each_in (λ l. received_by state l + got_by net p arrivals l ≡ received_by state l + got_by net p' arrivals l) (link_numbers net) (λ l in'. ap (λ r. received_by state l + r) (got_same l)))

  departing_same : departing_by net p ≡ departing_by net p'
  departing_same = sum_by-same_at (λ k. cond (goes_out net k) (p k) 0) (λ k. cond (goes_out net k) (p' k) 0) (movement_numbers net)
      (each_in (λ k. cond {A = ℕ} (goes_out net k) (p k) 0 ≡ cond (goes_out net k) (p' k) 0) (movement_numbers net) (λ k in'. ap (λ x. cond {A = ℕ} (goes_out net k) x 0) (same k in')))

  step_same : step_by net p arrivals state ≡ step_by net p' arrivals state
  step_same =
      let a : State = step_by net p arrivals state in
      ap (λ qs. record a { queues = qs }) queues_same
      ∙ ap (λ rs. record (step_by net p' arrivals state) { received = rs; total_out = state.total_out + departing_by net p }) received_same
      ∙ ap (λ d. record (step_by net p' arrivals state) { total_out = state.total_out + d }) departing_same

-- ---- the run, by its arrivals in each period
module _ (net : Network) (ok : IsNetwork net) (guard : Guard) (guards : Guards net guard) (arrivals : ℕ → List ℕ) where
  unfoldable pub run_at : ℕ → GuardedState
  run_at zero = guarded_opening net guard
  run_at (suc t) = guarded_advance net guard (arrivals t) (run_at t)

  abbrev pub play : Play
  play = record { arrivals = arrivals; counts = λ t. queue (run_at t).state; stages = λ t. guarded_stages net guard (queue (run_at t).state) (run_at t) }

  period_is : (t : ℕ) → (run_at t).state.period ≡ t
  unfolding run_at
  period_is zero = refl
  period_is (suc t) = let more = period_is t in omega arith

  account_read : (f : ℕ → Account) (j : ℕ) → has (junction_numbers net) j ≡ true → get_or (map f (junction_numbers net)) (j - 1) no_account ≡ f j
  account_read f j in' = let i = in_numbers (length net.junctions) j in' in get_or-map-range_with_len f 1 (length net.junctions) (j - 1) j no_account (omega (arith, i)) (omega (arith, i))

  pub account_is : (t j : ℕ) → has (junction_numbers net) j ≡ true → account_in (run_at t) j ≡ account_of net guard play j t
  unfolding run_at
  account_is zero j in' = account_read (λ j. record { owed = greens_at guard j; before = None }) j in'
  account_is (suc t) j in' =
      let one : (run_at t).state.period + 1 ≡ suc t = let e = period_is t in omega arith in
      account_read (next_account net guard (queue (run_at t).state) (run_at t) (guarded_stages net guard (queue (run_at t).state) (run_at t))) j in'
      ∙ ap₂ (λ n account. record { owed = owed_in guard.cycle (greens_at guard j) n (paid guard.lost (junction_at net j) (queue (run_at t).state) account (stage_of play j t)); before = Some (stage_of play j t) }) one (account_is t j in')

  pass_is : (t k : ℕ) → has (movement_numbers net) k ≡ true → passes_under net guard (run_at t) (play.stages t) k ≡ lit_pass net (lights_of net guard play) t (queue (run_at t).state) k
  pass_is t k in' = ap (λ account. cond (is_green guard.lost (junction_at net (junction_of_movement net k)) account.before (stage_of play (junction_of_movement net k) t) k) (min (flow_of net k) (queue (run_at t).state k)) 0) (account_is t (junction_of_movement net k) (junction_in net ok k in'))

  state_is : (t : ℕ) → (run_at t).state ≡ guarded_state net guard play t
  unfolding run_at
  state_is zero = refl
  state_is (suc t) =
      step_same net (passes_under net guard (run_at t) (play.stages t)) (lit_pass net (lights_of net guard play) t (queue (run_at t).state)) (arrivals_of net (arrivals t)) (run_at t).state (pass_is t)
      ∙ ap (λ state. step_by net (lit_pass net (lights_of net guard play) t (queue state)) (arrivals_of net (arrivals t)) state) (state_is t)

  -- ---- the junctions keep to the guard
  has_stages : (j : ℕ) → has (junction_numbers net) j ≡ true → 1 ≤ length (junction_at net j).stages
  has_stages j in' = let i = in_numbers (length net.junctions) j in' in at_place (λ j. 1 ≤ length j.stages) no_junction net.junctions (j - 1) (omega (arith, i)) ok.some_stage

  takes : (t : ℕ) → ((u : ℕ) → u < t → KeepsGuard net guard play u) → (j : ℕ) → has (junction_numbers net) j ≡ true →
      IsCandidate guard (junction_at net j) (play.counts t) t (account_of net guard play j t) (guarded_stage net guard (junction_at net j) (play.counts t) t (account_of net guard play j t))
  takes t keeps j in' =
      let greens = greens_kept net guard guards play t (λ u lt. (keeps u lt).candidates) j in' in
      let there = (candidate_there guard (greens_at guard j) (junction_at net j) play.counts (stage_of play j) t greens (has_stages j in')).some in
      taken_is net guard (junction_at net j) (play.counts t) t (account_of net guard play j t) (before_in guard (greens_at guard j) (junction_at net j) play.counts (stage_of play j) t greens) there.0 there.1

  stage_is : (t j : ℕ) → has (junction_numbers net) j ≡ true → stage_of play j t ≡ guarded_stage net guard (junction_at net j) (play.counts t) t (account_of net guard play j t)
  stage_is t j in' =
      numbered (λ j. guarded_stage net guard (junction_at net j) (queue (run_at t).state) (run_at t).state.period (account_in (run_at t) j)) (length net.junctions) j in'
      ∙ ap₂ (λ n account. guarded_stage net guard (junction_at net j) (queue (run_at t).state) n account) (period_is t) (account_is t j in')

  keeps_now : (t : ℕ) → ((u : ℕ) → u < t → KeepsGuard net guard play u) → KeepsGuard net guard play t
  keeps_now t keeps = record {
    candidates = each_in (λ j. IsCandidate guard (junction_at net j) (play.counts t) t (account_of net guard play j t) (stage_of play j t)) (junction_numbers net)
        (λ j in'. subst (λ s. IsCandidate guard (junction_at net j) (play.counts t) t (account_of net guard play j t) s) (sym (stage_is t j in')) (takes t keeps j in'));
    zeros = each_in (λ k. play.counts t k ≡ 0 → queue (guarded_state net guard play t) k ≡ 0) (movement_numbers net) (λ k in' none. ap (λ state. queue state k) (sym (state_is t)) ∙ none);
  }

  pub keeps_until : (t u : ℕ) → u < t → KeepsGuard net guard play u
  keeps_until zero u lt = absurd (omega arith)
  keeps_until (suc t) u lt = ⊎_elim
      (λ (earlier : u < t). keeps_until t u earlier)
      (λ (last : t ≤ u). let e : t ≡ u = omega arith in subst (KeepsGuard net guard play) e (keeps_now t (keeps_until t)))
      (cases_lt u t)

  candidates_at : (t : ℕ) → TakesCandidates net guard (run_at t)
  candidates_at t = each_in (λ j. IsCandidate guard (junction_at net j) (queue (run_at t).state) (run_at t).state.period (account_in (run_at t) j) (guarded_stage net guard (junction_at net j) (queue (run_at t).state) (run_at t).state.period (account_in (run_at t) j))) (junction_numbers net)
      (λ j in'. subst (λ n. IsCandidate guard (junction_at net j) (queue (run_at t).state) n (account_in (run_at t) j) (guarded_stage net guard (junction_at net j) (queue (run_at t).state) n (account_in (run_at t) j))) (sym (period_is t))
      (subst (λ account. IsCandidate guard (junction_at net j) (queue (run_at t).state) t account (guarded_stage net guard (junction_at net j) (queue (run_at t).state) t account)) (sym (account_is t j in')) (takes t (keeps_until t) j in')))

  bounded_at : (surplus : ℕ → ℕ) (bursts : List ℕ) → CarryBursts net guard surplus bursts → (T : ℕ) → IsPermitted net (map arrivals (range_with_len 0 T)) → (t : ℕ) → t ≤ T → IsBounded net guard surplus bursts (run_at t)
  bounded_at surplus bursts carry T permitted t in_time = subst (λ state. AllByRecursion (λ k. (bound : ℕ) → Holds net guard (surplus k) bursts k (1 + 2 * red net guard k) bound → queue state k ≤ bound) (movement_numbers net)) (sym (state_is t))
      (queues_guarded net ok guard guards surplus bursts carry play T (record { permitted = permitted; keeps = keeps_until T }) t in_time)

  -- ---- the states of a list of periods are those
  all_states : (P : GuardedState → Type 0) (A : List (List ℕ)) (s : ℕ) → ((i : ℕ) → i < length A → arrivals (s + i) ≡ get_or A i []) → ((t : ℕ) → t ≤ s + length A → P (run_at t)) → AllByRecursion P (guarded_run_from net guard (run_at s) A)
  unfolding run_at
  all_states P [] s same each = (each s (omega arith), tt)
  all_states P (a ∷ A) s same each =
      let place : s + 0 ≡ s = omega arith in
      let here : arrivals s ≡ a = ap arrivals (sym place) ∙ same 0 (omega arith) in (
        each s (omega arith),
        subst (λ x. AllByRecursion P (guarded_run_from net guard (guarded_advance net guard x (run_at s)) A)) here
            (all_states P A (suc s) (λ i lt. (let next : suc s + i ≡ s + suc i = omega arith in ap arrivals next) ∙ same (suc i) (omega arith)) (λ t le. each t (omega arith))),
      )

pub run_takes : (net : Network) → IsNetwork net → (guard : Guard) → Guards net guard → (A : List (List ℕ)) → AllByRecursion (TakesCandidates net guard) (guarded_run net guard A)
unfolding run_at
run_takes net ok guard guards A = all_states net ok guard guards (λ t. get_or A t []) (TakesCandidates net guard) A 0 (from_none A) (λ t le. candidates_at net ok guard guards (λ t. get_or A t []) t)

pub run_bounded : (net : Network) → IsNetwork net → (guard : Guard) → Guards net guard → (surplus : ℕ → ℕ) (bursts : List ℕ) → CarryBursts net guard surplus bursts → (A : List (List ℕ)) → IsPermitted net A →
    AllByRecursion (IsBounded net guard surplus bursts) (guarded_run net guard A)
unfolding run_at
run_bounded net ok guard guards surplus bursts carry A permitted =
    let f : ℕ → List ℕ = λ t. get_or A t [] in
    all_states net ok guard guards f (IsBounded net guard surplus bursts) A 0 (from_none A)
    (λ t le. bounded_at net ok guard guards f surplus bursts carry (length A) (subst (IsPermitted net) (sym (listed A f 0 (from_none A))) permitted) t (omega arith))
