-- The stage that a junction takes under a guard is the greatest candidate, or the stage of the period before.
use Rattle.std.proofs.Common.{◌≡◌, ◌==◌, ◌⊎◌, ℕ, zero, suc, ◌+◌, ◌*◌, ◌%◌, ◌≤◌, ◌<◌, Bool, true, false, cond, ◌&&◌, nat_le, nat_lt, List, [], ◌∷◌, length, filter, Option, Some, None, ℤ, pos, ◌≤ℤ◌, int_lt, arith, refl, sym, ◌∙◌, ap, inl, inr, ⊎_elim}
use Rattle.std.specs.List.{AllByRecursion, best_of, list_any, range_with_len}
use Rattle.std.proofs.lemmas.Int.{ints}
use Rattle.std.proofs.lemmas.Bool.{le-leb, leb-true, lt-ltb, ltb-true, false≢true, or_left, or_right, or_cases}
use Rattle.mp_guarded.specs.Runs.{TakesCandidates}
use Rattle.mp_guarded.proofs.Runs.{run_takes}
use Rattle.mp_laws.proofs.FirstGreatest.{beats, best_start, first_in, first_most}
use Rattle.mp_laws.proofs.Greatest.{Leads}
use Rattle.mp_laws.proofs.Lists.{AllOf-map, at_in, eqb-flip, filter_has, filter_sub, has_filter, in_numbers}
use Rattle.mp_model.specs.Guard.{Guard, Guards}
use Rattle.mp_model.specs.GuardedChoice.{account_in, candidates_in, guarded_run, guarded_stage, is_candidate, kept_or}
use Rattle.mp_model.specs.GuardedRun.{Account, IsCandidate, needed_in, paid}
use Rattle.mp_model.specs.Network.{Network, Junction, has, junction_at, junction_numbers, stage_at, stage_numbers}
use Rattle.mp_model.specs.NetworkRules.{IsNetwork}
use Rattle.mp_model.specs.Pressure.{pressure}
use Rattle.mp_model.specs.Split.{first_greatest}
use Rattle.mp_model.specs.Step.{queue}
use Rattle.mp_served.proofs.Places.{range_has}
use Rattle.mp_cli.specs.GuardedStages.{IsGreatestCandidate, Stays, TakesGreatest, TakeGreatest, StagesAreGreatest}

-- ---- of some numbers in ascending order each one before the answer has a smaller key
below_next : (b : Bool) (c a : ℕ) → a < c → cond b c a < c + 1
below_next true c a h = omega arith
below_next false c a h = omega arith

lead_step : (key : ℕ → ℤ) (a c : ℕ) (xs : List ℕ) → a < c → (b : Bool) → int_lt (key a) (key c) ≡ b → Leads key (best_of (beats key) (cond b c a) xs) (cond b c a)
    → Leads key (best_of (beats key) (cond b c a) xs) a × Leads key (best_of (beats key) (cond b c a) xs) c
lead_step key a c xs h true e lead = let m = best_start key c xs in (λ lt. omega (arith, ints), lead)
lead_step key a c xs h false e lead = (lead, λ lt. let s = lead (omega arith) in omega (arith, ints))

-- the first greatest of a number and some behind it leads them
abbrev LeadsThese : (ℕ → ℤ) → ℕ → List ℕ → Type 0
LeadsThese key a xs = Leads key (best_of (beats key) a xs) a × AllByRecursion (Leads key (best_of (beats key) a xs)) xs

leads_behind : (key : ℕ → ℤ) (p : ℕ → Bool) (a n c : ℕ) → a < c → LeadsThese key a (filter p (range_with_len c n))
leads_behind key p a zero c h = (λ lt. absurd (omega arith), tt)
leads_behind key p a (suc n) c h = go (p c) (leads_behind key p (cond (int_lt (key a) (key c)) c a) n (c + 1) (below_next (int_lt (key a) (key c)) c a h)) (leads_behind key p a n (c + 1) (omega arith))
  where
    go : (b : Bool) → LeadsThese key (cond (int_lt (key a) (key c)) c a) (filter p (range_with_len (c + 1) n)) → LeadsThese key a (filter p (range_with_len (c + 1) n)) → LeadsThese key a (cond b (c ∷ filter p (range_with_len (c + 1) n)) (filter p (range_with_len (c + 1) n)))
    go true with' without =
        let both = lead_step key a c (filter p (range_with_len (c + 1) n)) h (int_lt (key a) (key c)) refl with'.0 in
        (both.0, (both.1, with'.1))
    go false with' without = without

leads_those : (key : ℕ → ℤ) (p : ℕ → Bool) (n c : ℕ) → AllByRecursion (Leads key (first_greatest key (filter p (range_with_len c n)))) (filter p (range_with_len c n))
leads_those key p zero c = tt
leads_those key p (suc n) c = go (p c) (leads_behind key p c n (c + 1) (omega arith)) (leads_those key p n (c + 1))
  where
    go : (b : Bool) → LeadsThese key c (filter p (range_with_len (c + 1) n)) → AllByRecursion (Leads key (first_greatest key (filter p (range_with_len (c + 1) n)))) (filter p (range_with_len (c + 1) n))
        → AllByRecursion (Leads key (first_greatest key (cond b (c ∷ filter p (range_with_len (c + 1) n)) (filter p (range_with_len (c + 1) n))))) (cond b (c ∷ filter p (range_with_len (c + 1) n)) (filter p (range_with_len (c + 1) n)))
    go true first more = first
    go false first more = more

-- ---- what is there
there_some : (xs : List ℕ) (k : ℕ) → has xs k ≡ true → 1 ≤ length xs
there_some [] k h = absurd (false≢true h)
there_some (x ∷ xs) k h = omega arith

there_turned : (k : ℕ) (xs : List ℕ) → list_any (λ x. k == x) xs ≡ true → has xs k ≡ true
there_turned k [] h = h
there_turned k (x ∷ xs) h = ⊎_elim
    (λ e. or_left (x == k) (has xs k) (eqb-flip k x true e))
    (λ e. or_right (x == k) (has xs k) (there_turned k xs e))
    (or_cases (k == x) (list_any (λ x. k == x) xs) h)

all_true : (a b c : Bool) → (a && b && c) ≡ true → (a ≡ true) × (b ≡ true) × (c ≡ true)
all_true true true c e = (refl, refl, e)
all_true true false c e = absurd (false≢true e)
all_true false b c e = absurd (false≢true e)

true_all : (a b c : Bool) → a ≡ true → b ≡ true → c ≡ true → (a && b && c) ≡ true
true_all true true c e f g = g
true_all true false c e f g = absurd (false≢true f)
true_all false b c e f g = absurd (false≢true e)

module _ (net : Network) (guard : Guard) (j : Junction) (q : ℕ → ℕ) (t : ℕ) (account : Account) where
  abbrev those : List ℕ
  those = candidates_in guard j q t account

  abbrev key : ℕ → ℤ
  key s = pos (pressure net q (stage_at j s))

  abbrev best : ℕ
  best = first_greatest key those

  passes : (s : ℕ) → IsCandidate guard j q t account s → is_candidate guard j q t account s ≡ true
  passes s c = le-leb (needed_in guard.lost (paid guard.lost j q account s) s + 1 + t % guard.cycle) guard.cycle c.fits

  is_there : (s : ℕ) → IsCandidate guard j q t account s → has those s ≡ true
  is_there s c = has_filter (is_candidate guard j q t account) s (stage_numbers j) (range_has 1 (length j.stages) s c.is_stage.0 (omega (arith, c.is_stage.1))) (passes s c)

  from_there : (s : ℕ) → has those s ≡ true → IsCandidate guard j q t account s
  from_there s h =
      let at = in_numbers (length j.stages) s (filter_sub (is_candidate guard j q t account) (stage_numbers j) s h) in
      record { is_stage = (at.0, omega (arith, at.1)); fits = leb-true (needed_in guard.lost (paid guard.lost j q account s) s + 1 + t % guard.cycle) guard.cycle (filter_has (is_candidate guard j q t account) (stage_numbers j) s h) }

  -- where there is a candidate, the first greatest is the greatest
  is_greatest : (s : ℕ) → IsCandidate guard j q t account s → IsGreatestCandidate net guard j q t account best
  is_greatest s c = record {
    candidate = from_there best (there_turned best those (first_in key those (there_some those s (is_there s c))));
    most = λ r cr. let h = at_in (λ k. key k ≤ℤ key best) r those (is_there r cr) (first_most key those) in omega (arith, ints);
    first = λ r cr lt. let h = at_in (Leads key best) r those (is_there r cr) (leads_those key (is_candidate guard j q t account) (length j.stages) 1) lt in omega (arith, ints);
  }

  -- the test whether the stage of the period before stays
  abbrev stay : ℕ → Bool
  stay r = nat_lt 0 guard.lost && is_candidate guard j q t account r && nat_le (pressure net q (stage_at j best)) (2 * pressure net q (stage_at j r))

  stays_passes : (r : ℕ) → Stays net guard j q t account best r → stay r ≡ true
  stays_passes r stays = true_all (nat_lt 0 guard.lost) (is_candidate guard j q t account r) (nat_le (pressure net q (stage_at j best)) (2 * pressure net q (stage_at j r))) (lt-ltb 0 guard.lost stays.loses) (passes r stays.candidate) (le-leb (pressure net q (stage_at j best)) (2 * pressure net q (stage_at j r)) stays.half)

  abbrev Taken : ℕ → Type 0
  Taken s = Stays net guard j q t account best s ⊎ ((s ≡ best) × ((r : ℕ) → ¬ Stays net guard j q t account best r))

  kept_taken : (before : Option ℕ) → account.before ≡ before → IsCandidate guard j q t account (kept_or net guard j q t account before best) → Taken (kept_or net guard j q t account before best)
  kept_taken None e c = inr (refl, λ r stays. let no = sym e ∙ stays.before in cc)
  kept_taken (Some r) e c = go (stay r) refl c
    where
      go : (b : Bool) → stay r ≡ b → IsCandidate guard j q t account (cond b r best) → Taken (cond b r best)
      go true is c =
          let parts = all_true (nat_lt 0 guard.lost) (is_candidate guard j q t account r) (nat_le (pressure net q (stage_at j best)) (2 * pressure net q (stage_at j r))) is in
          inl (record { loses = ltb-true 0 guard.lost parts.0; before = e; candidate = c; half = leb-true (pressure net q (stage_at j best)) (2 * pressure net q (stage_at j r)) parts.2 })
      go false is c = inr (
        refl,
        λ x stays.
            let same : r ≡ x = (let both = sym e ∙ stays.before in cc) in
            absurd (false≢true (sym is ∙ ap stay same ∙ stays_passes x stays)),
      )

  takes_greatest : IsCandidate guard j q t account (guarded_stage net guard j q t account) → TakesGreatest net guard j q t account (guarded_stage net guard j q t account)
  takes_greatest c = record { best = best; greatest = is_greatest (guarded_stage net guard j q t account) c; taken = kept_taken account.before refl c }

pub stages_greatest : (net : Network) → IsNetwork net → (guard : Guard) → Guards net guard → StagesAreGreatest net guard
stages_greatest net ok guard guards A =
    AllOf-map (TakesCandidates net guard) (TakeGreatest net guard)
    (λ now takes. AllOf-map (λ j. IsCandidate guard (junction_at net j) (queue now.state) now.state.period (account_in now j) (guarded_stage net guard (junction_at net j) (queue now.state) now.state.period (account_in now j))) (λ j. TakesGreatest net guard (junction_at net j) (queue now.state) now.state.period (account_in now j) (guarded_stage net guard (junction_at net j) (queue now.state) now.state.period (account_in now j)))
    (λ j c. takes_greatest net guard (junction_at net j) (queue now.state) now.state.period (account_in now j) c) (junction_numbers net) takes)
    (guarded_run net guard A) (run_takes net ok guard guards A)
