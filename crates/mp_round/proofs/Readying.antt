-- What a junction lacks, and what the period lacks, step by step.
use Rattle.std.proofs.Common.{◌≡◌, ◌≢◌, ◌≤◌, ◌<◌, ℕ, suc, ◌+◌, ◌-◌, Bool, true, false, cond, List, [], ◌∷◌, ◌++◌, length, get_or, set, take, drop, filter, map, Option, Some, None, is_none, arith, refl, sym, ◌∙◌, ap, ap₂, subst, add-one, add-zero, ⊎_elim}
use Rattle.std.specs.List.{flat_map, find}
use Rattle.std.proofs.lemmas.Bool.{cases_eq, cases_lt}
use Rattle.std.proofs.lemmas.Grind.{drop_more_same}
use Rattle.std.proofs.lemmas.List.{append-nil, append_assoc, drop-set-lt, get_or-drop, get_or-set_other, get_or-set_same, map-append, take_all}
use Rattle.std.proofs.lemmas.List.Elements.{filter_more}
use Rattle.mp_laws.proofs.Copies.{is_accepted}
use Rattle.mp_laws.proofs.LineEvents.{after_append}
use Rattle.mp_model.specs.EventCore.{Answer, Copy, Core, Event, accepted, all_lacking, apply, arrivals_events, copy_beside, core_after, first_undecided, is_stale, lacking, seen}
use Rattle.mp_model.specs.EventCore.Event.{close, decide, hear}
use Rattle.mp_model.specs.Network.{Network, entry, junction_at, numbers_to, targets}
use Rattle.mp_model.specs.Pressure.{greatest_stage_by}
use Rattle.mp_press.proofs.Sums.{range_more}
use Rattle.mp_press.specs.Written.{IsAmong}
use Rattle.mp_round.proofs.Deciding.{chooses, none_undecided}
use Rattle.mp_round.proofs.Finding.{place_at}
use Rattle.mp_round.proofs.Hearing.{hears, report_now, stale_at}
use Rattle.mp_round.proofs.Placing.{on_report, rows_count, row_places, targets_differ}
use Rattle.mp_step.specs.Standing.{Standing}
use Rattle.mp_round.specs.Events.{CanClose}
use Rattle.mp_round.specs.RoundView.{IsRoundOn, RoundView, core_of, with_report, with_stage}

head-drop : {X : Type 0} (i : ℕ) (xs : List X) (d : X) → get_or (drop i xs) 0 d ≡ get_or xs i d
head-drop i xs d = get_or-drop i xs 0 d ∙ ap (λ n. get_or xs n d) (add-zero i)

-- the place of a junction has no copy that a decision accepts
abbrev pub lacks_at : Network → ℕ → List (List (Option Copy)) → ℕ → ℕ → Bool
lacks_at net period copies j i = is_none (accepted net.delay period (get_or (get_or copies (j - 1) []) i None))

-- the hearings that junction j lacks of the links before place i
abbrev pub hearings : Network → RoundView → ℕ → ℕ → List Event
hearings net first j i = map (hear j) (filter (is_stale net (core_of first) j) (take i (targets net (junction_at net j))))

-- a junction has heard what it lacked of the links before place i
pub record Heard (net : Network) (first : RoundView) (j i : ℕ) (round : RoundView) : Type 0 where
  pub core : core_of round ≡ core_after net (core_of first) (hearings net first j i)
  pub on : IsRoundOn net round
  pub standing : round.standing ≡ first.standing
  pub decided : round.decided ≡ first.decided
  pub rest : drop i (get_or round.copies (j - 1) []) ≡ drop i (get_or first.copies (j - 1) [])
  pub others : drop j round.copies ≡ drop j first.copies
  pub fresh : (m : ℕ) → m < i → lacks_at net first.standing.period round.copies j m ≡ false

pub hears_none : (net : Network) (round : RoundView) (j : ℕ) → IsRoundOn net round → Heard net round j 0 round
hears_none net round j on = record { core = refl; on = on; standing = refl; decided = refl; rest = refl; others = refl; fresh = λ m h. absurd (omega arith) }

module _ (net : Network) (first : RoundView) (j : ℕ) (known : IsAmong (length net.junctions) j) where
  abbrev ts : List ℕ
  ts = targets net (junction_at net j)

  -- the hearings before the next place
  hearings_more : (i : ℕ) → i < length ts → hearings net first j (i + 1) ≡ hearings net first j i ++ map (hear j) (cond (is_stale net (core_of first) j (get_or ts i 0)) (get_or ts i 0 ∷ []) [])
  hearings_more i lt = ap (map (hear j)) (filter_more (is_stale net (core_of first) j) ts i 0 lt) ∙ map-append (hear j) (filter (is_stale net (core_of first) j) (take i ts)) (cond (is_stale net (core_of first) j (get_or ts i 0)) (get_or ts i 0 ∷ []) [])

  -- the next place is as it was first
  first_stale_at : (round : RoundView) (i : ℕ) → i < length ts → Heard net first j i round → is_stale net (core_of first) j (get_or ts i 0) ≡ lacks_at net first.standing.period round.copies j i
  first_stale_at round i lt h =
      let row = get_or round.copies (j - 1) [] in
      let row' = get_or first.copies (j - 1) [] in
      let same : get_or row' i None ≡ get_or row i None = sym (head-drop i row' None) ∙ ap (λ xs. get_or xs 0 None) (sym h.rest) ∙ head-drop i row None in
      stale_at net first j (get_or ts i 0) i (place_at ts i (targets_differ net (junction_at net j)) lt) ∙ ap (λ (o : Option Copy). is_none (accepted net.delay first.standing.period o)) same

  below_or_at : (round : RoundView) (i : ℕ) → Heard net first j i round → (P : ℕ → Type 0) → ((m : ℕ) → m < i → P m) → P i → (m : ℕ) → m < i + 1 → P m
  below_or_at round i h P below here m lt = ⊎_elim (λ (l : m < i). below m l) (λ (g : i ≤ m). let e : i ≡ m = omega arith in subst P e here) (cases_lt m i)

  pub skips : (round : RoundView) (i : ℕ) → i < length ts → Heard net first j i round → lacks_at net first.standing.period round.copies j i ≡ false → Heard net first j (i + 1) round
  skips round i lt h e = record {
    core =
        h.core
        ∙ ap (core_after net (core_of first)) (sym (hearings_more i lt ∙ ap (λ b. hearings net first j i ++ map (hear j) (cond b (get_or ts i 0 ∷ []) [])) (first_stale_at round i lt h ∙ e) ∙ append-nil (hearings net first j i)));
    on = h.on;
    standing = h.standing;
    decided = h.decided;
    rest = drop_more_same (get_or round.copies (j - 1) []) (get_or first.copies (j - 1) []) i h.rest;
    others = h.others;
    fresh = below_or_at round i h (λ m. lacks_at net first.standing.period round.copies j m ≡ false) h.fresh e;
  }

  pub hears_more : (round : RoundView) (i : ℕ) → i < length ts → Heard net first j i round → lacks_at net first.standing.period round.copies j i ≡ true → Heard net first j (i + 1) (with_report round j i (report_now net round (get_or ts i 0)))
  hears_more round i lt h e =
      let l = get_or ts i 0 in
      let new = report_now net round l in
      let row = get_or round.copies (j - 1) [] in
      let row' = set row i (Some new) in
      let size = row_places net round.copies j h.on.places known in
      let there : get_or (set round.copies (j - 1) row') (j - 1) [] ≡ row' = get_or-set_same round.copies (j - 1) row' [] (omega (arith, known, rows_count net round.copies h.on.places)) in
      let step : core_of (with_report round j i new) ≡ (apply net (core_of round) (hear j l)).1 = ap (λ (p : Answer × Core). p.1) (hears net round j l i (place_at ts i (targets_differ net (junction_at net j)) lt)) in
      let young : accepted net.delay first.standing.period (Some new) ≡ Some new = is_accepted net.delay first.standing.period new (let p = ap (λ (s : Standing). s.period) h.standing in omega arith) in
      record {
        core =
            step
            ∙ ap (λ core. (apply net core (hear j l)).1) h.core
            ∙ sym (after_append net (hearings net first j i) (hear j l ∷ []) (core_of first))
            ∙ ap (core_after net (core_of first)) (sym (hearings_more i lt ∙ ap (λ b. hearings net first j i ++ map (hear j) (cond b (l ∷ []) [])) (first_stale_at round i lt h ∙ e)));
        on = on_report net round j i new h.on;
        standing = h.standing;
        decided = h.decided;
        rest = ap (drop (i + 1)) there ∙ drop-set-lt (i + 1) row i (Some new) (omega arith) ∙ drop_more_same row (get_or first.copies (j - 1) []) i h.rest;
        others = drop-set-lt j round.copies (j - 1) row' (omega (arith, known)) ∙ h.others;
        fresh = λ m lt'.
            ap (λ r. is_none (accepted net.delay first.standing.period (get_or r m None))) there
            ∙ ⊎_elim
            (λ (same : m ≡ i). ap (λ n. is_none (accepted net.delay first.standing.period (get_or row' n None))) same ∙ ap (λ (o : Option Copy). is_none (accepted net.delay first.standing.period o)) (get_or-set_same row i (Some new) None (omega arith)) ∙ ap (λ (o : Option Copy). is_none o) young)
            (λ (other : m ≢ i). ap (λ (o : Option Copy). is_none (accepted net.delay first.standing.period o)) (get_or-set_other row i m (Some new) None other) ∙ h.fresh m (apart m i lt' other))
            (cases_eq m i);
      }
    where
      apart : (m i : ℕ) → m < i + 1 → m ≢ i → m < i
      apart m i lt other = ⊎_elim (λ (l : m < i). l) (λ (g : i ≤ m). let e : m ≡ i = omega arith in absurd (other e)) (cases_lt m i)

  none_found : (p : ℕ → Bool) (xs : List ℕ) → ((m : ℕ) → m < length xs → p (get_or xs m 0) ≡ false) → find p xs ≡ None
  none_found p [] h = refl
  none_found p (x ∷ xs) h = ap (λ b. cond b (Some x) (find p xs)) (h 0 (omega arith)) ∙ none_found p xs (λ m lt. h (suc m) (omega arith))

  -- a junction that has heard all decides
  pub readies : (round : RoundView) (s : ℕ) → Heard net first j (length ts) round → get_or first.decided (j - 1) None ≡ None → s ≡ greatest_stage_by net (entry round.standing.queues) (seen net (core_of round) j) (junction_at net j) →
      core_of (with_stage round j s) ≡ core_after net (core_of first) (lacking net (core_of first) j)
  readies round s h none is =
      let fresh : find (is_stale net (core_of round) j) ts ≡ None = none_found (is_stale net (core_of round) j) ts (λ m lt.
      stale_at net round j (get_or ts m 0) m (place_at ts m (targets_differ net (junction_at net j)) lt)
      ∙ ap (λ (s : Standing). lacks_at net s.period round.copies j m) h.standing
      ∙ h.fresh m lt) in
      let undecided : get_or round.decided (j - 1) None ≡ None = ap (λ ds. get_or ds (j - 1) None) h.decided ∙ none in
      ap (λ (p : Answer × Core). p.1) (chooses net round j s undecided fresh is)
      ∙ ap (λ core. (apply net core (decide j)).1) h.core
      ∙ sym (after_append net (hearings net first j (length ts)) (decide j ∷ []) (core_of first))
      ∙ ap (λ xs. core_after net (core_of first) (map (hear j) (filter (is_stale net (core_of first) j) xs) ++ decide j ∷ [])) (take_all (length ts) ts (omega arith))
      ∙ ap (λ d. core_after net (core_of first) (cond (is_none d) (map (hear j) (filter (is_stale net (core_of first) j) ts) ++ decide j ∷ []) [])) (sym none)

-- the junctions before i have what they lacked
pub record Readied (net : Network) (first : RoundView) (i : ℕ) (round : RoundView) : Type 0 where
  pub core : core_of round ≡ core_after net (core_of first) (flat_map (lacking net (core_of first)) (numbers_to i))
  pub on : IsRoundOn net round
  pub standing : round.standing ≡ first.standing
  pub copies : drop i round.copies ≡ drop i first.copies
  pub later : drop i round.decided ≡ drop i first.decided
  pub done : (m : ℕ) → m < i → is_none (get_or round.decided m None) ≡ false

pub readied_none : (net : Network) (round : RoundView) → IsRoundOn net round → Readied net round 0 round
readied_none net round on = record { core = refl; on = on; standing = refl; copies = refl; later = refl; done = λ m h. absurd (omega arith) }

-- what a junction lacks rests on its row, its decision and the period
abbrev lacking_by : Network → ℕ → ℕ → List (Option Copy) → Option ℕ → List Event
lacking_by net j period row d = cond (is_none d) (map (hear j) (filter (λ l. is_none (accepted net.delay period (copy_beside (targets net (junction_at net j)) row l))) (targets net (junction_at net j))) ++ decide j ∷ []) []

lacking_same : (net : Network) (first round : RoundView) (i : ℕ) → round.standing ≡ first.standing → drop i round.copies ≡ drop i first.copies → drop i round.decided ≡ drop i first.decided → lacking net (core_of round) (i + 1) ≡ lacking net (core_of first) (i + 1)
lacking_same net first round i standing copies later =
    let back : (i + 1) - 1 ≡ i = omega arith in
    let row : get_or round.copies ((i + 1) - 1) [] ≡ get_or first.copies ((i + 1) - 1) [] =
    ap (λ n. get_or round.copies n []) back ∙ sym (head-drop i round.copies []) ∙ ap (λ xs. get_or xs 0 []) copies ∙ head-drop i first.copies [] ∙ sym (ap (λ n. get_or first.copies n []) back) in
    let decided : get_or round.decided ((i + 1) - 1) None ≡ get_or first.decided ((i + 1) - 1) None =
    ap (λ n. get_or round.decided n None) back ∙ sym (head-drop i round.decided None) ∙ ap (λ xs. get_or xs 0 None) later ∙ head-drop i first.decided None ∙ sym (ap (λ n. get_or first.decided n None) back) in
    let period : round.standing.period ≡ first.standing.period = ap (λ (s : Standing). s.period) standing in
    ap (λ (n : ℕ). lacking_by net (i + 1) n (get_or round.copies ((i + 1) - 1) []) (get_or round.decided ((i + 1) - 1) None)) period
    ∙ ap₂ (lacking_by net (i + 1) first.standing.period) row decided

flat_push : (f : ℕ → List Event) (xs : List ℕ) (y : ℕ) → flat_map f (xs ++ y ∷ []) ≡ flat_map f xs ++ f y
flat_push f [] y = append-nil (f y)
flat_push f (x ∷ xs) y = ap (λ ys. f x ++ ys) (flat_push f xs y) ∙ sym (append_assoc (f x) (flat_map f xs) (f y))

pub readies_more : (net : Network) (first round next : RoundView) (i : ℕ) → Readied net first i round → IsRoundOn net next → core_of next ≡ core_after net (core_of round) (lacking net (core_of round) (i + 1)) → next.standing ≡ round.standing →
    drop (i + 1) next.copies ≡ drop (i + 1) round.copies → drop (i + 1) next.decided ≡ drop (i + 1) round.decided → is_none (get_or next.decided i None) ≡ false → ((m : ℕ) → is_none (get_or round.decided m None) ≡ false → is_none (get_or next.decided m None) ≡ false) → Readied net first (i + 1) next
readies_more net first round next i h on core standing copies later now before = record {
  core =
      let es = flat_map (lacking net (core_of first)) (numbers_to i) in
      core
      ∙ ap (core_after net (core_of round)) (lacking_same net first round i h.standing h.copies h.later)
      ∙ ap (λ c. core_after net c (lacking net (core_of first) (i + 1))) h.core
      ∙ sym (after_append net es (lacking net (core_of first) (i + 1)) (core_of first))
      ∙ ap (core_after net (core_of first)) (sym (ap (λ n. flat_map (lacking net (core_of first)) (numbers_to n)) (add-one i) ∙ ap (flat_map (lacking net (core_of first))) (range_more 1 i (i + 1) (omega arith)) ∙ flat_push (lacking net (core_of first)) (numbers_to i) (i + 1)));
  on = on;
  standing = standing ∙ h.standing;
  copies = copies ∙ drop_more_same round.copies first.copies i h.copies;
  later = later ∙ drop_more_same round.decided first.decided i h.later;
  done = λ m lt. ⊎_elim (λ (l : m < i). before m (h.done m l)) (λ (g : i ≤ m). let e : i ≡ m = omega arith in subst (λ n. is_none (get_or next.decided n None) ≡ false) e now) (cases_lt m i);
}

-- then all have decided, and the period may close as before
pub all_decided : (net : Network) (first round : RoundView) → Readied net first (length net.junctions) round → length round.decided ≡ length net.junctions → first_undecided 1 round.decided ≡ None
all_decided net first round h size = none_undecided 1 round.decided (λ m lt. h.done m (omega arith))

pub may_close : (net : Network) (first round : RoundView) (counts : List ℕ) → round.standing ≡ first.standing → CanClose net (core_of first) counts → CanClose net (core_of round) counts
may_close net first round counts standing can = record { fits = can.fits; digits = can.digits; period = let p : round.standing.period ≡ first.standing.period = ap (λ (s : Standing). s.period) standing in omega (arith, can.period) }

-- all events of a line of arrivals
pub performs : (net : Network) (first round next : RoundView) (counts : List ℕ) (answer : Answer) → Readied net first (length net.junctions) round → (answer, core_of next) ≡ apply net (core_of round) (close counts) → core_of next ≡ core_after net (core_of first) (arrivals_events net (core_of first) counts)
performs net first round next counts answer h e =
    ap (λ (p : Answer × Core). p.1) e ∙ ap (λ core. (apply net core (close counts)).1) h.core ∙ sym (after_append net (all_lacking net (core_of first)) (close counts ∷ []) (core_of first))

pub answers : (net : Network) (first round next : RoundView) (counts : List ℕ) (answer : Answer) → Readied net first (length net.junctions) round → (answer, core_of next) ≡ apply net (core_of round) (close counts) →
    answer ≡ (apply net (core_after net (core_of first) (all_lacking net (core_of first))) (close counts)).0
answers net first round next counts answer h e = ap (λ (p : Answer × Core). p.0) e ∙ ap (λ core. (apply net core (close counts)).0) h.core

-- a junction that has decided lacks nothing
pub lacks_nothing : (net : Network) (round : RoundView) (j : ℕ) → is_none (get_or round.decided (j - 1) None) ≡ false → core_of round ≡ core_after net (core_of round) (lacking net (core_of round) j)
lacks_nothing net round j e = sym (ap (λ b. core_after net (core_of round) (cond b (map (hear j) (filter (is_stale net (core_of round) j) (targets net (junction_at net j))) ++ decide j ∷ []) [])) e)
