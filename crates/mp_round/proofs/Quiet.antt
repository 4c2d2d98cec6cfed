-- A line of arrivals where nothing was heard or decided, and the delay is 0.
use Rattle.std.proofs.Common.{◌≡◌, ◌==◌, ◌<◌, ℕ, zero, suc, ◌+◌, ◌-◌, ◌%◌, Bool, true, false, cond, List, [], ◌∷◌, ◌⊎◌, inl, inr, length, drop, get_or, map, zip, replicate, Option, Some, None, IfSome, unwrap_or, arith, refl, sym, ◌∙◌, ap, ap₂, subst}
use Rattle.std.specs.List.{AllByRecursion, find}
use Rattle.std.proofs.Math.Nat.{mod-eq_of_lt}
use Rattle.std.proofs.lemmas.Bool.{lt-leb}
use Rattle.std.proofs.lemmas.List.{length-map, length-replicate}
use Rattle.mp_laws.proofs.Copies.{HasRows, rows_first}
use Rattle.mp_laws.proofs.LineEvents.{after_append, performs as performs_line}
use Rattle.mp_laws.proofs.Lists.{AllOf-map, at_in, each_in}
use Rattle.mp_laws.proofs.Order.{Follows, IsRight, IsYoung, RightStages, closed_counts, follows}
use Rattle.mp_laws.proofs.Reported.{zero_stages}
use Rattle.mp_laws.specs.Lines.{PerformsLine}
use Rattle.mp_model.specs.EventCore.{Answer, Copy, Core, Event, accepted, all_lacking, apply, arrivals_events, close_at, closed_by, closed_core, closed_of, copy_beside, core_after, decide_at, decided_at, first_undecided, hear_at, is_above, is_stale, with_copy}
use Rattle.mp_model.specs.EventCore.Answer.{above_at, closed}
use Rattle.mp_model.specs.EventCore.Event.{close, decide, hear}
use Rattle.mp_model.specs.EventPeriods.{ages_after, no_ages, periods_from}
use Rattle.mp_model.specs.Network.{Junction, Network, entry, fed, has, junction_at, link_numbers, out_of, targets}
use Rattle.mp_model.specs.NetworkRules.{IsNetwork}
use Rattle.mp_model.specs.Reports.{History, IsTimelyAge, Period, history_after, reported_stage}
use Rattle.mp_model.specs.Run.{greatest_stages}
use Rattle.mp_model.specs.Step.{State}
use Rattle.mp_press.specs.Weighed.{Weighed}
use Rattle.mp_step.specs.BucketLevels.{first_above}
use Rattle.mp_step.specs.Standing.{closed as closed_standing}
use Rattle.mp_round.specs.RoundView.{IsRoundOn, RoundView, core_of}
use Rattle.mp_round.specs.Showing.{IsIdle}
use Rattle.mp_round.proofs.Closing.{shows_closed}
use Rattle.mp_round.proofs.Placing.{decided_count, map_set, places_opening, shown_by}

-- no copy at any place of the junctions
abbrev pub no_copies : Network → List (List (Option Copy))
no_copies net = map (λ j. map (λ l. None) (targets net j)) net.junctions

-- events that close nothing change what was heard and decided alone
abbrev pub with_heard : Core → Core → Core
with_heard core next = record core { copies = next.copies; decided = next.decided }

-- and the number of places of each junction stays
pub record KeepsMost (core next : Core) : Type 0 where
  pub same : next ≡ with_heard core next
  pub places : map (λ row. length row) next.copies ≡ map (λ row. length row) core.copies

with_size : (ts : List ℕ) (row : List (Option Copy)) (l : ℕ) (new : Copy) → length (with_copy ts row l new) ≡ length row
with_size [] row l new = refl
with_size (t ∷ ts) [] l new = refl
with_size (t ∷ ts) (copy ∷ row) l new = ap suc (with_size ts row l new)

keeps_one : (net : Network) (core : Core) (e : Event) (rest : List (List ℕ)) → closed_by (apply net core e).0 e rest ≡ [] → KeepsMost core (apply net core e).1 × (rest ≡ [])
keeps_one net core (hear j l) rest none = go (has (targets net (junction_at net j)) l) none
  where
    go : (b : Bool) → closed_by (hear_at net core j l b).0 (hear j l) rest ≡ [] → KeepsMost core (hear_at net core j l b).1 × (rest ≡ [])
    go true none = (
      record {
        same = refl;
        places =
            let row = get_or core.copies (j - 1) [] in
            let copy : Copy = record { period = core.period; counts = map (entry core.queues) (out_of net l) } in
            map_set (λ row. length row) core.copies (j - 1) (with_copy (targets net (junction_at net j)) row l copy) [] (with_size (targets net (junction_at net j)) row l copy);
      },
      none,
    )
    go false none = (record { same = refl; places = refl }, none)
keeps_one net core (decide j) rest none = go (decided_at core j) (find (is_stale net core j) (targets net (junction_at net j))) none
  where
    go : (d missing : Option ℕ) → closed_by (decide_at net core j d missing).0 (decide j) rest ≡ [] → KeepsMost core (decide_at net core j d missing).1 × (rest ≡ [])
    go (Some s) missing none = (record { same = refl; places = refl }, none)
    go None (Some l) none = (record { same = refl; places = refl }, none)
    go None None none = (record { same = refl; places = refl }, none)
keeps_one net core (close counts) rest none = go (first_undecided 1 core.decided) (find (is_above net core counts) (fed net)) none
  where
    go : (u above : Option ℕ) → closed_by (close_at net core counts u above).0 (close counts) rest ≡ [] → KeepsMost core (close_at net core counts u above).1 × (rest ≡ [])
    go (Some j) above none = (record { same = refl; places = refl }, none)
    go None (Some l) none = (record { same = refl; places = refl }, none)
    go None None none = cc

pub keeps : (net : Network) (core : Core) (es : List Event) → closed_of net core es ≡ [] → KeepsMost core (core_after net core es)
keeps net core [] none = record { same = refl; places = refl }
keeps net core (e ∷ es) none =
    let one = keeps_one net core e (closed_of net (apply net core e).1 es) none in
    let more = keeps net (apply net core e).1 es one.1 in
    record { same = more.same ∙ ap (λ c. with_heard c (core_after net (apply net core e).1 es)) one.0.same; places = more.places ∙ one.0.places }

-- where no junction has a copy
no_row : (P : Copy → Type 0) (ts : List ℕ) → AllByRecursion (λ copy. IfSome copy P) (map (λ (l : ℕ). let none : Option Copy = None in none) ts)
no_row P [] = tt
no_row P (t ∷ ts) = (tt, no_row P ts)

no_rows : (net : Network) (P : Copy → Type 0) (js : List Junction) → AllByRecursion (AllByRecursion (λ copy. IfSome copy P)) (map (λ j. map (λ l. None) (targets net j)) js)
no_rows net P [] = tt
no_rows net P (j ∷ js) = (no_row P (targets net j), no_rows net P js)

none_in : (P : Copy → Type 0) (ts : List ℕ) (row : List (Option Copy)) (l : ℕ) → AllByRecursion (λ copy. IfSome copy P) row → IfSome (copy_beside ts row l) P
none_in P [] row l h = tt
none_in P (t ∷ ts) [] l h = tt
none_in P (t ∷ ts) (copy ∷ row) l h = go (t == l) (none_in P ts row l h.1)
  where
    go : (b : Bool) → IfSome (copy_beside ts row l) P → IfSome (cond b copy (copy_beside ts row l)) P
    go true more = h.0
    go false more = more

row_at : (P : Copy → Type 0) (rows : List (List (Option Copy))) (i : ℕ) → AllByRecursion (AllByRecursion (λ copy. IfSome copy P)) rows → AllByRecursion (λ copy. IfSome copy P) (get_or rows i [])
row_at P [] i h = tt
row_at P (r ∷ rows) zero h = h.0
row_at P (r ∷ rows) (suc i) h = row_at P rows i h.1

none_right : (net : Network) (history : History) (js : List Junction) → RightStages net history js (map (λ j. None) js) (map (λ j. []) js)
none_right net history [] = tt
none_right net history (j ∷ js) = (tt, none_right net history js)

-- a core that is idle
pub record Idle (net : Network) (core : Core) : Type 0 where
  pub copies : core.copies ≡ no_copies net
  pub decided : core.decided ≡ map (λ j. None) net.junctions
  pub phase_in : AllByRecursion (λ l. entry core.phases l < net.shares) (link_numbers net)

-- a run up to now that has stood still
abbrev still : Core → State
still core = record { period = core.period; queues = core.queues; received = core.phases; total_in = core.total_in; total_out = core.total_out }

abbrev stood : Core → History
stood core = record { now = still core; earlier = replicate core.period (still core) }

idle_follows : (net : Network) (core : Core) → Idle net core → Follows net core (stood core) (no_ages net)
idle_follows net core h = record {
  agrees = record {
    queues = refl;
    phases = each_in _ (link_numbers net) (λ l i. small_phase (entry core.phases l) net.shares (at_in (λ l. entry core.phases l < net.shares) l (link_numbers net) i h.phase_in));
    period = refl;
    total_in = refl;
    total_out = refl;
  };
  old = sym (length-replicate core.period (still core));
  rows = subst (HasRows net net.junctions) (sym h.copies) (rows_first net net.junctions);
  young = subst (AllByRecursion (AllByRecursion (λ copy. IfSome copy (IsYoung net core.period)))) (sym h.copies) (no_rows net (IsYoung net core.period) net.junctions);
  copies = λ j l. none_in (IsRight net (stood core) core.period l) (targets net (junction_at net j)) (get_or core.copies (j - 1) []) l
      (row_at (IsRight net (stood core) core.period l) core.copies (j - 1) (subst (AllByRecursion (AllByRecursion (λ copy. IfSome copy (IsRight net (stood core) core.period l)))) (sym h.copies) (no_rows net (IsRight net (stood core) core.period l) net.junctions)));
  stages = subst (λ ds. RightStages net (stood core) net.junctions ds (no_ages net)) (sym h.decided) (none_right net (stood core) net.junctions);
}
  where
    small_phase : (n m : ℕ) → n < m → n ≡ n % m
    small_phase n m lt = sym (mod-eq_of_lt lt)

-- the stages by reports of now are the greatest
pub record PromptStages (net : Network) (history : History) (js : List Junction) (ds : List (Option ℕ)) (ages : List (List ℕ)) : Type 0 where
  pub stages : map (λ d. unwrap_or d 0) ds ≡ map (λ p. reported_stage net history p.0 p.1) (zip js ages)
  pub count : length ages ≡ length js
  pub zeros : AllByRecursion (AllByRecursion (λ (n : ℕ). n ≡ 0)) ages

pub prompt_stages : (net : Network) → net.delay ≡ 0 → (history : History) (n : ℕ) (js : List Junction) (ds : List (Option ℕ)) (ages : List (List ℕ)) → RightStages net history js ds ages → first_undecided n ds ≡ None → PromptStages net history js ds ages
prompt_stages net prompt history n [] [] [] h e = record { stages = refl; count = refl; zeros = tt }
prompt_stages net prompt history n [] [] (a ∷ ages) h e = absurd h
prompt_stages net prompt history n [] (d ∷ ds) ages h e = absurd h
prompt_stages net prompt history n (j ∷ js) [] ages h e = absurd h
prompt_stages net prompt history n (j ∷ js) (d ∷ ds) [] h e = absurd h
prompt_stages net prompt history n (j ∷ js) (None ∷ ds) (a ∷ ages) h e = cc
prompt_stages net prompt history n (j ∷ js) (Some s ∷ ds) (a ∷ ages) h e =
    let more = prompt_stages net prompt history (n + 1) js ds ages h.1 e in
    let lengths = more.count in
    record {
      stages = ap₂ ◌∷◌ h.0.stage more.stages;
      count = omega arith;
      zeros = (AllOf-map (IsTimelyAge net (length history.earlier)) (λ (n : ℕ). n ≡ 0) (λ n t. let young = t.0 in omega arith) a h.0.timely, more.zeros);
    }

-- a close drops the copies of now where the delay is 0
drops_young : (net : Network) → net.delay ≡ 0 → (period : ℕ) (o : Option Copy) → IfSome o (IsYoung net period) → accepted net.delay (period + 1) o ≡ None
drops_young net prompt period None h = refl
drops_young net prompt period (Some copy) h =
    let past = h.past in
    ap (λ b. cond b (Some copy) None) (lt-leb (period + 1) (copy.period + net.delay) (omega arith))

drops_row : (net : Network) → net.delay ≡ 0 → (period : ℕ) (ts : List ℕ) (row : List (Option Copy)) → length row ≡ length ts → AllByRecursion (λ copy. IfSome copy (IsYoung net period)) row → map (accepted net.delay (period + 1)) row ≡ map (λ l. None) ts
drops_row net prompt period [] [] e h = refl
drops_row net prompt period [] (o ∷ row) e h = absurd (omega arith)
drops_row net prompt period (t ∷ ts) [] e h = absurd (omega arith)
drops_row net prompt period (t ∷ ts) (o ∷ row) e h = ap₂ ◌∷◌ (drops_young net prompt period o h.0) (drops_row net prompt period ts row (omega arith) h.1)

drops_rows : (net : Network) → net.delay ≡ 0 → (period : ℕ) (js : List Junction) (rows : List (List (Option Copy))) → map (λ row. length row) rows ≡ map (λ j. length (targets net j)) js → AllByRecursion (AllByRecursion (λ copy. IfSome copy (IsYoung net period))) rows →
    map (map (accepted net.delay (period + 1))) rows ≡ map (λ j. map (λ l. None) (targets net j)) js
drops_rows net prompt period [] [] e h = refl
drops_rows net prompt period [] (row ∷ rows) e h = cc
drops_rows net prompt period (j ∷ js) [] e h = cc
drops_rows net prompt period (j ∷ js) (row ∷ rows) e h = ap₂ ◌∷◌ (drops_row net prompt period (targets net j) row (ap (λ ns. get_or ns 0 0) e) h.0) (drops_rows net prompt period js rows (ap (drop 1) e) h.1)

-- then all have decided
pub decided_then : (net : Network) (core : Core) (counts : List ℕ) (u above : Option ℕ) → ((close_at net core counts u above).0 ≡ closed) ⊎ ((l : ℕ) × ((close_at net core counts u above).0 ≡ above_at l)) → u ≡ None
decided_then net core counts None above h = refl
decided_then net core counts (Some j) above (inl e) = cc
decided_then net core counts (Some j) above (inr e) = let is = e.1 in cc

no_periods : (periods : List Period) → map (λ period. period.counts) periods ≡ [] → periods ≡ []
no_periods [] e = refl
no_periods (p ∷ periods) e = cc

-- An idle core that all junctions have made ready.
pub record IsReadied (net : Network) (core ready : Core) : Type 0 where
  pub same : ready ≡ with_heard core ready
  pub decided : first_undecided 1 ready.decided ≡ None
  pub stages : map (λ d. unwrap_or d 0) ready.decided ≡ greatest_stages net (entry core.queues)
  pub copies : map (map (accepted net.delay (core.period + 1))) ready.copies ≡ no_copies net

pub readied : (net : Network) → IsNetwork net → net.delay ≡ 0 → (core : Core) → Idle net core → IsReadied net core (core_after net core (all_lacking net core))
readied net ok prompt core idle =
    let es = all_lacking net core in
    let ready = core_after net core es in
    let rows : HasRows net net.junctions core.copies = subst (HasRows net net.junctions) (sym idle.copies) (rows_first net net.junctions) in
    let line : PerformsLine net core [] = performs_line net core [] (ap length idle.decided ∙ length-map net.junctions (λ j. None)) rows in
    let periods : periods_from net core (no_ages net) es ≡ [] = no_periods (periods_from net core (no_ages net) es) (closed_counts net es core (no_ages net) ∙ line.none) in
    let all = (follows net ok es core (stood core) (no_ages net) (idle_follows net core idle)).follows_to in
    let f : Follows net ready (stood core) (ages_after net core (no_ages net) es) = subst (λ ps. Follows net ready (history_after net (stood core) ps) (ages_after net core (no_ages net) es)) periods all in
    let done = decided_then net ready [] (first_undecided 1 ready.decided) (find (is_above net ready []) (fed net)) line.answer in
    let kept = keeps net core es line.none in
    let chosen = prompt_stages net prompt (stood core) 1 net.junctions ready.decided (ages_after net core (no_ages net) es) f.stages done in
    record {
      same = kept.same;
      decided = done;
      stages = chosen.stages ∙ zero_stages net (stood core) net.junctions (ages_after net core (no_ages net) es) chosen.count chosen.zeros;
      copies = ap (λ n. map (map (accepted net.delay (n + 1))) ready.copies) (sym line.period) ∙ drops_rows net prompt ready.period net.junctions ready.copies (kept.places ∙ places_opening net core.copies idle.copies) f.young;
    }

-- what a round keeps where nothing was heard or decided
unheard_places : (net : Network) (js : List Junction) (rows : List (List (Option Copy))) → map (λ row. length row) rows ≡ map (λ j. length (targets net j)) js → map (map (λ copy. let none : Option Copy = None in none)) rows ≡ map (λ j. map (λ l. None) (targets net j)) js
unheard_places net [] [] e = refl
unheard_places net [] (row ∷ rows) e = cc
unheard_places net (j ∷ js) [] e = cc
unheard_places net (j ∷ js) (row ∷ rows) e = ap₂ ◌∷◌ (nones row (targets net j) (ap (λ ns. get_or ns 0 0) e)) (unheard_places net js rows (ap (drop 1) e))
  where
    nones : (row : List (Option Copy)) (ts : List ℕ) → length row ≡ length ts → map (λ copy. let none : Option Copy = None in none) row ≡ map (λ l. None) ts
    nones [] [] e = refl
    nones [] (t ∷ ts) e = absurd (omega arith)
    nones (o ∷ row) [] e = absurd (omega arith)
    nones (o ∷ row) (t ∷ ts) e = ap (λ xs. None ∷ xs) (nones row ts (omega arith))

none_decided : (js : List Junction) (ds : List (Option ℕ)) → length ds ≡ length js → map (λ stage. let none : Option ℕ = None in none) ds ≡ map (λ j. None) js
none_decided [] [] e = refl
none_decided [] (d ∷ ds) e = absurd (omega arith)
none_decided (j ∷ js) [] e = absurd (omega arith)
none_decided (j ∷ js) (d ∷ ds) e = ap (λ xs. None ∷ xs) (none_decided js ds (omega arith))

pub idle_core : (net : Network) (round : RoundView) → IsRoundOn net round → IsIdle round.copies round.decided → Idle net (core_of round)
idle_core net round on idle = record {
  copies = idle.unheard ∙ unheard_places net net.junctions round.copies on.places;
  decided = idle.undecided ∙ none_decided net.junctions round.decided (decided_count net.junctions round.decided on.decided);
  phase_in = on.on.phase_in;
}

-- the close of an idle round, whose junctions decide by the counts of now
pub record ClosesAtOnce (net : Network) (round : RoundView) (counts : List ℕ) (next : RoundView) : Type 0 where
  pub core : core_of next ≡ core_after net (core_of round) (arrivals_events net (core_of round) counts)
  pub answer : closed ≡ (apply net (core_after net (core_of round) (all_lacking net (core_of round))) (close counts)).0

pub closes_at_once : (net : Network) → IsNetwork net → net.delay ≡ 0 → (round : RoundView) (weighed : Weighed) (stages counts : List ℕ) → IsRoundOn net round → IsIdle round.copies round.decided → first_above net (entry round.standing.levels) counts ≡ None →
    stages ≡ greatest_stages net (entry round.standing.queues) → ClosesAtOnce net round counts (shown_by (closed_standing net round.standing stages counts) weighed round.copies round.decided stages)
closes_at_once net ok prompt round weighed stages counts on idle within chosen =
    let core = core_of round in
    let es = all_lacking net core in
    let ready = core_after net core es in
    let quiet = idle_core net round on idle in
    let r = readied net ok prompt core quiet in
    let chosen_by : List ℕ = map (λ d. unwrap_or d 0) ready.decided in
    let same_stages : stages ≡ chosen_by = chosen ∙ sym r.stages in
    let below : find (is_above net ready counts) (fed net) ≡ None = ap (λ c. find (is_above net c counts) (fed net)) r.same ∙ within in
    let shut : apply net ready (close counts) ≡ (closed, closed_core net ready chosen_by counts) = ap₂ (close_at net ready counts) r.decided below in
    let dropped : List (List (Option Copy)) = map (map (accepted net.delay (core.period + 1))) ready.copies in
    let kept : round.copies ≡ dropped = quiet.copies ∙ sym r.copies in
    record {
      core = ap {A = Core} {B = Core} (λ c. record c { copies = round.copies; decided = round.decided }) (shows_closed net round weighed stages counts)
          ∙ ap (λ ss. record (closed_core net core ss counts) { copies = round.copies; decided = round.decided }) same_stages
          ∙ ap₂ (λ cs ds. record (closed_core net core chosen_by counts) { copies = cs; decided = ds }) kept quiet.decided
          ∙ sym (ap (λ c. closed_core net c chosen_by counts) r.same)
          ∙ sym (ap (λ (p : Answer × Core). p.1) shut)
          ∙ sym (after_append net es (close counts ∷ []) core);
      answer = sym (ap (λ (p : Answer × Core). p.0) shut);
    }

-- cleared decisions
pub none_replicated : (decided : List (Option ℕ)) (n : ℕ) → decided ≡ replicate n None → decided ≡ map (λ stage. None) decided
none_replicated decided n d = d ∙ go n ∙ sym (ap (map (λ stage. None)) d)
  where
    go : (n : ℕ) → replicate n (let none : Option ℕ = None in none) ≡ map (λ stage. None) (replicate n (let none : Option ℕ = None in none))
    go zero = refl
    go (suc n) = ap (λ xs. None ∷ xs) (go n)

-- the opening is idle
pub idle_opening : (net : Network) (copies : List (List (Option Copy))) (decided : List (Option ℕ)) (n : ℕ) → copies ≡ map (λ j. map (λ l. None) (targets net j)) net.junctions → decided ≡ replicate n None → IsIdle copies decided
idle_opening net copies decided n c d = record { unheard = c ∙ go net.junctions ∙ sym (ap (map (map (λ copy. None))) c); undecided = none_replicated decided n d }
  where
    row : (ts : List ℕ) → map (λ l. let none : Option Copy = None in none) ts ≡ map (λ copy. None) (map (λ l. let none : Option Copy = None in none) ts)
    row [] = refl
    row (t ∷ ts) = ap (λ xs. None ∷ xs) (row ts)

    go : (js : List Junction) → map (λ j. map (λ l. let none : Option Copy = None in none) (targets net j)) js ≡ map (map (λ copy. None)) (map (λ j. map (λ l. let none : Option Copy = None in none) (targets net j)) js)
    go [] = refl
    go (j ∷ js) = ap₂ ◌∷◌ (row (targets net j)) (go js)
