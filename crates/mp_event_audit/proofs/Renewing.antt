-- In a run of lines of arrivals alone the reports are renewed when they would be too old.
use Rattle.std.proofs.Common.{◌≡◌, ◌==◌, ℕ, zero, suc, ◌+◌, ◌-◌, ◌%◌, ◌≤◌, ◌<◌, Bool, true, false, cond, ◌||◌, List, [], ◌∷◌, ◌++◌, length, get_or, set, map, zero-le, filter, find, Option, Some, None, is_none, arith, refl, sym, ◌∙◌, ap, ap₂, subst, eqb-true}
use Rattle.std.proofs.Math.Nat.{mod-eq_of_lt, mod-lt, mod_self}
use Rattle.std.proofs.lemmas.Bool.{eqb-false, false≢true, lt-leb}
use Rattle.std.proofs.lemmas.List.{length-map}
use Rattle.std.specs.List.{AllByRecursion, flat_map, range_with_len}
use Rattle.mp_model.specs.EventCore.{Answer, Copy, Core, Event, accepted, all_lacking, apply, arrivals_events, close_at, copy_beside, core_after, core_opening, decide_at, decided_at, first_undecided, hear_at, is_above, is_stale, lacking, with_copy}
use Rattle.mp_model.specs.EventCore.Answer.{closed}
use Rattle.mp_model.specs.EventCore.Event.{close, decide, hear}
use Rattle.mp_model.specs.EventPeriods.{age_of, ages_after, ages_of, no_ages, noted, noted_close, noted_decision, period_by, periods_from}
use Rattle.mp_model.specs.Network.{Junction, Network, entry, fed, has, junction_at, no_junction, out_of, targets}
use Rattle.mp_model.specs.Reports.{Period}
use Rattle.mp_laws.proofs.Copies.{HasRows, is_accepted, map_reads, read_set, row_length, row_there, rows_first, rows_mapped, rows_set, with_length}
use Rattle.mp_laws.proofs.LineEvents.{after_append, performs}
use Rattle.mp_laws.proofs.Lists.{all_of, each_in, eqb-flip}
use Rattle.mp_laws.proofs.Order.{closed_counts}
use Rattle.mp_laws.proofs.Renewed.{periods_append}

-- a copy that is so many periods old
abbrev IsAged : ℕ → ℕ → Option Copy → Type 0
IsAged period age None = ⊥
IsAged period age (Some copy) = copy.period + age ≡ period

-- at the beginning of a period there are copies of one age, or none
abbrev StartsAged : ℕ → ℕ → Option Copy → Type 0
StartsAged period zero o = o ≡ None
StartsAged period (suc age) o = IsAged period (suc age) o

-- lists
less : (k j : ℕ) → 1 ≤ j → k < j → (k == j - 1) ≡ false → k < j - 1
less k j ge le e = let other = eqb-false k (j - 1) e in grind arith

beside_all : (P : Option Copy → Type 0) (ts : List ℕ) (row : List (Option Copy)) (l : ℕ) → length row ≡ length ts → has ts l ≡ true → AllByRecursion P row → P (copy_beside ts row l)
beside_all P [] row l len in' h = absurd (false≢true in')
beside_all P (t ∷ ts) [] l len in' h = absurd (omega arith)
beside_all P (t ∷ ts) (o ∷ row) l len in' h = go (t == l) refl (λ more. beside_all P ts row l (omega arith) more h.1)
  where
    go : (b : Bool) → (t == l) ≡ b → (has ts l ≡ true → P (copy_beside ts row l)) → P (cond b o (copy_beside ts row l))
    go true e more = h.0
    go false e more = more (sym (ap (λ b. b || has ts l) e) ∙ in')

none_beside : (ts : List ℕ) (row : List (Option Copy)) (l : ℕ) → AllByRecursion (λ (o : Option Copy). o ≡ None) row → copy_beside ts row l ≡ None
none_beside [] row l h = refl
none_beside (t ∷ ts) [] l h = refl
none_beside (t ∷ ts) (o ∷ row) l h = go (t == l) (none_beside ts row l h.1)
  where
    go : (b : Bool) → copy_beside ts row l ≡ None → cond b o (copy_beside ts row l) ≡ None
    go true more = h.0
    go false more = more

ages_same : (period age : ℕ) (ts : List ℕ) (row : List (Option Copy)) → length row ≡ length ts → AllByRecursion (IsAged period age) row → map (age_of period) row ≡ map (λ l. age) ts
ages_same period age [] [] len h = refl
ages_same period age [] (o ∷ row) len h = absurd (omega arith)
ages_same period age (t ∷ ts) [] len h = absurd (omega arith)
ages_same period age (t ∷ ts) (None ∷ row) len h = absurd h.0
ages_same period age (t ∷ ts) (Some copy ∷ row) len h = let is = h.0 in ap₂ ◌∷◌ (omega arith) (ages_same period age ts row (omega arith) h.1)

suc-is : (n : ℕ) → suc n ≡ n + 1
suc-is n = omega arith

not_accepted : (delay period : ℕ) (copy : Copy) → copy.period + delay < period → accepted delay period (Some copy) ≡ None
not_accepted delay period copy lt = ap (λ b. cond b (Some copy) None) (lt-leb period (copy.period + delay) lt)

filter_every : (p : ℕ → Bool) (xs : List ℕ) → AllByRecursion (λ x. p x ≡ true) xs → filter p xs ≡ xs
filter_every p [] h = refl
filter_every p (x ∷ xs) h = ap (λ b. cond b (x ∷ filter p xs) (filter p xs)) h.0 ∙ ap (λ ys. x ∷ ys) (filter_every p xs h.1)

filter_none : (p : ℕ → Bool) (xs : List ℕ) → AllByRecursion (λ x. p x ≡ false) xs → filter p xs ≡ []
filter_none p [] h = refl
filter_none p (x ∷ xs) h = ap (λ b. cond b (x ∷ filter p xs) (filter p xs)) h.0 ∙ filter_none p xs h.1

find_none_of : (p : ℕ → Bool) (xs : List ℕ) → AllByRecursion (λ x. p x ≡ false) xs → find p xs ≡ None
find_none_of p [] h = refl
find_none_of p (x ∷ xs) h = ap (λ b. cond b (Some x) (find p xs)) h.0 ∙ find_none_of p xs h.1

set_other : {X : Type 0} (d y : X) (xs : List X) (i k : ℕ) → ¬ (i ≡ k) → get_or (set xs i y) k d ≡ get_or xs k d
set_other d y xs i k other = read_set (λ x. x ≡ get_or xs k d) d y xs i k (λ e. absurd (other e)) refl

set_here : {X : Type 0} (d y : X) (xs : List X) (i : ℕ) → i < length xs → get_or (set xs i y) i d ≡ y
set_here d y [] i lt = absurd (omega arith)
set_here d y (x ∷ xs) zero lt = refl
set_here d y (x ∷ xs) (suc i) lt = set_here d y xs i (omega arith)

set_length : {X : Type 0} (y : X) (xs : List X) (i : ℕ) → length (set xs i y) ≡ length xs
set_length y [] i = refl
set_length y (x ∷ xs) zero = refl
set_length y (x ∷ xs) (suc i) = omega (arith, set_length y xs i)

same_places : {X Y : Type 0} (f : Y → X) (d : X) (e : Y) (xs : List X) (ys : List Y) → length xs ≡ length ys → ((k : ℕ) → k < length ys → get_or xs k d ≡ f (get_or ys k e)) → xs ≡ map f ys
same_places f d e [] [] len h = refl
same_places f d e [] (y ∷ ys) len h = absurd (omega arith)
same_places f d e (x ∷ xs) [] len h = absurd (omega arith)
same_places f d e (x ∷ xs) (y ∷ ys) len h = ap₂ ◌∷◌ (h 0 (omega arith)) (same_places f d e xs ys (omega arith) (λ k lt. h (suc k) (omega arith)))

pub ages_append : (net : Network) (xs ys : List Event) (core : Core) (ages : List (List ℕ)) → ages_after net core ages (xs ++ ys) ≡ ages_after net (core_after net core xs) (ages_after net core ages xs) ys
ages_append net [] ys core ages = refl
ages_append net (x ∷ xs) ys core ages = ages_append net xs ys (apply net core x).1 (noted net core x ages)

-- the hearings of one junction
abbrev AgedWhere : ℕ → (ℕ → Bool) → List ℕ → List (Option Copy) → Type 0
AgedWhere period f [] row = Unit {0}
AgedWhere period f (t ∷ ts) [] = Unit {0}
AgedWhere period f (t ∷ ts) (o ∷ row) = (f t ≡ true → IsAged period 0 o) × AgedWhere period f ts row

abbrev also : ℕ → (ℕ → Bool) → ℕ → Bool
also l f t = (t == l) || f t

abbrev also_all : List ℕ → (ℕ → Bool) → ℕ → Bool
also_all [] f = f
also_all (l ∷ ls) f = also_all ls (also l f)

with_where : (period : ℕ) (f : ℕ → Bool) (ts : List ℕ) (row : List (Option Copy)) (l : ℕ) (new : Copy) → new.period ≡ period → AgedWhere period f ts row → AgedWhere period (also l f) ts (with_copy ts row l new)
with_where period f [] row l new is h = tt
with_where period f (t ∷ ts) [] l new is h = tt
with_where period f (t ∷ ts) (o ∷ row) l new is h = (go (t == l) h.0, with_where period f ts row l new is h.1)
  where
    go : (b : Bool) → (f t ≡ true → IsAged period 0 o) → (b || f t) ≡ true → IsAged period 0 (cond b (Some new) o)
    go true old e = omega arith
    go false old e = old e

also_keeps : (ls : List ℕ) (f : ℕ → Bool) (t : ℕ) → f t ≡ true → also_all ls f t ≡ true
also_keeps [] f t h = h
also_keeps (l ∷ ls) f t h = also_keeps ls (also l f) t (go (t == l) h)
  where
    go : (b : Bool) → f t ≡ true → (b || f t) ≡ true
    go true h = refl
    go false h = h

also_in : (ls : List ℕ) (f : ℕ → Bool) (t : ℕ) → has ls t ≡ true → also_all ls f t ≡ true
also_in [] f t h = absurd (false≢true h)
also_in (l ∷ ls) f t h = go (l == t) refl (also_in ls (also l f) t) h
  where
    go : (b : Bool) → (l == t) ≡ b → (has ls t ≡ true → also_all ls (also l f) t ≡ true) → (b || has ls t) ≡ true → also_all ls (also l f) t ≡ true
    go true e more h = also_keeps ls (also l f) t (ap (λ b. b || f t) (eqb-flip l t true e))
    go false e more h = more h

aged_all : (period : ℕ) (f : ℕ → Bool) (ts : List ℕ) (row : List (Option Copy)) → length row ≡ length ts → AllByRecursion (λ t. f t ≡ true) ts → AgedWhere period f ts row → AllByRecursion (IsAged period 0) row
aged_all period f [] [] len h k = tt
aged_all period f [] (o ∷ row) len h k = absurd (omega arith)
aged_all period f (t ∷ ts) [] len h k = absurd (omega arith)
aged_all period f (t ∷ ts) (o ∷ row) len h k = (k.0 h.0, aged_all period f ts row (omega arith) h.1 k.1)

nowhere : (period : ℕ) (ts : List ℕ) (row : List (Option Copy)) → AgedWhere period (λ t. false) ts row
nowhere period [] row = tt
nowhere period (t ∷ ts) [] = tt
nowhere period (t ∷ ts) (o ∷ row) = (λ e. absurd (false≢true e), nowhere period ts row)

-- hearings of junction j change its copies alone
pub record HearsRow (net : Network) (j : ℕ) (f : ℕ → Bool) (old new : Core) : Type 0 where
  pub period : new.period ≡ old.period
  pub rows : HasRows net net.junctions new.copies
  pub decided : new.decided ≡ old.decided
  pub others : (k : ℕ) → ¬ (j - 1 ≡ k) → get_or new.copies k [] ≡ get_or old.copies k []
  pub row : AgedWhere old.period f (targets net (junction_at net j)) (get_or new.copies (j - 1) [])

hears_row : (net : Network) (j : ℕ) (f : ℕ → Bool) (ls : List ℕ) → j - 1 < length net.junctions → AllByRecursion (λ l. has (targets net (junction_at net j)) l ≡ true) ls → (first core : Core) → HearsRow net j f first core →
    HearsRow net j (also_all ls f) first (core_after net core (map (hear (j)) ls))
hears_row net j f [] lt h first core so = so
hears_row net j f (l ∷ ls) lt h first core so =
    hears_row net j (also l f) ls lt h.1 first (apply net core (hear (j) l)).1
    (subst (λ b. HearsRow net j (also l f) first (hear_at net core (j) l b).1) (sym h.0) one)
  where
    ts : List ℕ
    ts = targets net (junction_at net j)

    new : Copy
    new = record { period = core.period; counts = map (entry core.queues) (out_of net l) }

    row : List (Option Copy)
    row = with_copy ts (get_or core.copies (j - 1) []) l new

    one : HearsRow net j (also l f) first (hear_at net core (j) l true).1
    one = record {
      period = so.period;
      rows = rows_set net net.junctions core.copies (j - 1) row no_junction so.rows (λ lt. with_length ts (get_or core.copies (j - 1) []) l new (row_length net net.junctions core.copies (j - 1) no_junction so.rows lt));
      decided = so.decided;
      others = λ k other. set_other [] row core.copies (j - 1) k other ∙ so.others k other;
      row = subst (AgedWhere first.period (also l f) ts) (sym (set_here [] row core.copies (j - 1) (row_there net net.junctions core.copies (j - 1) so.rows lt))) (with_where first.period f ts (get_or core.copies (j - 1) []) l new so.period so.row);
    }

-- hearings note no ages
hear_ages : (net : Network) (j : ℕ) (ls : List ℕ) (core : Core) (ages : List (List ℕ)) → ages_after net core ages (map (hear j) ls) ≡ ages
hear_ages net j [] core ages = refl
hear_ages net j (l ∷ ls) core ages = hear_ages net j ls (apply net core (hear j l)).1 ages

-- the beginning of a period
pub record Starts (net : Network) (core : Core) (age : ℕ) : Type 0 where
  pub rows : HasRows net net.junctions core.copies
  pub decided_size : length core.decided ≡ length net.junctions
  pub decided : (k : ℕ) → get_or core.decided k None ≡ None
  pub young : age ≤ net.delay
  pub copies : (k : ℕ) → k < length net.junctions → AllByRecursion (StartsAged core.period age) (get_or core.copies k [])

-- the first i junctions have decided, by copies of this age
pub record Decided (net : Network) (first : Core) (age i : ℕ) (core : Core) (ages : List (List ℕ)) : Type 0 where
  pub period : core.period ≡ first.period
  pub rows : HasRows net net.junctions core.copies
  pub decided_size : length core.decided ≡ length net.junctions
  pub ages_size : length ages ≡ length net.junctions
  pub later_rows : (k : ℕ) → i ≤ k → get_or core.copies k [] ≡ get_or first.copies k []
  pub later_decided : (k : ℕ) → i ≤ k → get_or core.decided k None ≡ None
  pub done_rows : (k : ℕ) → k < i → k < length net.junctions → AllByRecursion (IsAged first.period age) (get_or core.copies k [])
  pub done_ages : (k : ℕ) → k < i → k < length net.junctions → get_or ages k [] ≡ map (λ l. age) (targets net (get_or net.junctions k no_junction))

-- junction j with copies of this age decides by them
decides_next : (net : Network) (first : Core) (age j : ℕ) (core : Core) (ages : List (List ℕ)) → age ≤ net.delay → 1 ≤ j → j - 1 < length net.junctions → Decided net first age (j - 1) core ages → (heard_core : Core) →
    heard_core.period ≡ first.period → HasRows net net.junctions heard_core.copies → heard_core.decided ≡ core.decided → ((k : ℕ) → ¬ (j - 1 ≡ k) → get_or heard_core.copies k [] ≡ get_or core.copies k []) → AllByRecursion (IsAged first.period age) (get_or heard_core.copies (j - 1) []) →
    Decided net first age j (apply net heard_core (decide j)).1 (noted net heard_core (decide j) ages)
decides_next net first age j core ages young ge lt so c period rows same others row =
    subst (λ (o : Option ℕ). Decided net first age j (decide_at net c j o missing).1 (noted_decision c j o (decide_at net c j o missing).0 ages)) (sym undecided)
    (subst (λ (m : Option ℕ). Decided net first age j (decide_at net c j None m).1 (noted_decision c j None (decide_at net c j None m).0 ages)) (sym ready) done)
  where
    ts : List ℕ
    ts = targets net (junction_at net j)

    missing : Option ℕ
    missing = find (is_stale net c j) ts

    len : length (get_or c.copies (j - 1) []) ≡ length ts
    len = row_length net net.junctions c.copies (j - 1) no_junction rows lt

    undecided : decided_at c j ≡ None
    undecided = ap (λ (ds : List (Option ℕ)). get_or ds (j - 1) None) same ∙ so.later_decided (j - 1) (omega arith)

    fresh : (o : Option Copy) → IsAged first.period age o → is_none (accepted net.delay c.period o) ≡ false
    fresh None a = absurd a
    fresh (Some copy) a = ap (λ (o : Option Copy). is_none o) (is_accepted net.delay c.period copy (omega arith))

    ready : missing ≡ None
    ready = find_none_of (is_stale net c j) ts (each_in (λ l. is_stale net c j l ≡ false) ts (λ l in'. beside_all (λ o. is_none (accepted net.delay c.period o) ≡ false) ts (get_or c.copies (j - 1) []) l len in' (every (get_or c.copies (j - 1) []) row)))
      where
        every : (xs : List (Option Copy)) → AllByRecursion (IsAged first.period age) xs → AllByRecursion (λ o. is_none (accepted net.delay c.period o) ≡ false) xs
        every [] h = tt
        every (o ∷ xs) h = (fresh o h.0, every xs h.1)

    noted_ages : ages_of c j ≡ map (λ l. age) ts
    noted_ages = ap (λ p. map (age_of p) (get_or c.copies (j - 1) [])) period ∙ ages_same first.period age ts (get_or c.copies (j - 1) []) len row

    size : length c.decided ≡ length net.junctions
    size = ap (λ (ds : List (Option ℕ)). length ds) same ∙ so.decided_size

    done : Decided net first age j (decide_at net c j None None).1 (set ages (j - 1) (ages_of c j))
    done = record {
      period = period;
      rows = rows;
      decided_size = set_length _ c.decided (j - 1) ∙ size;
      ages_size = set_length (ages_of c j) ages (j - 1) ∙ so.ages_size;
      later_rows = λ k le. others k (λ e. omega arith) ∙ so.later_rows k (omega arith);
      later_decided = λ k le. set_other None _ c.decided (j - 1) k (λ e. omega arith) ∙ ap (λ (ds : List (Option ℕ)). get_or ds k None) same ∙ so.later_decided k (omega arith);
      done_rows = λ k le there. rows_at k le there (k == j - 1) refl;
      done_ages = λ k le there. ages_at k le there (k == j - 1) refl;
    }
      where
        rows_at : (k : ℕ) → k < j → k < length net.junctions → (b : Bool) → (k == j - 1) ≡ b → AllByRecursion (IsAged first.period age) (get_or c.copies k [])
        rows_at k le there true e = subst (λ n. AllByRecursion (IsAged first.period age) (get_or c.copies n [])) (sym (eqb-true k (j - 1) e)) row
        rows_at k le there false e = subst (AllByRecursion (IsAged first.period age)) (sym (others k (λ same. eqb-false k (j - 1) e (sym same)))) (so.done_rows k (less k j ge le e) there)

        ages_at : (k : ℕ) → k < j → k < length net.junctions → (b : Bool) → (k == j - 1) ≡ b → get_or (set ages (j - 1) (ages_of c j)) k [] ≡ map (λ l. age) (targets net (get_or net.junctions k no_junction))
        ages_at k le there true e = subst (λ n. get_or (set ages (j - 1) (ages_of c j)) n [] ≡ map (λ l. age) (targets net (get_or net.junctions n no_junction))) (sym (eqb-true k (j - 1) e)) (set_here [] (ages_of c j) ages (j - 1) (omega (arith, so.ages_size)) ∙ noted_ages)
        ages_at k le there false e = set_other [] (ages_of c j) ages (j - 1) k (λ same. eqb-false k (j - 1) e (sym same)) ∙ so.done_ages k (less k j ge le e) there

-- what one junction lacks
lacks_next : (net : Network) (first : Core) (age j : ℕ) (core : Core) (ages : List (List ℕ)) → Starts net first age → 1 ≤ j → j - 1 < length net.junctions → Decided net first age (j - 1) core ages →
    Decided net first age j (core_after net core (lacking net first j)) (ages_after net core ages (lacking net first j))
lacks_next net first age j core ages starts ge lt so =
    subst (λ (o : Option ℕ). Decided net first age j (core_after net core (cond (is_none o) events [])) (ages_after net core ages (cond (is_none o) events []))) (sym (starts.decided (j - 1))) (go age refl)
  where
    ts : List ℕ
    ts = targets net (junction_at net j)

    ls : List ℕ
    ls = filter (is_stale net first j) ts

    events : List Event
    events = map (hear j) ls ++ decide j ∷ []

    heard_core : Core
    heard_core = core_after net core (map (hear j) ls)

    joins : Decided net first age j (apply net heard_core (decide j)).1 (noted net heard_core (decide j) ages) → Decided net first age j (core_after net core events) (ages_after net core ages events)
    joins d =
        subst (λ c. Decided net first age j c (ages_after net core ages events)) (sym (after_append net (map (hear j) ls) (decide j ∷ []) core))
        (subst (Decided net first age j (apply net heard_core (decide j)).1) (sym (ages_append net (map (hear j) ls) (decide j ∷ []) core ages ∙ ap (λ a. noted net heard_core (decide j) a) (hear_ages net j ls core ages))) d)

    old_row : List (Option Copy)
    old_row = get_or first.copies (j - 1) []

    old_length : length old_row ≡ length ts
    old_length = row_length net net.junctions first.copies (j - 1) no_junction starts.rows lt

    go : (n : ℕ) → age ≡ n → Decided net first age j (core_after net core events) (ages_after net core ages events)
    go zero e =
        let none : AllByRecursion (λ (o : Option Copy). o ≡ None) old_row = subst (λ n. AllByRecursion (StartsAged first.period n) old_row) e (starts.copies (j - 1) lt) in
        let stale_all : AllByRecursion (λ l. is_stale net first j l ≡ true) ts = all_of (λ l. is_stale net first j l ≡ true) (λ l. ap (λ o. is_none (accepted net.delay first.period o)) (none_beside ts old_row l none)) ts in
        let all : ls ≡ ts = filter_every (is_stale net first j) ts stale_all in
        let h : HearsRow net j (also_all ls (λ t. false)) core heard_core =
        hears_row net j (λ t. false) ls lt (each_in (λ l. has ts l ≡ true) ls (λ l in'. sym (ap (λ xs. has xs l) all) ∙ in')) core core
        (record { period = refl; rows = so.rows; decided = refl; others = λ k other. refl; row = nowhere core.period ts (get_or core.copies (j - 1) []) }) in
        let size : length (get_or heard_core.copies (j - 1) []) ≡ length ts = row_length net net.junctions heard_core.copies (j - 1) no_junction h.rows lt in
        let aged : AllByRecursion (IsAged core.period 0) (get_or heard_core.copies (j - 1) []) = aged_all core.period (also_all ls (λ t. false)) ts (get_or heard_core.copies (j - 1) []) size (each_in (λ t. also_all ls (λ t. false) t ≡ true) ts (λ t in'. also_in ls (λ t. false) t (ap (λ xs. has xs t) all ∙ in'))) h.row in
        joins (decides_next net first age j core ages starts.young ge lt so heard_core (h.period ∙ so.period) h.rows h.decided h.others
        (subst (λ n. AllByRecursion (IsAged first.period n) (get_or heard_core.copies (j - 1) [])) (sym e) (subst (λ p. AllByRecursion (IsAged p 0) (get_or heard_core.copies (j - 1) [])) so.period aged)))
    go (suc n) e =
        let aged : AllByRecursion (IsAged first.period age) old_row = subst (λ n. AllByRecursion (IsAged first.period n) old_row) (sym e) (subst (λ n. AllByRecursion (StartsAged first.period n) old_row) e (starts.copies (j - 1) lt)) in
        let young = starts.young in
        let fresh_all : AllByRecursion (λ l. is_stale net first j l ≡ false) ts = each_in (λ l. is_stale net first j l ≡ false) ts (λ l in'. beside_all (λ o. is_none (accepted net.delay first.period o) ≡ false) ts old_row l old_length in' (every old_row aged)) in
        let none : ls ≡ [] = filter_none (is_stale net first j) ts fresh_all in
        let same : heard_core ≡ core = ap (λ xs. core_after net core (map (hear j) xs)) none in
        joins (subst (λ c. Decided net first age j (apply net c (decide j)).1 (noted net c (decide j) ages)) (sym same)
        (decides_next net first age j core ages starts.young ge lt so core so.period so.rows refl (λ k other. refl) (subst (AllByRecursion (IsAged first.period age)) (sym (so.later_rows (j - 1) (omega arith))) aged)))
      where
        fresh : (o : Option Copy) → IsAged first.period age o → is_none (accepted net.delay first.period o) ≡ false
        fresh None a = absurd a
        fresh (Some copy) a = let young = starts.young in ap (λ (o : Option Copy). is_none o) (is_accepted net.delay first.period copy (omega arith))

        every : (xs : List (Option Copy)) → AllByRecursion (IsAged first.period age) xs → AllByRecursion (λ o. is_none (accepted net.delay first.period o) ≡ false) xs
        every [] h = tt
        every (o ∷ xs) h = (fresh o h.0, every xs h.1)

-- what the junctions from a place on lack
lacks_all : (net : Network) (first : Core) (age n j : ℕ) (core : Core) (ages : List (List ℕ)) → Starts net first age → 1 ≤ j → j + n ≡ length net.junctions + 1 → Decided net first age (j - 1) core ages → let es = flat_map (lacking net first) (range_with_len j n) in
    Decided net first age (length net.junctions) (core_after net core es) (ages_after net core ages es)
lacks_all net first age zero j core ages starts ge e so = subst (λ m. Decided net first age m core ages) (omega arith) so
lacks_all net first age (suc n) j core ages starts ge e so =
    let here = lacking net first j in
    let rest = flat_map (lacking net first) (range_with_len (j + 1) n) in
    let one = lacks_next net first age j core ages starts ge (omega arith) so in
    let next : Decided net first age (j + 1 - 1) (core_after net core here) (ages_after net core ages here) = subst (λ m. Decided net first age m (core_after net core here) (ages_after net core ages here)) (omega arith) one in
    let more = lacks_all net first age n (j + 1) (core_after net core here) (ages_after net core ages here) starts (omega arith) (omega arith) next in
    subst (λ c. Decided net first age (length net.junctions) c (ages_after net core ages (here ++ rest))) (sym (after_append net here rest core))
    (subst (λ a. Decided net first age (length net.junctions) (core_after net (core_after net core here) rest) a) (sym (ages_append net here rest core ages)) more)

-- what a line of arrivals performs before it closes
pub record Performs (net : Network) (core : Core) (age : ℕ) : Type 0 where
  pub period : (core_after net core (all_lacking net core)).period ≡ core.period
  pub rows : HasRows net net.junctions (core_after net core (all_lacking net core)).copies
  pub copies : (k : ℕ) → k < length net.junctions → AllByRecursion (IsAged core.period age) (get_or (core_after net core (all_lacking net core)).copies k [])
  pub ages : ages_after net core (no_ages net) (all_lacking net core) ≡ map (λ j. map (λ l. age) (targets net j)) net.junctions

performs_aged : (net : Network) (core : Core) (age : ℕ) → Starts net core age → Performs net core age
performs_aged net core age starts =
    let all = lacks_all net core age (length net.junctions) 1 core (no_ages net) starts (omega arith) (omega arith) (record {
      period = refl;
      rows = starts.rows;
      decided_size = starts.decided_size;
      ages_size = length-map net.junctions (λ (j : Junction). let none : List ℕ = [] in none);
      later_rows = λ k le. refl;
      later_decided = λ k le. starts.decided k;
      done_rows = λ k lt there. absurd (omega arith);
      done_ages = λ k lt there. absurd (omega arith);
    }) in
    record {
      period = all.period;
      rows = all.rows;
      copies = λ k lt. all.done_rows k lt lt;
      ages = same_places (λ j. map (λ l. age) (targets net j)) [] no_junction (ages_after net core (no_ages net) (all_lacking net core)) net.junctions all.ages_size (λ k lt. all.done_ages k lt lt);
    }

-- the age in the next period
abbrev pub next_age : Network → ℕ → ℕ
next_age net age = suc age % (net.delay + 1)

kept_aged : (net : Network) (period age : ℕ) (o : Option Copy) → age ≤ net.delay → IsAged period age o → StartsAged (period + 1) (next_age net age) (accepted net.delay (period + 1) o)
kept_aged net period age None young a = absurd a
kept_aged net period age (Some copy) young a = go (age == net.delay) refl
  where
    go : (b : Bool) → (age == net.delay) ≡ b → StartsAged (period + 1) (next_age net age) (accepted net.delay (period + 1) (Some copy))
    go true e =
        let same = eqb-true age net.delay e in
        let back : next_age net age ≡ 0 = ap (λ n. suc n % (net.delay + 1)) same ∙ ap (λ n. n % (net.delay + 1)) (suc-is net.delay) ∙ mod_self (net.delay + 1) in
        subst (λ n. StartsAged (period + 1) n (accepted net.delay (period + 1) (Some copy))) (sym back) (not_accepted net.delay (period + 1) copy (omega arith))
    go false e =
        let other = eqb-false age net.delay e in
        let lt : suc age < net.delay + 1 = grind arith in
        let on : next_age net age ≡ suc age = mod-eq_of_lt lt in
        subst (λ n. StartsAged (period + 1) n (accepted net.delay (period + 1) (Some copy))) (sym on)
        (subst (IsAged (period + 1) (suc age)) (sym (is_accepted net.delay (period + 1) copy (omega arith))) (omega arith))

kept_aged_all : (net : Network) (period age : ℕ) (row : List (Option Copy)) → age ≤ net.delay → AllByRecursion (IsAged period age) row → AllByRecursion (StartsAged (period + 1) (next_age net age)) (map (accepted net.delay (period + 1)) row)
kept_aged_all net period age [] young h = tt
kept_aged_all net period age (o ∷ row) young h = (kept_aged net period age o young h.0, kept_aged_all net period age row young h.1)

-- what a closing leaves
pub record LeavesClosed (net : Network) (ready : Core) (r : Answer × Core) : Type 0 where
  pub copies : r.1.copies ≡ map (map (accepted net.delay (ready.period + 1))) ready.copies
  pub decided : r.1.decided ≡ map (λ j. None) net.junctions
  pub period : r.1.period ≡ ready.period + 1

leaves_closed : (net : Network) (ready : Core) (counts : List ℕ) → (apply net ready (close counts)).0 ≡ closed → LeavesClosed net ready (apply net ready (close counts))
leaves_closed net ready counts h = go (first_undecided 1 ready.decided) (find (is_above net ready counts) (fed net)) h
  where
    go : (u above : Option ℕ) → (close_at net ready counts u above).0 ≡ closed → LeavesClosed net ready (close_at net ready counts u above)
    go (Some j) above h = cc
    go None (Some l) h = cc
    go None None h = record { copies = refl; decided = refl; period = refl }

no_periods : (ps : List Period) → map (λ period. period.counts) ps ≡ [] → ps ≡ []
no_periods [] e = refl
no_periods (p ∷ ps) e = cc

-- a line of arrivals that closes its period
pub record ClosesAged (net : Network) (core : Core) (age : ℕ) (counts : List ℕ) : Type 0 where
  pub quiet : periods_from net core (no_ages net) (all_lacking net core) ≡ []
  pub ready_ages : ages_after net core (no_ages net) (all_lacking net core) ≡ map (λ j. map (λ l. age) (targets net j)) net.junctions
  pub periods : periods_from net core (no_ages net) (arrivals_events net core counts) ≡ record { counts = counts; ages = map (λ j. map (λ l. age) (targets net j)) net.junctions } ∷ []
  pub ages : ages_after net core (no_ages net) (arrivals_events net core counts) ≡ no_ages net
  pub after : core_after net core (arrivals_events net core counts) ≡ (apply net (core_after net core (all_lacking net core)) (close counts)).1
  pub starts : Starts net (core_after net core (arrivals_events net core counts)) (next_age net age)

pub closes_aged : (net : Network) (core : Core) (age : ℕ) (counts : List ℕ) → Starts net core age → (apply net (core_after net core (all_lacking net core)) (close counts)).0 ≡ closed → ClosesAged net core age counts
closes_aged net core age counts starts is =
    let p = performs net core counts starts.decided_size starts.rows in
    let m = performs_aged net core age starts in
    let all = all_lacking net core in
    let ready = core_after net core all in
    let last = apply net ready (close counts) in
    let left = leaves_closed net ready counts is in
    let after : core_after net core (all ++ close counts ∷ []) ≡ last.1 = after_append net all (close counts ∷ []) core in
    let quiet : periods_from net core (no_ages net) all ≡ [] = no_periods (periods_from net core (no_ages net) all) (closed_counts net all core (no_ages net) ∙ p.none) in
    let period : last.1.period ≡ core.period + 1 = left.period ∙ ap (λ n. n + 1) m.period in
    record {
      quiet = quiet;
      ready_ages = m.ages;
      periods = periods_append net all (close counts ∷ []) core (no_ages net) ∙ ap₂ ◌++◌ quiet (ap (λ a. period_by a (close counts) (ages_after net core (no_ages net) all) []) is ∙ ap (λ (a : List (List ℕ)). let one : Period = record { counts = counts; ages = a } in one ∷ []) m.ages);
      ages = ages_append net all (close counts ∷ []) core (no_ages net) ∙ noted_closed net ready counts (ages_after net core (no_ages net) all) last.0 refl is;
      after = after;
      starts = subst (λ c. Starts net c (next_age net age)) (sym after) (record {
        rows = subst (HasRows net net.junctions) (sym left.copies) (rows_mapped net (accepted net.delay (ready.period + 1)) net.junctions ready.copies m.rows);
        decided_size = ap (λ (ds : List (Option ℕ)). length ds) left.decided ∙ length-map net.junctions (λ (j : Junction). let none : Option ℕ = None in none);
        decided = λ k. ap (λ (ds : List (Option ℕ)). get_or ds k None) left.decided ∙ map_reads (λ (j : Junction). let none : Option ℕ = None in none) no_junction net.junctions k;
        young = let lt = mod-lt (suc age) {m = net.delay + 1} (omega arith) in omega arith;
        copies = λ k there.
            subst (λ n. AllByRecursion (StartsAged n (next_age net age)) (get_or last.1.copies k [])) (sym period)
            (subst (AllByRecursion (StartsAged (core.period + 1) (next_age net age))) (sym (ap (λ rows. get_or rows k []) left.copies ∙ map_reads (map (accepted net.delay (ready.period + 1))) [] ready.copies k ∙ ap (λ n. map (accepted net.delay (n + 1)) (get_or ready.copies k [])) m.period))
            (kept_aged_all net core.period age (get_or ready.copies k []) starts.young (m.copies k there)));
      });
    }
  where
    noted_closed : (net : Network) (ready : Core) (counts : List ℕ) (ages : List (List ℕ)) (a : Answer) → (apply net ready (close counts)).0 ≡ a → a ≡ closed → noted net ready (close counts) ages ≡ no_ages net
    noted_closed net ready counts ages a e is = ap (λ a. noted_close net a ages) (e ∙ is)

-- at the opening nothing was heard
pub opening_starts : (net : Network) → Starts net (core_opening net) 0
opening_starts net = record {
  rows = rows_first net net.junctions;
  decided_size = length-map net.junctions (λ (j : Junction). let none : Option ℕ = None in none);
  decided = map_reads (λ (j : Junction). let none : Option ℕ = None in none) no_junction net.junctions;
  young = zero-le;
  copies = no_copies net.junctions;
}
  where
    nones : (ts : List ℕ) → AllByRecursion (StartsAged 0 0) (map (λ (l : ℕ). let none : Option Copy = None in none) ts)
    nones [] = tt
    nones (t ∷ ts) = (refl, nones ts)

    no_copies : (js : List Junction) (k : ℕ) → k < length js → AllByRecursion (StartsAged 0 0) (get_or (map (λ (j : Junction). map (λ (l : ℕ). let none : Option Copy = None in none) (targets net j)) js) k [])
    no_copies [] k lt = absurd (omega arith)
    no_copies (j ∷ js) zero lt = nones (targets net j)
    no_copies (j ∷ js) (suc k) lt = no_copies js k (omega arith)
