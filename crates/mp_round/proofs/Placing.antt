-- The places of the copies of a network's junctions.
use Rattle.std.proofs.Common.{◌≡◌, ◌==◌, ◌≤◌, ◌<◌, ℕ, zero, suc, ◌+◌, ◌-◌, ◌%◌, List, [], ◌∷◌, ◌++◌, length, get_or, set, take, drop, map, Option, Some, None, unwrap_or, replicate, arith, refl, sym, ◌∙◌, ap, ap₂}
use Rattle.std.specs.List.{IsDistinct, list_any}
use Rattle.std.proofs.Math.Nat.{zero-mod}
use Rattle.std.proofs.lemmas.List.{length-map, length-set, get_or-map, map-set, map_push}
use Rattle.std.proofs.lemmas.List.Edits.{map_over_more}
use Rattle.mp_laws.proofs.Copies.{map_reads}
use Rattle.mp_laws.proofs.Lists.{at_in, numbered}
use Rattle.mp_model.specs.EventCore.{Copy, core_opening, first_undecided}
use Rattle.mp_model.specs.Network.{Network, Junction, entry, goes_to, junction_at, link_numbers, no_junction, own, targets, to_of}
use Rattle.mp_model.specs.NetworkRules.{IsNetwork}
use Rattle.mp_model.specs.Run.{opening}
use Rattle.mp_model.specs.Step.{AreStages, received_by}
use Rattle.mp_press.proofs.Known.{all_known, has_numbers, kept_differ}
use Rattle.mp_press.proofs.Writes.{numbers_by_all}
use Rattle.mp_press.specs.Weighed.{Weighed}
use Rattle.mp_press.specs.Written.{IsAmong}
use Rattle.mp_step.specs.Standing.{IsOn, Standing, Stands}
use Rattle.mp_step.specs.Taken.{HasTaken}
use Rattle.mp_round.specs.RoundView.{RoundView, AreDecided, HasPlaces, IsRoundOn, core_of, with_report, with_stage}
use Rattle.mp_round.proofs.Counting.{map_more}

-- a round by its parts
abbrev pub shown_by : Standing → Weighed → List (List (Option Copy)) → List (Option ℕ) → List ℕ → RoundView
shown_by standing weighed copies decided last = record { standing = standing; weighed = weighed; copies = copies; decided = decided; last = last }

pub targets_differ : (net : Network) (j : Junction) → IsDistinct ◌==◌ (targets net j)
targets_differ net j = kept_differ (λ l. list_any (λ k. goes_to (to_of net k) l) (own net j)) (length net.links)

-- rows and their lengths
pub rows_count : (net : Network) (copies : List (List (Option Copy))) → HasPlaces net copies → length copies ≡ length net.junctions
rows_count net copies h = sym (length-map copies (λ row. length row)) ∙ ap length h ∙ length-map net.junctions (λ j. length (targets net j))

pub row_places : (net : Network) (copies : List (List (Option Copy))) (j : ℕ) → HasPlaces net copies → IsAmong (length net.junctions) j → length (get_or copies (j - 1) []) ≡ length (targets net (junction_at net j))
row_places net copies j h known =
    let count = rows_count net copies h in
    sym (get_or-map (λ row. length row) copies (j - 1) [] 0 (omega (arith, known, count))) ∙ ap (λ xs. get_or xs (j - 1) 0) h ∙ get_or-map (λ j. length (targets net j)) net.junctions (j - 1) no_junction 0 (omega (arith, known))

pub map_set : {X : Type 0} (f : X → ℕ) (xs : List X) (i : ℕ) (y d : X) → f y ≡ f (get_or xs i d) → map f (set xs i y) ≡ map f xs
map_set f [] i y d e = refl
map_set f (x ∷ xs) zero y d e = ap (λ n. n ∷ map f xs) e
map_set f (x ∷ xs) (suc i) y d e = ap (λ ns. f x ∷ ns) (map_set f xs i y d e)

pub places_put : (net : Network) (copies : List (List (Option Copy))) (i place : ℕ) (copy : Option Copy) → HasPlaces net copies → HasPlaces net (set copies i (set (get_or copies i []) place copy))
places_put net copies i place copy h = map_set (λ row. length row) copies i (set (get_or copies i []) place copy) [] (length-set (get_or copies i []) place copy) ∙ h

pub places_dropped : (net : Network) (f : Option Copy → Option Copy) (copies : List (List (Option Copy))) → HasPlaces net copies → HasPlaces net (map (map f) copies)
places_dropped net f copies h = go copies ∙ h
  where
    go : (rows : List (List (Option Copy))) → map (λ row. length row) (map (map f) rows) ≡ map (λ row. length row) rows
    go [] = refl
    go (row ∷ rows) = ap₂ ◌∷◌ (length-map row f) (go rows)

-- decided stages
pub decided_count : (js : List Junction) (ds : List (Option ℕ)) → AreDecided js ds → length ds ≡ length js
decided_count [] [] h = refl
decided_count [] (d ∷ ds) h = absurd h
decided_count (j ∷ js) [] h = absurd h
decided_count (j ∷ js) (d ∷ ds) h = ap suc (decided_count js ds h.1)

pub decided_put : (js : List Junction) (ds : List (Option ℕ)) (i s : ℕ) → AreDecided js ds → (1 ≤ s) × (s ≤ length (get_or js i no_junction).stages) → AreDecided js (set ds i (Some s))
decided_put [] [] i s h e = tt
decided_put [] (d ∷ ds) i s h e = absurd h
decided_put (j ∷ js) [] i s h e = absurd h
decided_put (j ∷ js) (d ∷ ds) zero s h e = (e, h.1)
decided_put (j ∷ js) (d ∷ ds) (suc i) s h e = (h.0, decided_put js ds i s h.1 e)

pub none_decided : (js : List Junction) (n : ℕ) → n ≡ length js → AreDecided js (replicate n None)
none_decided [] zero e = tt
none_decided [] (suc n) e = absurd (omega arith)
none_decided (j ∷ js) zero e = absurd (omega arith)
none_decided (j ∷ js) (suc n) e = (tt, none_decided js n (omega arith))

pub none_each : (js : List Junction) (n : ℕ) → n ≡ length js → replicate n (let none : Option ℕ = None in none) ≡ map (λ j. None) js
none_each [] zero e = refl
none_each [] (suc n) e = absurd (omega arith)
none_each (j ∷ js) zero e = absurd (omega arith)
none_each (j ∷ js) (suc n) e = ap (λ xs. None ∷ xs) (none_each js n (omega arith))

pub all_stages : (n : ℕ) (js : List Junction) (ds : List (Option ℕ)) → AreDecided js ds → first_undecided n ds ≡ None → AreStages js (map (λ d. unwrap_or d 0) ds)
all_stages n [] [] h e = tt
all_stages n [] (d ∷ ds) h e = absurd h
all_stages n (j ∷ js) [] h e = absurd h
all_stages n (j ∷ js) (None ∷ ds) h e = cc
all_stages n (j ∷ js) (Some s ∷ ds) h e = (h.0, all_stages (n + 1) js ds h.1 e)

-- a round stays one of its network
pub on_report : (net : Network) (round : RoundView) (j place : ℕ) (copy : Copy) → IsRoundOn net round → IsRoundOn net (with_report round j place copy)
on_report net round j place copy h = record { on = h.on; cache = h.cache; counts = h.counts; places = places_put net round.copies (j - 1) place (Some copy) h.places; decided = h.decided; last = h.last }

pub on_stage : (net : Network) (round : RoundView) (j s : ℕ) → (1 ≤ s) × (s ≤ length (junction_at net j).stages) → IsRoundOn net round → IsRoundOn net (with_stage round j s)
on_stage net round j s stage h = record { on = h.on; cache = h.cache; counts = h.counts; places = h.places; decided = decided_put net.junctions round.decided (j - 1) s h.decided stage; last = h.last }

-- a list of rows, where one row changes
pub put_row : {V X : Type 0} (f : V → List X) (vs : List V) (n place : ℕ) (v v' : V) (x : X) → n < length vs → v ≡ get_or vs n v → f v' ≡ set (f v) place x → map f (set vs n v') ≡ set (map f vs) n (set (get_or (map f vs) n []) place x)
put_row f vs n place v v' x lt read e = map-set f vs n v' ∙ ap (set (map f vs) n) (e ∙ ap (λ r. set r place x) (ap f read ∙ sym (get_or-map f vs n v [] lt)))

pub map_row : {V X : Type 0} (f : V → X) (g : X → X) (xs : List X) (vs : List V) (i : ℕ) (v v' : V) → i < length xs → map f vs ≡ map g (take i xs) ++ drop i xs → v ≡ get_or vs i v → f v' ≡ g (f v) →
    map f (set vs i v') ≡ map g (take (i + 1) xs) ++ drop (i + 1) xs
map_row f g xs vs i v v' lt inv read e = map-set f vs i v' ∙ ap (set (map f vs) i) e ∙ map_over_more g xs (map f vs) i (f v) lt inv (ap f read ∙ sym (map_reads f v vs i))

pub none_targets : (ts : List ℕ) → replicate (length ts) (let none : Option Copy = None in none) ≡ map (λ l. None) ts
none_targets [] = refl
none_targets (t ∷ ts) = ap (λ xs. None ∷ xs) (none_targets ts)

pub new_row : {V X : Type 0} (f : V → X) (g : Junction → X) (js : List Junction) (vs : List V) (i : ℕ) (v : V) → i < length js → map f vs ≡ map g (take i js) → f v ≡ g (get_or js ((i + 1) - 1) no_junction) → map f (vs ++ v ∷ []) ≡ map g (take (i + 1) js)
new_row f g js vs i v lt inv e =
    let back : (i + 1) - 1 ≡ i = omega arith in
    map_push f vs v ∙ ap₂ (λ xs x. xs ++ x ∷ []) inv (e ∙ ap (λ n. g (get_or js n no_junction)) back) ∙ sym (map_more g js i no_junction lt)

pub target_known : (net : Network) (j : Junction) (i : ℕ) → i < length (targets net j) → IsAmong (length net.links) (get_or (targets net j) i 0)
target_known net j i lt = all_known (λ l. list_any (λ k. goes_to (to_of net k) l) (own net j)) (length net.links) i 0 lt

-- the opening
pub opening_shown : (net : Network) → IsNetwork net → (st : Standing) (weighed : Weighed) (copies : List (List (Option Copy))) (decided : List (Option ℕ)) (last : List ℕ) → IsOn net st → Stands net st (opening net) → HasTaken net st [] → copies ≡ map (λ j. map (λ l. None) (targets net j)) net.junctions →
    decided ≡ replicate (length net.junctions) None → last ≡ [] → core_of (shown_by st weighed copies decided last) ≡ core_opening net
opening_shown net ok st weighed copies decided last on stands taken c d l =
    let n = length net.links in
    let phases : st.phases ≡ map (λ l. 0) (link_numbers net) = numbers_by_all (λ l. 0) st.phases n on.phases (λ l h k. at_in (λ l. entry st.phases l ≡ received_by (opening net) l % net.shares) l (link_numbers net) (has_numbers n l (h, k)) stands.phases ∙ ap (λ r. r % net.shares) (numbered (λ l. 0) n l (has_numbers n l (h, k))) ∙ zero-mod net.shares) in
    let levels : st.levels ≡ map (λ l. 0) (link_numbers net) = numbers_by_all (λ l. 0) st.levels n on.levels (λ l h k. at_in (λ l. entry st.levels l ≡ 0) l (link_numbers net) (has_numbers n l (h, k)) taken.levels) in
    let none : decided ≡ map (λ j. None) net.junctions = d ∙ none_each net.junctions (length net.junctions) refl in
    let queues = stands.queues in
    let period = stands.period in
    let entered = stands.total_in in
    let departed = stands.total_out in
    cc

pub places_opening : (net : Network) (copies : List (List (Option Copy))) → copies ≡ map (λ j. map (λ l. None) (targets net j)) net.junctions → HasPlaces net copies
places_opening net copies e = ap (map (λ row. length row)) e ∙ go net.junctions
  where
    go : (js : List Junction) → map (λ row. length row) (map (λ j. map (λ l. let none : Option Copy = None in none) (targets net j)) js) ≡ map (λ j. length (targets net j)) js
    go [] = refl
    go (j ∷ js) = ap₂ ◌∷◌ (length-map (targets net j) (λ l. None)) (go js)
