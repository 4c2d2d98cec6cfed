-- What a period does at a link.
use Rattle.std.proofs.Common.{◌≡◌, ◌==◌, ◌≤◌, ◌<◌, ℕ, zero, suc, ◌+◌, ◌-◌, ◌%◌, ◌^◌, ◌&&◌, Bool, true, false, cond, min, List, [], ◌∷◌, length, get_or, set, drop, map, sum, sum_by, slice_index, None, Some, nat_lt, arith, refl, sym, ◌∙◌, ap, ap₂, eqb-true, eq-eqb, ne_eqb, add-one, drop-cons, ⊎_elim, not}
use Rattle.std.specs.List.{AllByRecursion, IsDistinct, All, range_with_len, position, position_or_len}
use Rattle.std.proofs.Math.Nat.{mod-eq_of_lt}
use Rattle.std.proofs.lemmas.Bool.{cases_lt, false≢true, ltb-false}
use Rattle.std.proofs.lemmas.List.{length-map, get_or-map}
use Rattle.std.proofs.lemmas.List.Sums.{sum-map}
use Rattle.std.proofs.lemmas.List.FromFn.{fill_by_all, length-range_with_len, get_or-map-range_with_len}
use Rattle.std.proofs.lemmas.List.Elements.{All-from_recursion}
use Rattle.mp_laws.proofs.Lists.{eqb-turn}
use Rattle.mp_laws.proofs.Lists.{filter_sub}
use Rattle.mp_laws.proofs.FirstGreatest.{first_agree}
use Rattle.mp_laws.proofs.Credits.{some_length}
use Rattle.mp_laws.proofs.Distinct.{range_distinct, distinct_filter}
use Rattle.mp_laws.proofs.Lists.{each_in, at_in, all_in, has_filter}
use Rattle.mp_laws.proofs.Lists.{at_range, in_range}
use Rattle.mp_laws.proofs.Lists.{filter_has}
use Rattle.mp_laws.proofs.Places.{split-map}
use Rattle.mp_model.specs.Arrivals.{count_in, arrivals_of}
use Rattle.mp_model.specs.Network.{Network, has, numbers_to, movement_numbers, from_of, share_of, flow_of, out_of, fed, entry}
use Rattle.mp_model.specs.NetworkRules.{IsNetwork}
use Rattle.mp_model.specs.Pressure.{positive_weight}
use Rattle.mp_model.specs.Split.{split_counts, credit_of, first_greatest}
use Rattle.mp_model.specs.Step.{passed, joined, has_green}
use Rattle.mp_press.proofs.Among.{absent_at, count_few}
use Rattle.mp_press.proofs.Known.{has_numbers}
use Rattle.mp_press.specs.Written.{written, IsAmong}
use Rattle.mp_step.specs.OpenStep.{flag, passed_open}
use Rattle.mp_step.specs.Settled.{settled}
use Rattle.mp_step.specs.Standing.{served, shares_in}
use Rattle.mp_feed.specs.Counts.{counts, gained, places_of}

pub map_each : (P : ℕ → Type 0) (f : ℕ → ℕ) (xs : List ℕ) → AllByRecursion (λ x. P (f x)) xs → AllByRecursion P (map f xs)
map_each P f [] h = tt
map_each P f (x ∷ xs) h = (h.0, map_each P f xs h.1)

pub cond-few : (b : Bool) (x m : ℕ) → x ≤ m → cond b x 0 ≤ m
cond-few true x m h = h
cond-few false x m h = omega arith

pub passed_few : (net : Network) (stages : List ℕ) (q : ℕ → ℕ) (k : ℕ) → flow_of net k ≤ 1000 → passed net stages q k ≤ 1000
passed_few net stages q k h = cond-few (has_green net stages k && nat_lt 0 (positive_weight net q k)) (min (flow_of net k) (q k)) 1000 (omega arith)

pub open_few : (net : Network) (passing : List Bool) (q : ℕ → ℕ) (k : ℕ) → flow_of net k ≤ 1000 → passed_open net passing q k ≤ 1000
open_few net passing q k h = cond-few (flag passing k) (min (flow_of net k) (q k)) 1000 (omega arith)

-- where none is queued, none passes
cond-none : (b : Bool) (x : ℕ) → x ≡ 0 → cond b x 0 ≡ 0
cond-none true x e = e
cond-none false x e = refl

pub none_served : (net : Network) (q : ℕ → ℕ) (k : ℕ) → q k ≡ 0 → served net q k ≡ 0
none_served net q k e = cond-none (nat_lt 0 (positive_weight net q k)) (min (flow_of net k) (q k)) (omega arith)

-- an arrival by its link's place among the fed ones
pub count_at : (fs cs : List ℕ) (l : ℕ) → length cs ≡ length fs → count_in fs cs l ≡ get_or cs (position_or_len (λ f. f == l) fs) 0
count_at [] [] l e = refl
count_at [] (c ∷ cs) l e = absurd (omega arith)
count_at (f ∷ fs) [] l e = absurd (omega arith)
count_at (f ∷ fs) (c ∷ cs) l e = go (f == l) (count_at fs cs l (omega arith))
  where
    go : (b : Bool) → count_in fs cs l ≡ get_or cs (position_or_len (λ f. f == l) fs) 0 → cond b c (count_in fs cs l) ≡ get_or (c ∷ cs) (cond (not b) (1 + position_or_len (λ f. f == l) fs) 0) 0
    go true h = refl
    go false h = let one : suc (position_or_len (λ f. f == l) fs) ≡ 1 + position_or_len (λ f. f == l) fs = omega arith in h ∙ ap (λ t. get_or (c ∷ cs) t 0) one

pub place_some : (p : ℕ → Bool) (xs : List ℕ) (i : ℕ) → position p xs ≡ Some i → position_or_len p xs ≡ i
place_some p xs i e = go (nat_lt (position_or_len p xs) (length xs)) e
  where
    go : (b : Bool) → cond b (Some (position_or_len p xs)) None ≡ Some i → position_or_len p xs ≡ i
    go true e = cc
    go false e = cc

past_end : (xs : List ℕ) (n : ℕ) → length xs ≤ n → let z : ℕ = 0 in get_or xs n z ≡ z
past_end [] n h = refl
past_end (x ∷ xs) zero h = absurd (omega arith)
past_end (x ∷ xs) (suc n) h = past_end xs n (omega arith)

pub place_none : (p : ℕ → Bool) (fs cs : List ℕ) → length cs ≡ length fs → position p fs ≡ None → let z : ℕ = 0 in get_or cs (position_or_len p fs) z ≡ z
place_none p fs cs size e = go (nat_lt (position_or_len p fs) (length fs)) refl e
  where
    go : (b : Bool) → nat_lt (position_or_len p fs) (length fs) ≡ b → cond b (Some (position_or_len p fs)) None ≡ None → let z : ℕ = 0 in get_or cs (position_or_len p fs) z ≡ z
    go true t e = cc
    go false t e = past_end cs (position_or_len p fs) (omega (arith, ltb-false (position_or_len p fs) (length fs) t))

pub settled_more : (q y ks parts xs : List ℕ) (i k : ℕ) → i < length ks → i < length parts → k ≡ get_or ks i 0 → (v : ℕ) → v ≡ entry q k - entry y k + get_or parts i 0 →
    settled q y (drop i ks) (drop i parts) xs ≡ settled q y (drop (i + 1) ks) (drop (i + 1) parts) (set xs (k - 1) v)
settled_more q y ks parts xs i k h l e v is =
    ap₂ (λ s t. settled q y s t xs) (drop-cons ks i 0 h ∙ ap (λ t. get_or ks i 0 ∷ drop t ks) (sym (add-one i))) (drop-cons parts i 0 l ∙ ap (λ t. get_or parts i 0 ∷ drop t parts) (sym (add-one i)))
    ∙ ap (λ t. settled q y (drop (i + 1) ks) (drop (i + 1) parts) (set xs (t - 1) (entry q t - entry y t + get_or parts i 0))) (sym e)
    ∙ ap (λ t. settled q y (drop (i + 1) ks) (drop (i + 1) parts) (set xs (k - 1) t)) (sym is)

pub settled-map : (q y : List ℕ) (g : ℕ → ℕ) (ks xs : List ℕ) → settled q y ks (map g ks) xs ≡ written (λ k. entry q k - entry y k + g k) ks xs
settled-map q y g [] xs = refl
settled-map q y g (k ∷ ks) xs = settled-map q y g ks (set xs (k - 1) (entry q k - entry y k + g k))

-- the arrivals on a link have at most 9 digits
pub came_few : (net : Network) (counts : List ℕ) (l : ℕ) → All (λ a. a < 10 ^ 9) counts → arrivals_of net counts l < 10 ^ 9
came_few net counts l h = let few = count_few (fed net) counts l (10 ^ 9 - 1) (λ i d lt. let one = h i d lt in omega arith) in omega arith

-- shares that agree at the elements give the same split
split_agree : (total : ℕ) (w v : ℕ → ℕ) (ks : List ℕ) → AllByRecursion (λ k. w k ≡ v k) ks → (n : ℕ) → AllByRecursion (λ k. split_counts total w ks n k ≡ split_counts total v ks n k) ks
split_agree total w v ks same zero = each_in _ ks (λ k h. refl)
split_agree total w v ks same (suc n) =
    let s = split_counts total w ks n in
    let t = split_counts total v ks n in
    let before = split_agree total w v ks same n in
    let joins : first_greatest (λ k. credit_of total (w k) (suc n) (s k)) ks ≡ first_greatest (λ k. credit_of total (v k) (suc n) (t k)) ks =
    first_agree _ _ ks (each_in _ ks (λ k h. ap₂ (λ a b. credit_of total a (suc n) b) (at_in (λ k. w k ≡ v k) k ks h same) (at_in (λ k. s k ≡ t k) k ks h before))) in
    each_in _ ks (λ k h. ap₂ ◌+◌ (at_in (λ k. s k ≡ t k) k ks h before) (ap {B = ℕ} (λ (j : ℕ). cond (j == k) 1 0) joins))

apart_at : (xs : List ℕ) → IsDistinct ◌==◌ xs → (i j : ℕ) → i < j → j < length xs → get_or xs i 0 ≡ get_or xs j 0 → ⊥
unfolding IsDistinct
apart_at [] d i j h l e = omega arith
apart_at (x ∷ xs) d i zero h l e = omega arith
apart_at (x ∷ xs) d zero (suc j) h l e = false≢true (sym (absent_at x xs j (omega arith) d.0) ∙ eq-eqb x (get_or xs j 0) e)
apart_at (x ∷ xs) d (suc i) (suc j) h l e = apart_at xs d.1 i j (omega arith) (omega arith) e

apart_test : (xs : List ℕ) → IsDistinct ◌==◌ xs → (i j : ℕ) → i < length xs → j < length xs → (get_or xs i 0 == get_or xs j 0) ≡ (i == j)
apart_test xs d i j h l = ⊎_elim (λ (lt : i < j). ne_eqb _ _ (λ e. apart_at xs d i j lt l e) ∙ sym (ne_eqb i j (λ e. omega arith)))
    (λ (ge : j ≤ i). ⊎_elim (λ (lt : j < i). ne_eqb _ _ (λ e. apart_at xs d j i lt h (sym e)) ∙ sym (ne_eqb i j (λ e. omega arith)))
    (λ (le : i ≤ j). let same : i ≡ j = omega arith in eq-eqb _ _ (ap (λ t. get_or xs t 0) same) ∙ sym (eq-eqb i j same)) (cases_lt j i)) (cases_lt i j)

pub in_places : (n i : ℕ) → has (range_with_len 0 n) i ≡ true → i < n
in_places n i h = let r = in_range 0 n i (eqb-turn i (range_with_len 0 n) h) in omega (arith, r)

get_or-mapped : (g : ℕ → ℕ) (xs : List ℕ) (i : ℕ) → i < length xs → get_or (map g xs) i 0 ≡ g (get_or xs i 0)
get_or-mapped g [] i h = absurd (omega arith)
get_or-mapped g (x ∷ xs) zero h = refl
get_or-mapped g (x ∷ xs) (suc i) h = get_or-mapped g xs i (omega arith)

module _ (net : Network) (ok : IsNetwork net) (l : ℕ) (known : IsAmong (length net.links) l) where
  sums : sum_by (share_of net) (out_of net l) ≡ net.shares
  sums = at_range (λ l. sum_by (share_of net) (out_of net l) ≡ net.shares) 1 (length net.links) l known.0 (omega arith) ok.split

  pub sum_shares : sum (shares_in net l) ≡ net.shares
  sum_shares = sum-map (share_of net) (out_of net l) ∙ sums

  -- what a splitter asks of them
  pub shares_some : 1 ≤ length (shares_in net l)
  shares_some = omega (arith, length-map (out_of net l) (share_of net), some_length (share_of net) (out_of net l) (omega (arith, sums, ok.shares)))

  pub shares_each : All (λ w. 1 ≤ w) (shares_in net l)
  shares_each = All-from_recursion (λ w. 1 ≤ w) (shares_in net l)
      (map_each (λ w. 1 ≤ w) (share_of net) (out_of net l) (each_in (λ k. 1 ≤ share_of net k) (out_of net l) (λ k h. at_in (λ k. 1 ≤ share_of net k) k (movement_numbers net) (filter_sub (λ k. from_of net k == l) (movement_numbers net) k h) ok.share)))

  distinct : IsDistinct ◌==◌ (out_of net l)
  distinct = distinct_filter (λ k. from_of net k == l) (movement_numbers net) (range_distinct 1 _)

  -- a count by places is the count by numbers
  count_is : (n i : ℕ) → i < length (out_of net l) → counts (shares_in net l) n i ≡ joined net l n (get_or (out_of net l) i 0)
  count_is n i h =
      let ks = out_of net l in
      let d = length ks in
      let f : ℕ → ℕ = λ i. get_or ks i 0 in
      let places = range_with_len 0 d in
      let size : length (shares_in net l) ≡ d = length-map ks (share_of net) in
      let here : has places i ≡ true = at_range (λ k. has places k ≡ true) 0 d i (omega arith) (omega arith) (all_in places) in
      let named : map f places ≡ ks = sym (fill_by_all f ks d 0 refl (λ k t. refl)) in
      ap₂ (λ t m. split_counts t (slice_index (shares_in net l)) (range_with_len 0 m) n i) sum_shares size
      ∙ at_in (λ i. split_counts net.shares (slice_index (shares_in net l)) places n i ≡ split_counts net.shares (λ i. share_of net (f i)) places n i) i places here
      (split_agree net.shares (slice_index (shares_in net l)) (λ i. share_of net (f i)) places (each_in _ places (λ k t. get_or-mapped (share_of net) ks k (in_places d k t))) n)
      ∙ sym (at_in (λ i. split_counts net.shares (share_of net) (map f places) n (f i) ≡ split_counts net.shares (λ i. share_of net (f i)) places n i) i places here
      (split-map net.shares (share_of net) f places (omega (arith, length-range_with_len 0 d)) (λ a b s t. apart_test ks distinct a b (in_places d a s) (in_places d b t)) n))
      ∙ ap (λ t. split_counts net.shares (share_of net) t n (f i)) named

  pub parts_are : (shares : List ℕ) → shares ≡ shares_in net l → (phase r : ℕ) →
      map (gained shares phase r) (places_of shares) ≡ map (λ k. joined net l (phase + r) k - joined net l phase k) (out_of net l)
  parts_are shares e phase r =
      let ks = out_of net l in
      let g : ℕ → ℕ = λ k. joined net l (phase + r) k - joined net l phase k in
      ap (λ t. map (gained t phase r) (places_of t)) e
      ∙ ap (λ m. map (gained (shares_in net l) phase r) (range_with_len 0 m)) (length-map ks (share_of net))
      ∙ sym (fill_by_all (gained (shares_in net l) phase r) (map g ks) (length ks) 0 (length-map ks g)
      (λ i h. get_or-mapped g ks i h ∙ ap₂ ◌-◌ (sym (count_is (phase + r) i h)) (sym (count_is phase i h))))

-- a queue after its link was moved
pub entry_moved : (net : Network) (i k : ℕ) → IsAmong (length net.movements) k → from_of net k ≤ i + 1 → (new old here there : ℕ) →
    new ≡ cond (has (out_of net (i + 1)) k) here old → (from_of net k ≡ i + 1 → here ≡ there) → (from_of net k ≤ i → old ≡ there) → new ≡ there
entry_moved net i k known le new old here there is a b = is ∙ go (has (out_of net (i + 1)) k) refl
  where
    go : (t : Bool) → has (out_of net (i + 1)) k ≡ t → cond t here old ≡ there
    go true e = a (eqb-true (from_of net k) (i + 1) (filter_has (λ k. from_of net k == i + 1) (movement_numbers net) k e))
    go false e = b (⊎_elim (λ (lt : from_of net k < i + 1). omega arith)
        (λ (ge : i + 1 ≤ from_of net k). let same : from_of net k ≡ i + 1 = omega arith in absurd (false≢true (sym e ∙ has_filter (λ k. from_of net k == i + 1) k (movement_numbers net) (has_numbers (length net.movements) k known) (eq-eqb (from_of net k) (i + 1) same))))
        (cases_lt (from_of net k) (i + 1)))

-- a table with a row per link
pub rows_count : {X : Type 0} (of : X → List ℕ) (xs : List X) (f : ℕ → List ℕ) (n : ℕ) → map of xs ≡ map f (numbers_to n) → length xs ≡ n
rows_count of xs f n e = sym (length-map xs of) ∙ ap length e ∙ length-map (numbers_to n) f ∙ length-range_with_len 1 n

pub row_at : {X : Type 0} (of : X → List ℕ) (xs : List X) (f : ℕ → List ℕ) (n : ℕ) → map of xs ≡ map f (numbers_to n) → (i : ℕ) → i < n → (d : X) → of (get_or xs i d) ≡ f (i + 1)
row_at of xs f n e i h d =
    sym (get_or-map of xs i d [] (omega (arith, rows_count of xs f n e))) ∙ ap (λ t. get_or t i []) e ∙ get_or-map-range_with_len f 1 n i (i + 1) [] h (omega arith)

-- of a link that received nothing
pub written_same : (f g : ℕ → ℕ) (ks xs : List ℕ) → ((k : ℕ) → f k ≡ g k) → written f ks xs ≡ written g ks xs
written_same f g [] xs h = refl
written_same f g (k ∷ ks) xs h = ap (λ v. written f ks (set xs (k - 1) v)) (h k) ∙ written_same f g ks (set xs (k - 1) (g k)) h

pub carried : (net : Network) (l phase r : ℕ) (q y ks xs : List ℕ) → r ≡ 0 →
    written (λ k. entry q k - entry y k) ks xs ≡ written (λ k. entry q k - entry y k + (joined net l (phase + r) k - joined net l phase k)) ks xs
carried net l phase r q y ks xs e =
    let same : phase + r ≡ phase = omega arith in
    written_same (λ k. entry q k - entry y k) (λ k. entry q k - entry y k + (joined net l (phase + r) k - joined net l phase k)) ks xs (λ k. let none = ap (λ n. joined net l n k) same in omega arith)

pub phase_carried : (phase r w : ℕ) → phase < w → r ≡ 0 → phase ≡ (phase + r) % w
phase_carried phase r w h e = let same : phase + r ≡ phase = omega arith in sym (ap (λ n. n % w) same ∙ mod-eq_of_lt h)
