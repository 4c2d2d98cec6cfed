-- The least link above its bucket.
use Rattle.std.proofs.Common.{◌≡◌, ◌≤◌, ◌<◌, ℕ, zero, suc, ◌+◌, ◌-◌, ◌*◌, Bool, true, false, cond, List, [], ◌∷◌, length, None, Some, arith, refl, sym, ◌∙◌, ap, ap₂, get_or, zero-le, subst, filter, not, ◌⊎◌, inl, inr, ⊎_elim, map, replicate, drop, drop-cons, add-one, set}
use Rattle.std.specs.Prelude.{find, nat_le}
use Rattle.std.specs.List.{AllByRecursion, range_with_len}
use Rattle.std.proofs.lemmas.Bool.{cases_lt, false≢true, true≢false, or_left, lt-ltb, le-leb}
use Rattle.std.proofs.lemmas.Bool.Decides.{leb_tells}
use Rattle.std.proofs.lemmas.List.{length-map}
use Rattle.std.proofs.lemmas.List.FromFn.{get_or-map-range_with_len, length-range_with_len}
use Rattle.std.proofs.lemmas.List.Kept.{AllPairs-from_increasing}
use Rattle.mp_model.specs.Network.{Network, has, link_numbers, link_at, is_fed, fed, entry}
use Rattle.mp_model.specs.Arrivals.{arrivals_of, HasCounts, next_level}
use Rattle.mp_laws.proofs.Lists.{all_places, each_in, at_in, filter_has, find_none, has_filter}
use Rattle.mp_press.proofs.Among.{count_absent, count_here}
use Rattle.mp_press.proofs.Known.{all_known, has_numbers, kept_differ, kept_rise}
use Rattle.mp_press.proofs.Writes.{numbers_by_all}
use Rattle.mp_press.specs.Written.{IsAmong}
use Rattle.mp_feed.specs.Fill.{Fill}
use Rattle.mp_step.specs.BucketLevels.{level_then, is_above, first_above, bucket_of, buckets_of, AreWithin}

find_filter : (P q : ℕ → Bool) (xs : List ℕ) → AllByRecursion (λ x. P x ≡ true → q x ≡ true) xs → find P (filter q xs) ≡ find P xs
find_filter P q [] h = refl
find_filter P q (x ∷ xs) h = go (find_filter P q xs h.1) (q x) refl (P x) refl
  where
    go : find P (filter q xs) ≡ find P xs → (b : Bool) → q x ≡ b → (t : Bool) → P x ≡ t → find P (cond b (x ∷ filter q xs) (filter q xs)) ≡ cond t (Some x) (find P xs)
    go more true e t p = ap (λ t. cond t (Some x) (find P (filter q xs))) p ∙ ap (cond t (Some x)) more
    go more false e true p = absurd (false≢true (sym e ∙ h.0 p))
    go more false e false p = more

-- above or not, by numbers
pub above_yes : (x y : ℕ) → y < x → not (nat_le x y) ≡ true
above_yes x y h = go (leb_tells x y)
  where
    go : ((nat_le x y ≡ true) × (x ≤ y)) ⊎ ((nat_le x y ≡ false) × (y < x)) → not (nat_le x y) ≡ true
    go (inl t) = absurd (omega (arith, t.1))
    go (inr t) = ap not t.0

pub above_no : (x y : ℕ) → x ≤ y → not (nat_le x y) ≡ false
above_no x y h = ap not (le-leb x y h)

pub not_above : (x y : ℕ) → not (nat_le x y) ≡ false → x ≤ y
not_above x y h = go (leb_tells x y)
  where
    go : ((nat_le x y ≡ true) × (x ≤ y)) ⊎ ((nat_le x y ≡ false) × (y < x)) → x ≤ y
    go (inl t) = t.1
    go (inr t) = absurd (true≢false (sym (ap not t.0) ∙ h))

-- a link that is not fed stays at level 0
unfed_none : (net : Network) (level : ℕ → ℕ) (counts : List ℕ) (l : ℕ) → level l ≤ net.per * (link_at net l).burst → is_fed (link_at net l) ≡ false → has (fed net) l ≡ false → level_then net level counts l ≤ net.per * (link_at net l).burst
unfed_none net level counts l h e a =
    let b : (link_at net l).burst ≡ 0 = ⊎_elim (λ (t : 0 < (link_at net l).burst). absurd (false≢true (sym e ∙ or_left _ _ (lt-ltb 0 (link_at net l).burst t)))) (λ (t : (link_at net l).burst ≤ 0). omega arith) (cases_lt 0 (link_at net l).burst) in
    let none : arrivals_of net counts l ≡ 0 = count_absent (fed net) counts l a in
    let zero : level l ≤ 0 = omega (arith, ap (λ t. net.per * t) b) in
    omega (arith, ap (λ t. net.per * t) none)

-- the search among all links finds what the search among the fed ones finds
pub find_fed : (net : Network) (level : ℕ → ℕ) (counts : List ℕ) → AllByRecursion (λ l. level l ≤ net.per * (link_at net l).burst) (link_numbers net) →
    first_above net level counts ≡ find (is_above net level counts) (link_numbers net)
find_fed net level counts within = find_filter (is_above net level counts) (λ l. is_fed (link_at net l)) (link_numbers net)
    (each_in (λ l. is_above net level counts l ≡ true → is_fed (link_at net l) ≡ true) (link_numbers net) (λ l in' above.
    go l above (at_in (λ l. level l ≤ net.per * (link_at net l).burst) l (link_numbers net) in' within) (is_fed (link_at net l)) refl))
  where
    go : (l : ℕ) → is_above net level counts l ≡ true → level l ≤ net.per * (link_at net l).burst → (b : Bool) → is_fed (link_at net l) ≡ b → b ≡ true
    go l above low true e = refl
    go l above low false e = absurd (false≢true (sym (above_no (level_then net level counts l) (net.per * (link_at net l).burst) (unfed_none net level counts l low e (absent l (has (fed net) l) refl e))) ∙ above))
      where
        absent : (l : ℕ) (b : Bool) → has (fed net) l ≡ b → is_fed (link_at net l) ≡ false → has (fed net) l ≡ false
        absent l true h e = absurd (true≢false (sym (filter_has (λ l. is_fed (link_at net l)) (link_numbers net) l h) ∙ e))
        absent l false h e = h

-- where none is found, each next level is within
pub then_within : (net : Network) (level : ℕ → ℕ) (counts : List ℕ) → AllByRecursion (λ l. level l ≤ net.per * (link_at net l).burst) (link_numbers net) → first_above net level counts ≡ None →
    AllByRecursion (λ l. level_then net level counts l ≤ net.per * (link_at net l).burst) (link_numbers net)
then_within net level counts within none =
    let below = find_none (is_above net level counts) (link_numbers net) (sym (find_fed net level counts within) ∙ none) in
    each_in _ (link_numbers net) (λ l h. not_above (level_then net level counts l) (net.per * (link_at net l).burst) (at_in (λ l. is_above net level counts l ≡ false) l (link_numbers net) h below))

-- one fed link on
pub found_here : (p : ℕ → Bool) (xs : List ℕ) (i : ℕ) → i < length xs → p (get_or xs i 0) ≡ true → find p (drop i xs) ≡ Some (get_or xs i 0)
found_here p xs i h e = ap (find p) (drop-cons xs i 0 h) ∙ ap (λ b. cond b (Some (get_or xs i 0)) (find p (drop (suc i) xs))) e

pub found_later : (p : ℕ → Bool) (xs : List ℕ) (i : ℕ) → i < length xs → p (get_or xs i 0) ≡ false → find p (drop (i + 1) xs) ≡ find p (drop i xs)
found_later p xs i h e = ap (λ n. find p (drop n xs)) (add-one i) ∙ sym (ap (find p) (drop-cons xs i 0 h) ∙ ap (λ b. cond b (Some (get_or xs i 0)) (find p (drop (suc i) xs))) e)

-- the fed links
pub fed_known : (net : Network) (i : ℕ) → i < length (fed net) → IsAmong (length net.links) (get_or (fed net) i 0)
fed_known net i h = all_known (λ l. is_fed (link_at net l)) (length net.links) i 0 h

pub fed_differ : (net : Network) (i j : ℕ) → i < j → j < length (fed net) → get_or (fed net) i 0 ≡ get_or (fed net) j 0 → ⊥
fed_differ net i j h l e = let p = AllPairs-from_increasing (fed net) (kept_rise (λ l. is_fed (link_at net l)) (length net.links)) i j 0 h l in omega (arith, p)

pub fed_count : (net : Network) (counts : List ℕ) (i : ℕ) → HasCounts net counts → i < length (fed net) → get_or counts i 0 ≡ arrivals_of net counts (get_or (fed net) i 0)
fed_count net counts i size h = sym (count_here (fed net) counts (kept_differ (λ l. is_fed (link_at net l)) (length net.links)) size i h)

-- a level at its place
pub within_set : (fills : List Fill) (levels : List ℕ) (i v : ℕ) (fill : Fill) → AreWithin fills levels → i < length fills → fill ≡ get_or fills i fill → v ≤ fill.per * fill.burst → AreWithin fills (set levels i v)
within_set [] levels i v fill h lt is le = absurd (omega arith)
within_set (f ∷ fs) [] i v fill h lt is le = absurd h
within_set (f ∷ fs) (l ∷ ls) zero v fill h lt is le = (subst (λ (f : Fill). v ≤ f.per * f.burst) is le, h.1)
within_set (f ∷ fs) (l ∷ ls) (suc i) v fill h lt is le = (h.0, within_set fs ls i v fill h.1 (omega arith) is le)

-- a link that is not fed has an empty bucket
unfed_zero : (net : Network) (l : ℕ) → is_fed (link_at net l) ≡ false → (link_at net l).burst ≡ 0
unfed_zero net l e = ⊎_elim (λ (t : 0 < (link_at net l).burst). absurd (false≢true (sym e ∙ or_left _ _ (lt-ltb 0 (link_at net l).burst t)))) (λ (t : (link_at net l).burst ≤ 0). omega arith) (cases_lt 0 (link_at net l).burst)

-- the levels of a list of links are within their buckets
pub are_within : (net : Network) (f : ℕ → ℕ) (ls : List ℕ) → AllByRecursion (λ l. f l ≤ net.per * (link_at net l).burst) ls → AreWithin (map (bucket_of net) ls) (map f ls)
are_within net f [] h = tt
are_within net f (l ∷ ls) h = (h.0, are_within net f ls h.1)

-- at the opening all levels are 0
pub opening_within : (net : Network) (a n : ℕ) → AreWithin (map (bucket_of net) (range_with_len a n)) (replicate n 0)
opening_within net a zero = tt
opening_within net a (suc n) = (zero-le, opening_within net (a + 1) n)

-- the bucket at a place is that of the link with the next number
pub bucket_at : (net : Network) (fills : List Fill) → fills ≡ buckets_of net → (i n : ℕ) → n ≡ i → i < length net.links → (fill : Fill) → fill ≡ get_or fills n fill → fill ≡ bucket_of net (i + 1)
bucket_at net fills e i n at h fill is =
    is ∙ ap (λ n. get_or fills n fill) at ∙ ap (λ fs. get_or fs i fill) e ∙ get_or-map-range_with_len (bucket_of net) 1 (length net.links) i (i + 1) fill h (omega arith)

-- a link's bucket, at its place, and its level after a period
pub fed_bucket : (net : Network) (fills : List Fill) → fills ≡ buckets_of net → (l n : ℕ) → n ≡ l - 1 → IsAmong (length net.links) l → (fill : Fill) → fill ≡ get_or fills n fill → fill ≡ bucket_of net l
fed_bucket net fills e l n at known fill is =
    is ∙ ap (λ n. get_or fills n fill) at ∙ ap (λ fs. get_or fs (l - 1) fill) e ∙ get_or-map-range_with_len (bucket_of net) 1 (length net.links) (l - 1) l fill (omega (arith, known)) (omega (arith, known))

pub level_is : (net : Network) (levels counts : List ℕ) (l n came : ℕ) (fill : Fill) → fill ≡ bucket_of net l → n ≡ l - 1 → came ≡ arrivals_of net counts l →
    next_level fill.per fill.rate (get_or levels n 0) came ≡ level_then net (entry levels) counts l
level_is net levels counts l n came fill is at arrived =
    ap (λ (f : Fill). next_level f.per f.rate (get_or levels n 0) came) is ∙ ap₂ (λ n a. next_level net.per (link_at net l).rate (get_or levels n 0) a) at arrived

pub within_length : (fills : List Fill) (levels : List ℕ) → AreWithin fills levels → length fills ≡ length levels
within_length [] [] h = refl
within_length [] (l ∷ ls) h = absurd h
within_length (f ∷ fs) [] h = absurd h
within_length (f ∷ fs) (l ∷ ls) h = ap suc (within_length fs ls h.1)

pub within_at : (fills : List Fill) (levels : List ℕ) → AreWithin fills levels → (i : ℕ) → i < length levels → (fill : Fill) → fill ≡ get_or fills i fill → get_or levels i 0 ≤ fill.per * fill.burst
within_at [] [] h i lt fill is = absurd (omega arith)
within_at [] (l ∷ ls) h i lt fill is = absurd h
within_at (f ∷ fs) [] h i lt fill is = absurd h
within_at (f ∷ fs) (l ∷ ls) h zero lt fill is = subst (λ (f : Fill). l ≤ f.per * f.burst) (sym is) h.0
within_at (f ∷ fs) (l ∷ ls) h (suc i) lt fill is = within_at fs ls h.1 i (omega arith) fill is

-- the levels of the fed links make those of all links
pub levels_all : (net : Network) (fills : List Fill) (levels counts next : List ℕ) → fills ≡ buckets_of net → AllByRecursion (λ l. entry levels l ≤ net.per * (link_at net l).burst) (link_numbers net) → AreWithin fills next →
    ((j : ℕ) → j < length (fed net) → entry next (get_or (fed net) j 0) ≡ level_then net (entry levels) counts (get_or (fed net) j 0)) → next ≡ map (level_then net (entry levels) counts) (link_numbers net)
levels_all net fills levels counts next e within bound each =
    let n = length net.links in
    let size : length next ≡ n = sym (within_length fills next bound) ∙ ap length e ∙ length-map (link_numbers net) (bucket_of net) ∙ length-range_with_len 1 n in
    let seen = all_places (λ l. entry next l ≡ level_then net (entry levels) counts l) 0 (fed net) each in
    numbers_by_all (level_then net (entry levels) counts) next n size (λ l h k. go l h k (has (fed net) l) refl seen (omega (arith, size)))
  where
    go : (l : ℕ) → 1 ≤ l → l ≤ length net.links → (b : Bool) → has (fed net) l ≡ b → AllByRecursion (λ l. entry next l ≡ level_then net (entry levels) counts l) (fed net) → l ≤ length next → entry next l ≡ level_then net (entry levels) counts l
    go l h k true t seen few = at_in (λ l. entry next l ≡ level_then net (entry levels) counts l) l (fed net) t seen
    go l h k false t seen few =
        let there : has (link_numbers net) l ≡ true = has_numbers (length net.links) l (h, k) in
        let low = at_in (λ l. entry levels l ≤ net.per * (link_at net l).burst) l (link_numbers net) there within in
        let cold : is_fed (link_at net l) ≡ false = unfed (is_fed (link_at net l)) refl in
        let empty = unfed_zero net l cold in
        let none : net.per * (link_at net l).burst ≡ 0 = omega (arith, ap (λ t. net.per * t) empty) in
        let after = unfed_none net (entry levels) counts l low cold t in
        let fill : bucket_of net l ≡ get_or fills (l - 1) (bucket_of net l) = sym (ap (λ fs. get_or fs (l - 1) (bucket_of net l)) e ∙ get_or-map-range_with_len (bucket_of net) 1 (length net.links) (l - 1) l (bucket_of net l) (omega arith) (omega arith)) in
        let here = within_at fills next bound (l - 1) (omega arith) (bucket_of net l) fill in
        omega (arith, none, after, here)
      where
        unfed : (b : Bool) → is_fed (link_at net l) ≡ b → b ≡ false
        unfed true e = absurd (true≢false (sym (has_filter (λ l. is_fed (link_at net l)) l (link_numbers net) (has_numbers (length net.links) l (h, k)) e) ∙ t))
        unfed false e = refl
