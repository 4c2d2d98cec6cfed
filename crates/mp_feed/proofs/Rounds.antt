-- A table of one round gives the split of any number of vehicles.
use Rattle.std.proofs.Common.{◌≡◌, ◌==◌, ◌≤◌, ◌<◌, ℕ, zero, suc, ◌+◌, ◌*◌, ◌/◌, ◌%◌, Bool, true, false, cond, List, [], ◌∷◌, ◌++◌, length, get_or, sum, sum_by, slice_index, ℤ, ◌<ℤ◌, ◌≤ℤ◌, int_lt, arith, refl, sym, ◌∙◌, ap, ap₂, add-one, eq-eqb, ne_eqb, subst, set, mul-le-mul, ◌⊎◌, inl, inr, ⊎_elim, le_refl, ◌^◌, mod-lt}
use Rattle.std.proofs.lemmas.Bool.{cases_lt}
use Rattle.std.specs.List.{range_with_len, AllByRecursion, best_of, All}
use Rattle.std.proofs.lemmas.Int.{ints}
use Rattle.std.proofs.lemmas.Nat.{div-add-mod'}
use Rattle.std.proofs.lemmas.List.Sums.{fold_push}
use Rattle.std.proofs.lemmas.List.{get_or_at, get_or_append_left, get_or-append-add, length-append, append_assoc}
use Rattle.std.proofs.lemmas.List.Sums.{sum_by-cons, get_or-le-sum_by}
use Rattle.std.proofs.lemmas.Grind.{common_steps}
use borrow.Author.Differences.{true_is_lt, false_is_lt}
use Rattle.mp_model.specs.Split.{first_greatest, credit_of}
use Rattle.mp_laws.proofs.Credits.{again, some_length}
use Rattle.mp_laws.proofs.Distinct.{range_distinct}
use Rattle.mp_feed.specs.Counts.{counts, joins, gained, places_of, AreJoined, IsTable}
use Rattle.mp_laws.proofs.Lists.{AllOf-map, in_range, at_range}
use Rattle.mp_laws.proofs.FirstGreatest.{first_in, first_agree}

range_more : (a n b : ℕ) → a + n ≡ b → range_with_len a (suc n) ≡ range_with_len a n ++ b ∷ []
range_more a zero b e = let s : a ≡ b = omega arith in ap (λ x. x ∷ []) s
range_more a (suc n) b e = ap (λ xs. a ∷ xs) (range_more (a + 1) n b (omega arith))

-- one more key of a loop for the greatest
pub greatest_more : (key : ℕ → ℤ) (i best : ℕ) → 0 < i → best ≡ first_greatest key (range_with_len 0 i) → first_greatest key (range_with_len 0 (i + 1)) ≡ cond (int_lt (key best) (key i)) i best
greatest_more key zero best h e = absurd (omega arith)
greatest_more key (suc n) best h e =
    rw (add-one (suc n)) (ap (λ xs. best_of (λ x b. int_lt (key b) (key x)) 0 xs) (range_more 1 n (suc n) (omega arith))
    ∙ fold_push (λ b x. cond (int_lt (key b) (key x)) x b) 0 (range_with_len 1 n) (suc n)
    ∙ ap (λ b. cond (int_lt (key b) (key (suc n))) (suc n) b) (sym e))

pub takes : (key : ℕ → ℤ) (i best : ℕ) → 0 < i → best ≡ first_greatest key (range_with_len 0 i) → key best <ℤ key i → i ≡ first_greatest key (range_with_len 0 (i + 1))
takes key i best h e lt = let t : int_lt (key best) (key i) ≡ true = sym (true_is_lt (key best) (key i) (omega (arith, ints))) in sym (greatest_more key i best h e ∙ ap (λ b. cond b i best) t)

pub keeps : (key : ℕ → ℤ) (i best : ℕ) → 0 < i → best ≡ first_greatest key (range_with_len 0 i) → key i ≤ℤ key best → best ≡ first_greatest key (range_with_len 0 (i + 1))
keeps key i best h e le = let t : int_lt (key best) (key i) ≡ false = sym (false_is_lt (key best) (key i) (omega (arith, ints))) in sym (greatest_more key i best h e ∙ ap (λ b. cond b i best) t)

-- a sum by places is the sum of the list
places_sum : (front xs : List ℕ) (n : ℕ) → n ≡ length front → sum_by (slice_index (front ++ xs)) (range_with_len n (length xs)) ≡ sum xs
places_sum front [] n e = refl
places_sum front (x ∷ xs) n e =
    let here : get_or (front ++ x ∷ xs) n 0 ≡ x = get_or_at front x xs 0 n (sym e) in
    let size : n + 1 ≡ length (front ++ x ∷ []) = omega (arith, length-append front (x ∷ [])) in
    let rest = subst (λ ys. sum_by (slice_index ys) (range_with_len (n + 1) (length xs)) ≡ sum xs) (append_assoc front (x ∷ []) xs) (places_sum (front ++ x ∷ []) xs (n + 1) size) in
    sum_by-cons (slice_index (front ++ x ∷ xs)) n (range_with_len (n + 1) (length xs)) ∙ ap₂ ◌+◌ here rest ∙ sym (sum_by-cons (λ y. y) x xs)

pub sum_places : (xs : List ℕ) → sum_by (slice_index xs) (places_of xs) ≡ sum xs
sum_places xs = places_sum [] xs 0 refl

module _ (shares : List ℕ) (some : 1 ≤ sum shares) where
  few : 1 ≤ length (places_of shares)
  few = some_length (slice_index shares) (places_of shares) (omega (arith, sum_places shares))

  -- the next vehicle joins one of the shares
  pub joins_within : (n : ℕ) → joins shares n < length shares
  joins_within n =
      let i = in_range 0 (length shares) (joins shares n) (first_in (λ i. credit_of (sum shares) (slice_index shares i) (suc n) (counts shares n i)) (places_of shares) few) in
      omega (arith, i)

  -- after m whole rounds the counts grow as at the start
  pub rounds : (m r i : ℕ) → i < length shares → counts shares (m * sum shares + r) i ≡ slice_index shares i * m + counts shares r i
  rounds m r i h = at_range (λ i. counts shares (m * sum shares + r) i ≡ slice_index shares i * m + counts shares r i) 0 (length shares) i (omega arith) (omega arith)
      (again (sum shares) (slice_index shares) (places_of shares) (sum_places shares) some (range_distinct 0 (length shares)) m r)

  key_step : (total m w r s u : ℕ) → s ≡ w * m + u → credit_of total w (suc (m * total + r)) s ≡ credit_of total w (suc r) u
  key_step total m w r s u e = omega (arith, ints, ap (λ t. total * t) e)

  -- and the share that is joined goes by the phase
  pub joins_again : (m r : ℕ) → joins shares (m * sum shares + r) ≡ joins shares r
  joins_again m r = first_agree _ _ (places_of shares)
      (AllOf-map (λ i. counts shares (m * sum shares + r) i ≡ slice_index shares i * m + counts shares r i) (λ i. credit_of (sum shares) (slice_index shares i) (suc (m * sum shares + r)) (counts shares (m * sum shares + r) i) ≡ credit_of (sum shares) (slice_index shares i) (suc r) (counts shares r i))
      (λ i e. key_step (sum shares) m (slice_index shares i) r (counts shares (m * sum shares + r) i) (counts shares r i) e) (places_of shares)
      (again (sum shares) (slice_index shares) (places_of shares) (sum_places shares) some (range_distinct 0 (length shares)) m r))

  pub joins_phase : (n : ℕ) → joins shares n ≡ joins shares (n % sum shares)
  joins_phase n = ap (joins shares) (sym (div-add-mod' n (sum shares))) ∙ joins_again (n / sum shares) (n % sum shares)

-- one more vehicle
pub counts_more : (shares : List ℕ) (n i : ℕ) → counts shares (n + 1) i ≡ counts shares n i + cond (joins shares n == i) 1 0
counts_more shares n i = ap (λ t. counts shares t i) (add-one n)

same_or_not : (a b : ℕ) → (a ≡ b) ⊎ (a ≡ b → ⊥)
same_or_not a b = ⊎_elim (λ (l : a < b). inr (λ e. omega arith)) (λ (g : b ≤ a). ⊎_elim (λ (l : b < a). inr (λ e. omega arith)) (λ (g' : a ≤ b). inl (omega arith)) (cases_lt b a)) (cases_lt a b)

all_range : (P : ℕ → Type 0) (a n : ℕ) → ((x : ℕ) → a ≤ x → x < a + n → P x) → AllByRecursion P (range_with_len a n)
all_range P a zero each = tt
all_range P a (suc n) each = (each a (omega arith) (omega arith), all_range P (a + 1) n (λ x h l. each x (omega arith) (omega arith)))

-- the code's search finds the share that joins
pub joins_from : (shares cs : List ℕ) (total n : ℕ) → total ≡ sum shares → ((k : ℕ) → k < length shares → slice_index cs k ≡ counts shares n k) →
    first_greatest (λ i. credit_of total (slice_index shares i) (n + 1) (slice_index cs i)) (places_of shares) ≡ joins shares n
joins_from shares cs total n e each = first_agree _ _ (places_of shares)
    (all_range (λ i. credit_of total (slice_index shares i) (n + 1) (slice_index cs i) ≡ credit_of (sum shares) (slice_index shares i) (suc n) (counts shares n i)) 0 (length shares)
    (λ i h l. ap₂ (λ t m. credit_of t (slice_index shares i) m (slice_index cs i)) e (add-one n) ∙ ap (credit_of (sum shares) (slice_index shares i) (suc n)) (each i (omega arith))))

pub counts_here : (shares : List ℕ) (n i c : ℕ) → joins shares n ≡ i → c ≡ counts shares n i → c + 1 ≡ counts shares (n + 1) i
counts_here shares n i c j e = let t : cond {A = ℕ} (joins shares n == i) 1 0 ≡ 1 = ap {B = ℕ} (λ b. cond b 1 0) (eq-eqb (joins shares n) i j) in omega (arith, counts_more shares n i)

pub counts_other : (shares : List ℕ) (n i c : ℕ) → (joins shares n ≡ i → ⊥) → c ≡ counts shares n i → c ≡ counts shares (n + 1) i
counts_other shares n i c j e = let t : cond {A = ℕ} (joins shares n == i) 1 0 ≡ 0 = ap {B = ℕ} (λ b. cond b 1 0) (ne_eqb (joins shares n) i j) in omega (arith, counts_more shares n i)

-- a count at the place rises
pub counts_set : (shares cs : List ℕ) (n place v : ℕ) → length cs ≡ length shares → place < length shares → place ≡ joins shares n → v ≡ get_or cs place 0 → ((k : ℕ) → k < length shares → slice_index cs k ≡ counts shares n k) →
    (k : ℕ) → k < length shares → slice_index (set cs place (v + 1)) k ≡ counts shares (n + 1) k
counts_set shares cs n place v size within is read each k h = ⊎_elim
    (λ (e : place ≡ k). let s : slice_index (set cs place (v + 1)) k ≡ v + 1 = grind (arith, common_steps) in
    s ∙ counts_here shares n k v (sym is ∙ e) (read ∙ ap (slice_index cs) e ∙ each k h))
    (λ (d : place ≡ k → ⊥). let s : slice_index (set cs place (v + 1)) k ≡ slice_index cs k = grind (arith, common_steps) in
    s ∙ counts_other shares n k (slice_index cs k) (λ e. d (is ∙ e)) (each k h))
    (same_or_not place k)

pub few_set : (cs : List ℕ) (n m place v : ℕ) → length cs ≡ m → v ≡ get_or cs place 0 → place < m → ((k : ℕ) → k < m → slice_index cs k ≤ n) → (k : ℕ) → k < m → slice_index (set cs place (v + 1)) k ≤ n + 1
few_set cs n m place v size read within each k h = ⊎_elim
    (λ (e : place ≡ k). let s : slice_index (set cs place (v + 1)) k ≡ v + 1 = grind (arith, common_steps) in omega (arith, each place within))
    (λ (d : place ≡ k → ⊥). let s : slice_index (set cs place (v + 1)) k ≡ slice_index cs k = grind (arith, common_steps) in omega (arith, each k h))
    (same_or_not place k)

-- the counts of one number of vehicles more
rows_in : (m n w : ℕ) → m < n → m * w + w ≤ n * w
rows_in m n w h = omega (arith, mul-le-mul h (le_refl w))

pub rows_more : (shares joined cs : List ℕ) (n : ℕ) → AreJoined shares n joined → length cs ≡ length shares → ((k : ℕ) → k < length shares → slice_index cs k ≡ counts shares n k) → AreJoined shares (n + 1) (joined ++ cs)
rows_more shares joined cs n rows size each = record {
  size = omega (arith, length-append joined cs, rows.size, size);
  each = λ m i h l. ⊎_elim
      (λ (lt : m < n). get_or_append_left joined cs 0 (m * length shares + i) (omega (arith, rows_in m n (length shares) lt, rows.size)) ∙ rows.each m i lt l)
      (λ (ge : n ≤ m).
      let e : m ≡ n = omega arith in
      let at : m * length shares + i ≡ length joined + i = omega (arith, ap (λ t. t * length shares) e, rows.size) in
      ap (λ t. get_or (joined ++ cs) t 0) at ∙ get_or-append-add joined cs i 0 ∙ each i l ∙ ap (λ t. counts shares t i) (sym e))
      (cases_lt m n);
}

-- a row lies within the counts
pub row_within : (shares joined : List ℕ) (total n : ℕ) → AreJoined shares total joined → n < total → n * length shares + length shares ≤ length joined
row_within shares joined total n rows h = omega (arith, rows_in n total (length shares) h, rows.size)

-- what a number of vehicles adds, by whole rounds and the rest
pub rounds_rest : (shares : List ℕ) → 1 ≤ sum shares → (total n i : ℕ) → sum shares ≡ total → i < length shares → slice_index shares i * (n / total) + counts shares (n % total) i ≡ counts shares n i
rounds_rest shares some total n i e h =
    let r = rounds shares some (n / total) (n % total) i h in
    let s : n / total * sum shares + n % total ≡ n = omega (arith, ap (λ t. n / total * t) e, div-add-mod' n total) in
    sym r ∙ ap (λ t. counts shares t i) s

-- counts only rise
counts_rise : (shares : List ℕ) (n m i : ℕ) → counts shares n i ≤ counts shares (n + m) i
counts_rise shares n zero i = let e : n + 0 ≡ n = omega arith in omega (arith, ap (λ t. counts shares t i) e)
counts_rise shares n (suc m) i = omega (arith, counts_rise shares n m i, counts_more shares (n + m) i, ap (λ t. counts shares t i) (turn n m))
  where
    turn : (n m : ℕ) → n + m + 1 ≡ n + suc m
    turn n m = omega arith

-- the shares of the rounds with the later count are at least the earlier count, and exceed it by what was gained
module _ (shares joined : List ℕ) (total phase n whole rest : ℕ) (table : IsTable shares total joined) (h : phase < total) (ew : whole ≡ (phase + n) / total) (er : rest ≡ (phase + n) % total) where
  before_in : (i : ℕ) → i < length shares → slice_index joined (phase * length shares + i) ≡ counts shares phase i
  before_in i l = table.table.each phase i h l

  after_in : (i : ℕ) → i < length shares → slice_index shares i * whole + slice_index joined (rest * length shares + i) ≡ counts shares (phase + n) i
  after_in i l =
      let some : 1 ≤ sum shares = omega (arith, table.sums, table.some) in
      let at : slice_index joined (rest * length shares + i) ≡ counts shares ((phase + n) % total) i = table.table.each rest i (let m = mod-lt (phase + n) table.some in omega (arith, er)) l ∙ ap (λ r. counts shares r i) er in
      let turns : slice_index shares i * whole ≡ slice_index shares i * ((phase + n) / total) = ap (λ w. slice_index shares i * w) ew in
      omega (arith, at, turns, rounds_rest shares some total (phase + n) i table.sums l)

  pub gain_within : (i e l : ℕ) → i < length shares → e ≡ slice_index joined (phase * length shares + i) → l ≡ slice_index joined (rest * length shares + i) → e ≤ slice_index shares i * whole + l
  gain_within i e l k ee el = omega (arith, ee, el, before_in i k, after_in i k, counts_rise shares phase n i)

  pub gain_is : (i g e l : ℕ) → i < length shares → e ≡ slice_index joined (phase * length shares + i) → l ≡ slice_index joined (rest * length shares + i) → g + e ≡ slice_index shares i * whole + l → g ≡ gained shares phase n i
  gain_is i g e l k ee el is = omega (arith, is, ee, el, before_in i k, after_in i k)

pub counts_few : (shares : List ℕ) (n i : ℕ) → counts shares n i ≤ n
counts_few shares zero i = omega arith
counts_few shares (suc n) i = omega (arith, counts_few shares n i, cond_few (joins shares n == i))
  where
    cond_few : (b : Bool) → cond {A = ℕ} b 1 0 ≤ 1
    cond_few true = omega arith
    cond_few false = omega arith

pub beats_key : (W n w o c oc : ℕ) → o * n + W * c < w * n + W * oc → credit_of W o n oc <ℤ credit_of W w n c
beats_key W n w o c oc h = omega (arith, ints)

pub keeps_key : (W n w o c oc : ℕ) → w * n + W * oc ≤ o * n + W * c → credit_of W w n c ≤ℤ credit_of W o n oc
keeps_key W n w o c oc h = omega (arith, ints)

pub length-le-sum : (xs : List ℕ) → AllByRecursion (λ w. 1 ≤ w) xs → length xs ≤ sum xs
length-le-sum [] h = omega arith
length-le-sum (x ∷ xs) h = omega (arith, sum_by-cons (λ y. y) x xs, length-le-sum xs h.1, h.0)

pub each_few : (xs : List ℕ) → sum xs ≤ 1000 → All (λ w. w ≤ 1000) xs
each_few xs h i d l = omega (arith, get_or-le-sum_by (λ y. y) xs i d l)

pub few_rounds : (phase n total : ℕ) → 1 ≤ total → phase < 1000 → n ≤ 2 ^ 32 → (phase + n) / total ≤ 2 ^ 33
few_rounds phase n total h p k = omega (arith, mul-le-mul h (le_refl ((phase + n) / total)), div-add-mod' (phase + n) total)

pub share_few : (w m : ℕ) → w ≤ 1000 → m ≤ 2 ^ 33 → w * m ≤ 1000 * 2 ^ 33
share_few w m h k = mul-le-mul h k
