-- Lists by their places: entries, distinct entries, and a test that one entry passes.
use Rattle.std.proofs.Common.{◌≡◌, ℕ, zero, suc, ◌+◌, ◌-◌, ◌≤◌, ◌<◌, Bool, true, false, cond, List, [], ◌∷◌, length, get_or, sum_by, refl, sym, ◌∙◌, ap, subst, inl, inr, arith}
use Rattle.std.specs.List.{AllByRecursion, IsDistinct, range_with_len}
use Rattle.std.proofs.lemmas.List.Sums.{sum_by-cons}
use Rattle.std.proofs.lemmas.Bool.{false≢true, cases_Bool}
use Rattle.mp_model.specs.Network.{Junction, has, stands_in, first_holder, no_junction}
use Rattle.mp_net.proofs.Entries.{all_at}
use Rattle.mp_net.proofs.Lists.{in_range, of_range}

-- ---- each entry

pub each_entry : {X : Type 0} (P : X → Type 0) (xs : List X) (d : X) → ((i : ℕ) → i < length xs → P (get_or xs i d)) → AllByRecursion P xs
each_entry P [] d each = tt
each_entry P (x ∷ xs) d each = (each 0 (omega arith), each_entry P xs d (λ i h. each (suc i) (omega arith)))

-- what holds of each number from 1 holds of each entry, and the other way round
pub entries_from_numbers : {X : Type 0} (P : X → Type 0) (xs : List X) (d : X) → ((k : ℕ) → has (range_with_len 1 (length xs)) k ≡ true → P (get_or xs (k - 1) d)) → AllByRecursion P xs
entries_from_numbers P xs d each =
    each_entry P xs d (λ i h. let e : i + 1 - 1 ≡ i = omega arith in subst (λ m. P (get_or xs m d)) e (each (i + 1) (of_range 1 (length xs) (i + 1) (omega arith) (omega arith))))

pub entry_at : {X : Type 0} (P : X → Type 0) (xs : List X) (d : X) (k : ℕ) → AllByRecursion P xs → has (range_with_len 1 (length xs)) k ≡ true → P (get_or xs (k - 1) d)
entry_at P xs d k all h = let r = in_range 1 (length xs) k h in all_at P xs (k - 1) d all (omega (arith, r.0, r.1))

-- ---- distinct entries

pub distinct_from_places : {X : Type 0} (e : X → X → Bool) (xs : List X) (d : X) → ((i j : ℕ) → i < j → j < length xs → e (get_or xs i d) (get_or xs j d) ≡ false) → IsDistinct e xs
unfolding IsDistinct
distinct_from_places e [] d apart = tt
distinct_from_places e (x ∷ xs) d apart =
    (each_entry (λ y. e x y ≡ false) xs d (λ i h. apart 0 (suc i) (omega arith) (omega arith)), distinct_from_places e xs d (λ i j below h. apart (suc i) (suc j) (omega arith) (omega arith)))

pub places_from_distinct : {X : Type 0} (e : X → X → Bool) (xs : List X) (d : X) (i j : ℕ) → IsDistinct e xs → i < j → j < length xs → e (get_or xs i d) (get_or xs j d) ≡ false
unfolding IsDistinct
places_from_distinct e [] d i j h below within = absurd (omega arith)
places_from_distinct e (x ∷ xs) d zero zero h below within = absurd (omega arith)
places_from_distinct e (x ∷ xs) d zero (suc j) h below within = all_at (λ y. e x y ≡ false) xs j d h.0 (omega arith)
places_from_distinct e (x ∷ xs) d (suc i) zero h below within = absurd (omega arith)
places_from_distinct e (x ∷ xs) d (suc i) (suc j) h below within = places_from_distinct e xs d i j h.1 (omega arith) (omega arith)

-- ---- how many pass

abbrev pub count_of : {X : Type 0} → (X → Bool) → List X → ℕ
count_of t xs = sum_by (λ x. cond {A = ℕ} (t x) 1 0) xs

count-cons : {X : Type 0} (t : X → Bool) (x : X) (xs : List X) → count_of t (x ∷ xs) ≡ cond {A = ℕ} (t x) 1 0 + count_of t xs
count-cons t x xs = sum_by-cons (λ y. cond {A = ℕ} (t y) 1 0) x xs

pub none_counted : {X : Type 0} (t : X → Bool) (xs : List X) (d : X) → ((i : ℕ) → i < length xs → t (get_or xs i d) ≡ false) → count_of t xs ≡ 0
none_counted t [] d none = refl
none_counted t (x ∷ xs) d none =
    let here : cond {A = ℕ} (t x) 1 0 ≡ 0 = ap (λ b. cond {A = ℕ} b 1 0) (none 0 (omega arith)) in
    omega (arith, count-cons t x xs, here, none_counted t xs d (λ i h. none (suc i) (omega arith)))

-- one that passes is counted
pub one_counted : {X : Type 0} (t : X → Bool) (xs : List X) (d : X) (m : ℕ) → m < length xs → t (get_or xs m d) ≡ true → 1 ≤ count_of t xs
one_counted t [] d m within passes = absurd (omega arith)
one_counted t (x ∷ xs) d zero within passes = let here : cond {A = ℕ} (t x) 1 0 ≡ 1 = ap (λ b. cond {A = ℕ} b 1 0) passes in omega (arith, count-cons t x xs, here)
one_counted t (x ∷ xs) d (suc m) within passes = omega (arith, count-cons t x xs, one_counted t xs d m (omega arith) passes)

-- where one passes and no later one does after one that passes, one passes
pub once_counted : {X : Type 0} (t : X → Bool) (xs : List X) (d : X) (m : ℕ) → m < length xs → t (get_or xs m d) ≡ true → ((i j : ℕ) → i < j → j < length xs → t (get_or xs i d) ≡ true → t (get_or xs j d) ≡ false) → count_of t xs ≡ 1
once_counted t [] d m within passes apart = absurd (omega arith)
once_counted t (x ∷ xs) d m within passes apart =
    elim (cases_Bool (t x)) [
      | inl one ↦
          let here : cond {A = ℕ} (t x) 1 0 ≡ 1 = ap (λ b. cond {A = ℕ} b 1 0) one in
          omega (arith, count-cons t x xs, here, none_counted t xs d (λ i h. apart 0 (suc i) (omega arith) (omega arith) one))
      | inr none ↦
          let here : cond {A = ℕ} (t x) 1 0 ≡ 0 = ap (λ b. cond {A = ℕ} b 1 0) none in
          let r = behind t x xs d m within passes none in
          omega (arith, count-cons t x xs, here, once_counted t xs d r.0 r.1 r.2 (λ i j below h. apart (suc i) (suc j) (omega arith) (omega arith)))
    ]
  where
    behind : {X : Type 0} (t : X → Bool) (x : X) (xs : List X) (d : X) (m : ℕ) → m < length (x ∷ xs) → t (get_or (x ∷ xs) m d) ≡ true → t x ≡ false → (n : ℕ) × (n < length xs) × (t (get_or xs n d) ≡ true)
    behind t x xs d zero within passes none = absurd (false≢true (sym none ∙ passes))
    behind t x xs d (suc m) within passes none = (m, omega arith, passes)

-- where one passes, no other does
pub apart_from_count : {X : Type 0} (t : X → Bool) (xs : List X) (d : X) (i j : ℕ) → count_of t xs ≡ 1 → i < j → j < length xs → t (get_or xs i d) ≡ true → t (get_or xs j d) ≡ true → ⊥
apart_from_count t [] d i j one below within a b = omega arith
apart_from_count t (x ∷ xs) d i zero one below within a b = omega arith
apart_from_count t (x ∷ xs) d zero (suc j) one below within a b =
    let here : cond {A = ℕ} (t x) 1 0 ≡ 1 = ap (λ b. cond {A = ℕ} b 1 0) a in
    omega (arith, count-cons t x xs, here, one_counted t xs d j (omega arith) b)
apart_from_count t (x ∷ xs) d (suc i) (suc j) one below within a b =
    let some : 1 ≤ count_of t xs = one_counted t xs d j (omega arith) b in
    apart_from_count t xs d i j (omega (arith, count-cons t x xs, some)) (omega arith) (omega arith) a b

-- some place passes where one is counted
pub counted_place : {X : Type 0} (t : X → Bool) (xs : List X) (d : X) → 1 ≤ count_of t xs → (m : ℕ) × (m < length xs) × (t (get_or xs m d) ≡ true)
counted_place t [] d some = absurd (omega arith)
counted_place t (x ∷ xs) d some =
    elim (cases_Bool (t x)) [
      | inl one ↦ (0, omega arith, one)
      | inr none ↦
          let here : cond {A = ℕ} (t x) 1 0 ≡ 0 = ap (λ b. cond {A = ℕ} b 1 0) none in
          let r = counted_place t xs d (omega (arith, count-cons t x xs, here)) in (suc r.0, omega (arith, r.1), r.2)
    ]

-- ---- the first junction that holds a movement

pub holder_at : (a : ℕ) (js : List Junction) (k m : ℕ) → m < length js → stands_in (get_or js m no_junction) k ≡ true → ((i : ℕ) → i < m → stands_in (get_or js i no_junction) k ≡ false) → first_holder a js k ≡ a + m
holder_at a [] k m within here none = absurd (omega arith)
holder_at a (j ∷ js) k zero within here none = rw here (omega arith)
holder_at a (j ∷ js) k (suc m) within here none =
    let later = holder_at (suc a) js k m (omega arith) here (λ i h. none (suc i) (omega arith)) in
    rw (none 0 (omega arith)) (omega (arith, later))
