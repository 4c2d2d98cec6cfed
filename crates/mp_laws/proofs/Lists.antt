-- Facts about each entry of a list, and about numbered lists.
use Rattle.std.proofs.Common.{◌≡◌, ◌==◌, ℕ, ◌+◌, ◌-◌, ◌≤◌, Bool, true, false, cond, ◌||◌, List, [], ◌∷◌, map, arith, sym, ap, subst, zero, suc, ◌<◌, length, refl, ◌∙◌, eqb-true, ne_eqb, ⊎_elim, eq-eqb, filter, get_or, find, Some, None, slice_index}
use Rattle.std.specs.List.{AllByRecursion, list_any, range_with_len}
use Rattle.mp_model.specs.Network.{has, numbers_to}
use Rattle.std.proofs.lemmas.Bool.{eqb-false, or_left, or_right, or_cases, cases_lt, false≢true}
use Rattle.std.proofs.lemmas.List.Elements.{recursion_from_All, filter_passes}
use Rattle.std.proofs.lemmas.List.FromFn.{get_or-map-range_with_len}

pub eqb-flip : (x y : ℕ) (b : Bool) → (x == y) ≡ b → (y == x) ≡ b
eqb-flip x y true e = eq-eqb y x (sym (eqb-true x y e))
eqb-flip x y false e = ne_eqb y x (λ (h : y ≡ x). eqb-false x y e (sym h))

pub AllOf-map : {X : Type 0} (P Q : X → Type 0) → ((x : X) → P x → Q x) → (xs : List X) → AllByRecursion P xs → AllByRecursion Q xs
AllOf-map P Q f [] h = tt
AllOf-map P Q f (x ∷ xs) h = (f x h.0, AllOf-map P Q f xs h.1)

pub all_of : {X : Type 0} (P : X → Type 0) → ((x : X) → P x) → (xs : List X) → AllByRecursion P xs
all_of P f [] = tt
all_of P f (x ∷ xs) = (f x, all_of P f xs)

-- what holds of each element holds of one that is there
pub at_in : (P : ℕ → Type 0) (x : ℕ) (xs : List ℕ) → has xs x ≡ true → AllByRecursion P xs → P x
at_in P x [] h a = absurd (false≢true h)
at_in P x (y ∷ ys) h a = go (at_in P x ys) (y == x) refl
  where
    go : (has ys x ≡ true → AllByRecursion P ys → P x) → (b : Bool) → (y == x) ≡ b → P x
    go more true e = subst P (eqb-true y x e) a.0
    go more false e = more (sym (ap (λ b. b || has ys x) e) ∙ h) a.1

pub has_more : (y : ℕ) (ys xs : List ℕ) → AllByRecursion (λ x. has ys x ≡ true) xs → AllByRecursion (λ x. has (y ∷ ys) x ≡ true) xs
has_more y ys xs h = AllOf-map (λ x. has ys x ≡ true) (λ x. has (y ∷ ys) x ≡ true) (λ x e. or_right (y == x) (has ys x) e) xs h

pub all_in : (xs : List ℕ) → AllByRecursion (λ x. has xs x ≡ true) xs
all_in [] = tt
all_in (x ∷ xs) = (or_left (x == x) (has xs x) (eq-eqb x x refl), has_more x xs xs (all_in xs))

-- a fact about each element may use that it is one
pub each_in : (P : ℕ → Type 0) (xs : List ℕ) → ((x : ℕ) → has xs x ≡ true → P x) → AllByRecursion P xs
each_in P xs f = AllOf-map (λ x. has xs x ≡ true) P f xs (all_in xs)

pub filter_step : (p : ℕ → Bool) (x y : ℕ) (ys : List ℕ) → p x ≡ true → (b : Bool) → (y == x) ≡ b → (b ≡ false → has (filter p ys) x ≡ true) → (c : Bool) → p y ≡ c → has (cond c (y ∷ filter p ys) (filter p ys)) x ≡ true
filter_step p x y ys h true e more true f = or_left (y == x) (has (filter p ys) x) e
filter_step p x y ys h true e more false f = absurd (false≢true (sym f ∙ ap p (eqb-true y x e) ∙ h))
filter_step p x y ys h false e more true f = or_right (y == x) (has (filter p ys) x) (more refl)
filter_step p x y ys h false e more false f = more refl

pub has_filter : (p : ℕ → Bool) (x : ℕ) (xs : List ℕ) → has xs x ≡ true → p x ≡ true → has (filter p xs) x ≡ true
has_filter p x [] h t = h
has_filter p x (y ∷ ys) h t = filter_step p x y ys t (y == x) refl (λ e. has_filter p x ys (sym (ap (λ b. b || has ys x) e) ∙ h) t) (p y) refl

-- what holds at each place holds of each element
pub all_places : {X : Type 0} (P : X → Type 0) (d : X) (xs : List X) → ((i : ℕ) → i < length xs → P (get_or xs i d)) → AllByRecursion P xs
all_places P d [] f = tt
all_places P d (x ∷ xs) f = (f 0 (omega arith), all_places P d xs (λ i h. f (suc i) (omega arith)))

pub back_one : (i : ℕ) → suc i - 1 ≡ i
back_one i = omega arith

pub in_range : (a n x : ℕ) → list_any (λ k. x == k) (range_with_len a n) ≡ true → (a ≤ x) × (x < a + n)
in_range a zero x h = absurd (false≢true h)
in_range a (suc n) x h = ⊎_elim (λ e. let s : x ≡ a = eqb-true x a e in omega arith) (λ e. let s = in_range (a + 1) n x e in omega (arith, s)) (or_cases (x == a) (list_any (λ k. x == k) (range_with_len (a + 1) n)) h)

pub eqb-turn : (k : ℕ) (xs : List ℕ) → list_any (λ x. x == k) xs ≡ true → list_any (λ x. k == x) xs ≡ true
eqb-turn k [] h = h
eqb-turn k (x ∷ xs) h = ⊎_elim (λ e. or_left (k == x) (list_any (λ x. k == x) xs) (eq-eqb k x (sym (eqb-true x k e)))) (λ e. or_right (k == x) (list_any (λ x. k == x) xs) (eqb-turn k xs e)) (or_cases (x == k) (list_any (λ x. x == k) xs) h)

pub in_numbers : (n k : ℕ) → has (numbers_to n) k ≡ true → (1 ≤ k) × (k < 1 + n)
in_numbers n k h = in_range 1 n k (eqb-turn k (range_with_len 1 n) h)

pub at_range : (P : ℕ → Type 0) (a n x : ℕ) → a ≤ x → x < a + n → AllByRecursion P (range_with_len a n) → P x
at_range P a zero x l h t = absurd (omega arith)
at_range P a (suc n) x l h t = ⊎_elim (λ (lt : a < x). at_range P (a + 1) n x (omega arith) (omega arith) t.1) (λ (le : x ≤ a). let e : a ≡ x = omega arith in subst P e t.0) (cases_lt a x)

pub at_number : (P : ℕ → Type 0) (n i : ℕ) → i < n → AllByRecursion P (numbers_to n) → P (suc i)
at_number P n i lt h = at_range P 1 n (suc i) (omega arith) (omega arith) h

pub from_numbers : {X : Type 0} (P : X → Type 0) (d : X) (n : ℕ) (xs : List X) → length xs ≤ n → AllByRecursion (λ s. P (get_or xs (s - 1) d)) (numbers_to n) → AllByRecursion P xs
from_numbers P d n xs e h = all_places P d xs (λ i lt. subst (λ m. P (get_or xs m d)) (back_one i) (at_number (λ s. P (get_or xs (s - 1) d)) n i (omega arith) h))

pub keep_all : (P : ℕ → Type 0) (p : ℕ → Bool) (xs : List ℕ) → AllByRecursion P xs → AllByRecursion P (filter p xs)
keep_all P p [] h = tt
keep_all P p (x ∷ xs) h = go (p x) (keep_all P p xs h.1)
  where
    go : (b : Bool) → AllByRecursion P (filter p xs) → AllByRecursion P (cond b (x ∷ filter p xs) (filter p xs))
    go true t = (h.0, t)
    go false t = t

pub filter_sub : (p : ℕ → Bool) (xs : List ℕ) (k : ℕ) → has (filter p xs) k ≡ true → has xs k ≡ true
filter_sub p xs k h = at_in (λ x. has xs x ≡ true) k (filter p xs) h (keep_all (λ x. has xs x ≡ true) p xs (all_in xs))

pub any_at : (p : ℕ → Bool) (k : ℕ) (xs : List ℕ) → has xs k ≡ true → p k ≡ true → list_any p xs ≡ true
any_at p k [] h e = h
any_at p k (x ∷ xs) h e = go (any_at p k xs) (x == k) refl
  where
    go : (has xs k ≡ true → p k ≡ true → list_any p xs ≡ true) → (b : Bool) → (x == k) ≡ b → (p x || list_any p xs) ≡ true
    go more true t = or_left (p x) (list_any p xs) (ap p (eqb-true x k t) ∙ e)
    go more false t = or_right (p x) (list_any p xs) (more (sym (ap (λ b. b || has xs k) t) ∙ h) e)

pub at_index : {X : Type 0} (P : X → Type 0) (d : X) (xs : List X) (i : ℕ) → AllByRecursion P xs → P d → P (get_or xs i d)
at_index P d [] i h p = p
at_index P d (x ∷ xs) zero h p = h.0
at_index P d (x ∷ xs) (suc i) h p = at_index P d xs i h.1 p

pub filter_has : (p : ℕ → Bool) (xs : List ℕ) (k : ℕ) → has (filter p xs) k ≡ true → p k ≡ true
filter_has p xs k h = at_in (λ x. p x ≡ true) k (filter p xs) h (recursion_from_All (λ x. p x ≡ true) (filter p xs) (filter_passes p xs))

pub find_none : (p : ℕ → Bool) (xs : List ℕ) → find p xs ≡ None → AllByRecursion (λ x. p x ≡ false) xs
find_none p [] h = tt
find_none p (x ∷ xs) h = go (find_none p xs) (p x) refl h
  where
    go : (find p xs ≡ None → AllByRecursion (λ x. p x ≡ false) xs) → (b : Bool) → p x ≡ b → cond b (Some x) (find p xs) ≡ None → (p x ≡ false) × AllByRecursion (λ x. p x ≡ false) xs
    go more true e n = cc
    go more false e n = (e, more n)

-- reading a list that was made of a function of the number
pub numbered : (f : ℕ → ℕ) (n k : ℕ) → has (numbers_to n) k ≡ true → slice_index (map f (numbers_to n)) (k - 1) ≡ f k
numbered f n k h = let i = in_numbers n k h in get_or-map-range_with_len f 1 n (k - 1) k 0 (omega (arith, i)) (omega (arith, i))
