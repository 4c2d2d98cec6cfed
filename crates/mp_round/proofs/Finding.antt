-- Counts and copies by the place of their number.
use Rattle.std.proofs.Common.{◌≡◌, ◌==◌, ◌<◌, ℕ, zero, suc, ◌+◌, Bool, true, false, cond, ◌||◌, List, [], ◌∷◌, length, get_or, set, Option, Some, None, arith, refl, sym, ◌∙◌, ap, eqb-true, eq-eqb, subst}
use Rattle.std.specs.List.{AllByRecursion, IsDistinct, list_any, position, position_from}
use Rattle.std.proofs.lemmas.Bool.{true≢false}
use Rattle.std.proofs.lemmas.Iterator.Adapters.{position_from-zero}
use Rattle.std.proofs.lemmas.List.Quantifiers.{position-Some}
use Rattle.mp_model.specs.Arrivals.{count_in}
use Rattle.mp_model.specs.EventCore.{Copy, copy_beside, with_copy}
use Rattle.mp_model.specs.Network.{has}
use Rattle.mp_laws.proofs.Lists.{eqb-flip}

-- a number stands at a place first
pub record IsAt (xs : List ℕ) (x i : ℕ) : Type 0 where
  pub within : i < length xs
  pub here : (get_or xs i 0 == x) ≡ true
  pub first : (m : ℕ) → m < i → (get_or xs m 0 == x) ≡ false

pub found_at : (xs : List ℕ) (x i : ℕ) → position (λ y. y == x) xs ≡ Some i → IsAt xs x i
found_at xs x i e = let h = position-Some (λ y. y == x) xs i 0 e in record { within = h.0; here = h.1; first = h.2 }

none_from : (p : ℕ → Bool) (a : ℕ) (xs : List ℕ) → position_from p a xs ≡ None → list_any p xs ≡ false
none_from p a [] e = refl
none_from p a (x ∷ xs) e = go (p x) e (none_from p (a + 1) xs)
  where
    go : (b : Bool) → cond b (Some a) (position_from p (a + 1) xs) ≡ None → (position_from p (a + 1) xs ≡ None → list_any p xs ≡ false) → (b || list_any p xs) ≡ false
    go true e more = cc
    go false e more = more e

pub not_found : (xs : List ℕ) (x : ℕ) → position (λ y. y == x) xs ≡ None → has xs x ≡ false
not_found xs x e = none_from (λ y. y == x) 0 xs (sym (position_from-zero (λ y. y == x) xs) ∙ e)

pub has_at : (xs : List ℕ) (x i : ℕ) → IsAt xs x i → has xs x ≡ true
has_at xs x i at = go xs i at.within at.here
  where
    or_right : (a b : Bool) → b ≡ true → (a || b) ≡ true
    or_right true b e = refl
    or_right false b e = e

    go : (xs : List ℕ) (i : ℕ) → i < length xs → (get_or xs i 0 == x) ≡ true → has xs x ≡ true
    go [] i lt e = absurd (omega arith)
    go (y ∷ ys) zero lt e = ap (λ b. b || has ys x) e
    go (y ∷ ys) (suc i) lt e = or_right (y == x) (has ys x) (go ys i (omega arith) e)

-- the count beside a number is that at its place
pub count_found : (fs cs : List ℕ) (l i : ℕ) → IsAt fs l i → count_in fs cs l ≡ get_or cs i 0
count_found fs cs l i at = go fs cs i at.within at.here at.first
  where
    go : (fs cs : List ℕ) (i : ℕ) → i < length fs → (get_or fs i 0 == l) ≡ true → ((m : ℕ) → m < i → (get_or fs m 0 == l) ≡ false) → count_in fs cs l ≡ get_or cs i 0
    go [] cs i lt e f = absurd (omega arith)
    go (f ∷ fs) [] i lt e first = refl
    go (f ∷ fs) (c ∷ cs) zero lt e first = ap (λ b. cond b c (count_in fs cs l)) e
    go (f ∷ fs) (c ∷ cs) (suc i) lt e first = ap (λ b. cond b c (count_in fs cs l)) (first 0 (omega arith)) ∙ go fs cs i (omega arith) e (λ m h. first (suc m) (omega arith))

-- and so is the copy
pub beside_found : (ts : List ℕ) (row : List (Option Copy)) (l i : ℕ) → IsAt ts l i → copy_beside ts row l ≡ get_or row i None
beside_found ts row l i at = go ts row i at.within at.here at.first
  where
    go : (ts : List ℕ) (row : List (Option Copy)) (i : ℕ) → i < length ts → (get_or ts i 0 == l) ≡ true → ((m : ℕ) → m < i → (get_or ts m 0 == l) ≡ false) → copy_beside ts row l ≡ get_or row i None
    go [] row i lt e f = absurd (omega arith)
    go (t ∷ ts) [] i lt e first = refl
    go (t ∷ ts) (c ∷ row) zero lt e first = ap (λ b. cond b c (copy_beside ts row l)) e
    go (t ∷ ts) (c ∷ row) (suc i) lt e first = ap (λ b. cond b c (copy_beside ts row l)) (first 0 (omega arith)) ∙ go ts row i (omega arith) e (λ m h. first (suc m) (omega arith))

pub beside_absent : (ts : List ℕ) (row : List (Option Copy)) (l : ℕ) → has ts l ≡ false → copy_beside ts row l ≡ None
beside_absent [] row l e = refl
beside_absent (t ∷ ts) [] l e = refl
beside_absent (t ∷ ts) (c ∷ row) l e = go (t == l) e (beside_absent ts row l)
  where
    go : (b : Bool) → (b || has ts l) ≡ false → (has ts l ≡ false → copy_beside ts row l ≡ None) → cond b c (copy_beside ts row l) ≡ None
    go true e more = absurd (true≢false e)
    go false e more = more e

-- a copy is put at the place of its link
with_absent : (ts : List ℕ) (row : List (Option Copy)) (l : ℕ) (new : Copy) → AllByRecursion (λ t. (l == t) ≡ false) ts → with_copy ts row l new ≡ row
with_absent [] row l new h = refl
with_absent (t ∷ ts) [] l new h = refl
with_absent (t ∷ ts) (c ∷ row) l new h = ap (λ b. cond b (Some new) c ∷ with_copy ts row l new) (eqb-flip l t false h.0) ∙ ap (λ xs. c ∷ xs) (with_absent ts row l new h.1)

pub with_found : (ts : List ℕ) (row : List (Option Copy)) (l i : ℕ) (new : Copy) → IsDistinct ◌==◌ ts → IsAt ts l i → with_copy ts row l new ≡ set row i (Some new)
unfolding IsDistinct
with_found ts row l i new d at = go ts row i d at.within at.here at.first
  where
    go : (ts : List ℕ) (row : List (Option Copy)) (i : ℕ) → IsDistinct ◌==◌ ts → i < length ts → (get_or ts i 0 == l) ≡ true → ((m : ℕ) → m < i → (get_or ts m 0 == l) ≡ false) → with_copy ts row l new ≡ set row i (Some new)
    go [] row i d lt e first = absurd (omega arith)
    go (t ∷ ts) [] i d lt e first = refl
    go (t ∷ ts) (c ∷ row) zero d lt e first =
        let same : t ≡ l = eqb-true t l e in
        ap (λ b. cond b (Some new) c ∷ with_copy ts row l new) e ∙ ap (λ xs. Some new ∷ xs) (with_absent ts row l new (subst (λ n. AllByRecursion (λ t. (n == t) ≡ false) ts) same d.0))
    go (t ∷ ts) (c ∷ row) (suc i) d lt e first =
        ap (λ b. cond b (Some new) c ∷ with_copy ts row l new) (first 0 (omega arith)) ∙ ap (λ xs. c ∷ xs) (go ts row i d.1 (omega arith) e (λ m h. first (suc m) (omega arith)))

-- a number of a list that differs stands first at its place
pub place_at : (xs : List ℕ) (i : ℕ) → IsDistinct ◌==◌ xs → i < length xs → IsAt xs (get_or xs i 0) i
unfolding IsDistinct
place_at xs i d lt = record { within = lt; here = eq-eqb (get_or xs i 0) (get_or xs i 0) refl; first = λ m h. go xs m i d h lt }
  where
    apart : (x : ℕ) (ys : List ℕ) (i : ℕ) → AllByRecursion (λ y. (x == y) ≡ false) ys → i < length ys → (x == get_or ys i 0) ≡ false
    apart x [] i h lt = absurd (omega arith)
    apart x (y ∷ ys) zero h lt = h.0
    apart x (y ∷ ys) (suc i) h lt = apart x ys i h.1 (omega arith)

    go : (xs : List ℕ) (m i : ℕ) → IsDistinct ◌==◌ xs → m < i → i < length xs → (get_or xs m 0 == get_or xs i 0) ≡ false
    go [] m i d h lt = absurd (omega arith)
    go (x ∷ xs) m zero d h lt = absurd (omega arith)
    go (x ∷ xs) zero (suc i) d h lt = apart x xs i d.0 (omega arith)
    go (x ∷ xs) (suc m) (suc i) d h lt = go xs m i d.1 (omega arith) (omega arith)
