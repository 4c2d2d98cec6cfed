-- What no spot of a rule says of each table.
use Rattle.std.proofs.Common.{◌≡◌, ℕ, ◌+◌, ◌-◌, ◌<◌, zero, suc, Bool, true, false, cond, not, ◌||◌, List, [], ◌∷◌, length, map, get_or, Option, Some, None, refl, arith}
use Rattle.std.specs.List.{position_from, find, range_with_len, AllByRecursion}
use Rattle.mp_net.specs.Spots.{first_spot}

-- a test that is not passed at the top, and no place in a section
pub record IsSpotless (t : Bool) (l k j : Option ℕ) : Type 0 where
  pub top : t ≡ false
  pub links : l ≡ None
  pub movements : k ≡ None
  pub junctions : j ≡ None

pub spotless : (top : Bool) (l k j : Option ℕ) → first_spot top l k j ≡ None → IsSpotless top l k j
spotless true l k j h = cc
spotless false (Some l) k j h = cc
spotless false None (Some k) j h = cc
spotless false None None (Some j) h = cc
spotless false None None None h = record { top = refl; links = refl; movements = refl; junctions = refl }

pub or_none : (a b : Bool) → (a || b) ≡ false → (a ≡ false) × (b ≡ false)
or_none true b h = cc
or_none false b h = (refl, h)

pub not_false : (b : Bool) → not b ≡ false → b ≡ true
not_false true h = refl
not_false false h = cc

pub none_placed : {A : Type 0} (test : A → Bool) (i : ℕ) (xs : List A) → position_from test i xs ≡ None → AllByRecursion (λ x. test x ≡ false) xs
none_placed test i [] h = tt
none_placed test i (x ∷ xs) h = split (test x) (position_from test (i + 1) xs) refl h (none_placed test (i + 1) xs)
  where
    split : (b : Bool) (rest : Option ℕ) → test x ≡ b → cond b (Some i) rest ≡ None → (rest ≡ None → AllByRecursion (λ x. test x ≡ false) xs) → (test x ≡ false) × AllByRecursion (λ x. test x ≡ false) xs
    split true rest e h more = cc
    split false rest e h more = (e, more h)

pub each : {A : Type 0} (P Q : A → Type 0) (xs : List A) → ((x : A) → P x → Q x) → AllByRecursion P xs → AllByRecursion Q xs
each P Q [] h all = tt
each P Q (x ∷ xs) h all = (h x all.0, each P Q xs h all.1)

pub both : {A : Type 0} (P Q R : A → Type 0) (xs : List A) → ((x : A) → P x → Q x → R x) → AllByRecursion P xs → AllByRecursion Q xs → AllByRecursion R xs
both P Q R [] h p q = tt
both P Q R (x ∷ xs) h p q = (h x p.0 q.0, both P Q R xs h p.1 q.1)

pub mapped : {A B : Type 0} (P : A → Type 0) (Q : B → Type 0) (f : A → B) (xs : List A) → ((x : A) → P x → Q (f x)) → AllByRecursion P xs → AllByRecursion Q (map f xs)
mapped P Q f [] h all = tt
mapped P Q f (x ∷ xs) h all = (h x all.0, mapped P Q f xs h all.1)

pub find_none : (p : ℕ → Bool) (a n : ℕ) → ((i : ℕ) → i < n → p (a + i) ≡ false) → find p (range_with_len a n) ≡ None
find_none p a zero h = refl
find_none p a (suc n) h =
    let first : p a ≡ false = let e : a + 0 ≡ a = omega arith in rw e at (h 0 (omega arith)) in
    let later : (i : ℕ) → i < n → p (a + 1 + i) ≡ false = λ i below. let e : a + (i + 1) ≡ a + 1 + i = omega arith in rw e at (h (i + 1) (omega arith)) in
    rw first (find_none p (a + 1) n later)

pub at : {A : Type 0} (P : A → Type 0) (xs : List A) (i : ℕ) (d : A) → AllByRecursion P xs → i < length xs → P (get_or xs i d)
at P [] i d all below = absurd (omega arith)
at P (x ∷ xs) zero d all below = all.0
at P (x ∷ xs) (suc i) d all below = at P xs i d all.1 (omega arith)

-- where no entry of a list passes a test, no number does
pub none_numbered : {A : Type 0} (test : A → Bool) (xs : List A) (d : A) → AllByRecursion (λ x. test x ≡ false) xs → find (λ l. test (get_or xs (l - 1) d)) (range_with_len 1 (length xs)) ≡ None
none_numbered test xs d all =
    find_none (λ l. test (get_or xs (l - 1) d)) 1 (length xs) (λ i below. let e : 1 + i - 1 ≡ i = omega arith in rw e (at (λ x. test x ≡ false) xs i d all below))
