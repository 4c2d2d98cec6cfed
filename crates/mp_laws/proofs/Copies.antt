-- What junctions have heard: tables of copies, what a hearing and a closing change of them, and their ages.
use Rattle.std.proofs.Common.{◌≡◌, ◌==◌, ℕ, zero, suc, ◌+◌, ◌≤◌, ◌<◌, Bool, true, false, cond, ◌||◌, nat_le, List, [], ◌∷◌, length, get_or, set, map, Option, Some, None, IfSome, arith, refl, sym, ◌∙◌, ap, eqb-true}
use Rattle.std.specs.List.{AllByRecursion}
use Rattle.std.proofs.lemmas.Bool.{false≢true, le-leb, leb-true}
use Rattle.mp_model.specs.Arrivals.{count_in}
use Rattle.mp_model.specs.EventCore.{Copy, accepted, copy_beside, with_copy}
use Rattle.mp_model.specs.EventPeriods.{age_of}
use Rattle.mp_model.specs.Network.{Network, Junction, has, targets}

-- what holds of an entry that was written, and of the old one, holds at each place
pub read_set : {X : Type 0} (P : X → Type 0) (d y : X) (xs : List X) (a b : ℕ) → (a ≡ b → P y) → P (get_or xs b d) → P (get_or (set xs a y) b d)
read_set P d y [] a b new old = old
read_set P d y (x ∷ xs) zero zero new old = new refl
read_set P d y (x ∷ xs) zero (suc b) new old = old
read_set P d y (x ∷ xs) (suc a) zero new old = old
read_set P d y (x ∷ xs) (suc a) (suc b) new old = read_set P d y xs a b (λ e. new (ap suc e)) old

-- a copy that was written stands beside its link alone
pub with_reads : (P : Option Copy → Type 0) (ts : List ℕ) (row : List (Option Copy)) (l m : ℕ) (new : Copy) → (l ≡ m → P (Some new)) → P (copy_beside ts row m) → P (copy_beside ts (with_copy ts row l new) m)
with_reads P [] row l m new here old = old
with_reads P (t ∷ ts) [] l m new here old = old
with_reads P (t ∷ ts) (c ∷ row) l m new here old = go (t == m) refl (with_reads P ts row l m new here) old (t == l) refl
  where
    go : (b : Bool) → (t == m) ≡ b → (P (copy_beside ts row m) → P (copy_beside ts (with_copy ts row l new) m)) → P (cond b c (copy_beside ts row m)) → (a : Bool) → (t == l) ≡ a → P (cond b (cond a (Some new) c) (copy_beside ts (with_copy ts row l new) m))
    go true e more old true f = here (sym (eqb-true t l f) ∙ eqb-true t m e)
    go true e more old false f = old
    go false e more old a f = more old

pub with_there : (ts : List ℕ) (row : List (Option Copy)) (l : ℕ) (new : Copy) → length row ≡ length ts → has ts l ≡ true → copy_beside ts (with_copy ts row l new) l ≡ Some new
with_there [] row l new len in' = absurd (false≢true in')
with_there (t ∷ ts) [] l new len in' = absurd (omega arith)
with_there (t ∷ ts) (c ∷ row) l new len in' = go (t == l) refl (with_there ts row l new (omega arith))
  where
    go : (b : Bool) → (t == l) ≡ b → (has ts l ≡ true → copy_beside ts (with_copy ts row l new) l ≡ Some new) → cond b (cond b (Some new) c) (copy_beside ts (with_copy ts row l new) l) ≡ Some new
    go true e more = refl
    go false e more = more (sym (ap (λ b. b || has ts l) e) ∙ in')

pub with_length : (ts : List ℕ) (row : List (Option Copy)) (l : ℕ) (new : Copy) → length row ≡ length ts → length (with_copy ts row l new) ≡ length ts
with_length [] row l new len = len
with_length (t ∷ ts) [] l new len = absurd (omega arith)
with_length (t ∷ ts) (c ∷ row) l new len = let more = with_length ts row l new (omega arith) in omega arith

pub with_all : (P : Option Copy → Type 0) (ts : List ℕ) (row : List (Option Copy)) (l : ℕ) (new : Copy) → P (Some new) → AllByRecursion P row → AllByRecursion P (with_copy ts row l new)
with_all P [] row l new here all = all
with_all P (t ∷ ts) [] l new here all = tt
with_all P (t ∷ ts) (c ∷ row) l new here all = (go (t == l), with_all P ts row l new here all.1)
  where
    go : (b : Bool) → P (cond b (Some new) c)
    go true = here
    go false = all.0

-- a closing leaves each copy that is still accepted
pub accepted_reads : (delay period : ℕ) (ts : List ℕ) (row : List (Option Copy)) (l : ℕ) → copy_beside ts (map (accepted delay period) row) l ≡ accepted delay period (copy_beside ts row l)
accepted_reads delay period [] row l = refl
accepted_reads delay period (t ∷ ts) [] l = refl
accepted_reads delay period (t ∷ ts) (c ∷ row) l = go (t == l) (accepted_reads delay period ts row l)
  where
    go : (b : Bool) → copy_beside ts (map (accepted delay period) row) l ≡ accepted delay period (copy_beside ts row l) → cond b (accepted delay period c) (copy_beside ts (map (accepted delay period) row) l) ≡ accepted delay period (cond b c (copy_beside ts row l))
    go true more = refl
    go false more = more

pub map_reads : {X Y : Type 0} (f : X → Y) (d : X) (xs : List X) (i : ℕ) → get_or (map f xs) i (f d) ≡ f (get_or xs i d)
map_reads f d [] i = refl
map_reads f d (x ∷ xs) zero = refl
map_reads f d (x ∷ xs) (suc i) = map_reads f d xs i

-- a copy is accepted where it is young enough
pub is_accepted : (delay period : ℕ) (copy : Copy) → period ≤ copy.period + delay → accepted delay period (Some copy) ≡ Some copy
is_accepted delay period copy young = ap (λ b. cond b (Some copy) None) (le-leb period (copy.period + delay) young)

pub accepted_young : (P : Copy → Type 0) (delay period : ℕ) (o : Option Copy) → ((copy : Copy) → o ≡ Some copy → period ≤ copy.period + delay → P copy) → IfSome (accepted delay period o) P
accepted_young P delay period None each = tt
accepted_young P delay period (Some copy) each = go (nat_le period (copy.period + delay)) refl
  where
    go : (b : Bool) → nat_le period (copy.period + delay) ≡ b → IfSome (cond b (Some copy) None) P
    go true e = each copy refl (leb-true period (copy.period + delay) e)
    go false e = tt

-- the age beside a link is that of its copy
pub age_reads : (period : ℕ) (ts : List ℕ) (row : List (Option Copy)) (l : ℕ) → count_in ts (map (age_of period) row) l ≡ age_of period (copy_beside ts row l)
age_reads period [] row l = refl
age_reads period (t ∷ ts) [] l = refl
age_reads period (t ∷ ts) (c ∷ row) l = go (t == l) (age_reads period ts row l)
  where
    go : (b : Bool) → count_in ts (map (age_of period) row) l ≡ age_of period (copy_beside ts row l) → cond b (age_of period c) (count_in ts (map (age_of period) row) l) ≡ age_of period (cond b c (copy_beside ts row l))
    go true more = refl
    go false more = more

-- a table of copies has a row for each junction, and a place for each link that it feeds
pub HasRows : Network → List Junction → List (List (Option Copy)) → Type 0
HasRows net [] [] = Unit {0}
HasRows net (j ∷ js) (row ∷ rows) = (length row ≡ length (targets net j)) × HasRows net js rows
HasRows net [] (row ∷ rows) = ⊥
HasRows net (j ∷ js) [] = ⊥

pub rows_first : (net : Network) (js : List Junction) → HasRows net js (map (λ j. map (λ l. None) (targets net j)) js)
unfolding HasRows
rows_first net [] = tt
rows_first net (j ∷ js) = (nones (targets net j), rows_first net js)
  where
    nones : (ts : List ℕ) → length (map (λ (l : ℕ). let none : Option Copy = None in none) ts) ≡ length ts
    nones [] = refl
    nones (t ∷ ts) = let more = nones ts in omega arith

pub rows_set : (net : Network) (js : List Junction) (rows : List (List (Option Copy))) (i : ℕ) (row : List (Option Copy)) (none : Junction) → HasRows net js rows → (i < length js → length row ≡ length (targets net (get_or js i none))) → HasRows net js (set rows i row)
unfolding HasRows
rows_set net [] [] i row none h e = tt
rows_set net [] (r ∷ rows) i row none h e = absurd h
rows_set net (j ∷ js) [] i row none h e = absurd h
rows_set net (j ∷ js) (r ∷ rows) zero row none h e = (e (omega arith), h.1)
rows_set net (j ∷ js) (r ∷ rows) (suc i) row none h e = (h.0, rows_set net js rows i row none h.1 (λ lt. e (omega arith)))

pub rows_mapped : (net : Network) (f : Option Copy → Option Copy) (js : List Junction) (rows : List (List (Option Copy))) → HasRows net js rows → HasRows net js (map (map f) rows)
unfolding HasRows
rows_mapped net f [] [] h = tt
rows_mapped net f [] (r ∷ rows) h = absurd h
rows_mapped net f (j ∷ js) [] h = absurd h
rows_mapped net f (j ∷ js) (r ∷ rows) h = (same r ∙ h.0, rows_mapped net f js rows h.1)
  where
    same : (xs : List (Option Copy)) → length (map f xs) ≡ length xs
    same [] = refl
    same (x ∷ xs) = let more = same xs in omega arith

pub row_length : (net : Network) (js : List Junction) (rows : List (List (Option Copy))) (i : ℕ) (none : Junction) → HasRows net js rows → i < length js → length (get_or rows i []) ≡ length (targets net (get_or js i none))
unfolding HasRows
row_length net [] [] i none h lt = absurd (omega arith)
row_length net [] (r ∷ rows) i none h lt = absurd h
row_length net (j ∷ js) [] i none h lt = absurd h
row_length net (j ∷ js) (r ∷ rows) zero none h lt = h.0
row_length net (j ∷ js) (r ∷ rows) (suc i) none h lt = row_length net js rows i none h.1 (omega arith)

pub row_there : (net : Network) (js : List Junction) (rows : List (List (Option Copy))) (i : ℕ) → HasRows net js rows → i < length js → i < length rows
unfolding HasRows
row_there net [] rows i h lt = absurd (omega arith)
row_there net (j ∷ js) [] i h lt = absurd h
row_there net (j ∷ js) (r ∷ rows) zero h lt = omega arith
row_there net (j ∷ js) (r ∷ rows) (suc i) h lt = let more = row_there net js rows i h.1 (omega arith) in omega arith
