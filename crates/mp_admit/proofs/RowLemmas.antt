-- The loops that make a junction's program.
use Rattle.std.proofs.Common.{to_z-of_z, ◌≡◌, ◌==◌, ℕ, zero, suc, ◌+◌, ◌-◌, ◌*◌, ◌<◌, ◌≤◌, true, cond, List, [], ◌∷◌, ◌++◌, map, drop, take, get_or, length, slice_index_or, ℤ, pos, refl, ap, ap₂, sym, ◌∙◌, subst, arith}
use Rattle.std.proofs.lemmas.List.{append-nil, take_all, take_more, append_assoc}
use Rattle.std.specs.List.{AllByRecursion}
use Rattle.mp_model.specs.Network.{Network, movement_numbers, junction_at, own, stands_in, has, stage_at}
use Rattle.mp_model.specs.Certificate.{int_entry}
use Rattle.mp_laws.proofs.Lists.{all_in, filter_sub}
use Rattle.mp_verdict.specs.Program.{stage_row, stage_rows}
use Rattle.mp_admit.proofs.TermLemmas.{among}

element : (xs : List ℕ) (i : ℕ) → i < length xs → has xs (get_or xs i 0) ≡ true
element xs i h = go xs (λ x. has xs x ≡ true) (all_in xs) i h
  where
    go : (xs : List ℕ) (P : ℕ → Type 0) → AllByRecursion P xs → (i : ℕ) → i < length xs → P (get_or xs i 0)
    go [] P a i h = absurd (omega arith)
    go (x ∷ xs) P a zero h = a.0
    go (x ∷ xs) P a (suc i) h = go xs P a.1 i (omega arith)

-- the movements of a junction are those of the network
pub own_known : (net : Network) (j : ℕ) (xs : List ℕ) (i : ℕ) → xs ≡ own net (junction_at net j) → i < length xs → (1 ≤ get_or xs i 0) × (get_or xs i 0 ≤ length net.movements)
own_known net j xs i e h = among (length net.movements) (get_or xs i 0) (filter_sub (stands_in (junction_at net j)) (movement_numbers net) (get_or xs i 0) (subst (λ (ks : List ℕ). has ks (get_or xs i 0) ≡ true) e (element xs i h)))

-- a list so far, with a number of each entry
pub record Lining (f : ℕ → ℤ) (xs : List ℕ) (old : List ℤ) (i : ℕ) (now : List ℤ) : Type 0 where
  pub cells : now ≡ old ++ map f (take i xs)

pub lining_start : (f : ℕ → ℤ) (xs : List ℕ) (old : List ℤ) → Lining f xs old 0 old
lining_start f xs old = record { cells = sym (append-nil old) }

map-append : (f : ℕ → ℤ) (xs ys : List ℕ) → map f (xs ++ ys) ≡ map f xs ++ map f ys
map-append f [] ys = refl
map-append f (x ∷ xs) ys = ap (λ zs. f x ∷ zs) (map-append f xs ys)

pub lining_more : (f : ℕ → ℤ) (xs : List ℕ) (old : List ℤ) (i : ℕ) (now : List ℤ) (z : ℤ) → Lining f xs old i now → i < length xs → z ≡ f (get_or xs i 0) → Lining f xs old (i + 1) (now ++ z ∷ [])
lining_more f xs old i now z s h e = record {
  cells =
      ap₂ (λ a b. a ++ b ∷ []) s.cells e ∙ append_assoc old (map f (take i xs)) (f (get_or xs i 0) ∷ [])
      ∙ ap (λ t. old ++ t) (sym (ap (map f) (take_more xs i 0 h) ∙ map-append f (take i xs) (get_or xs i 0 ∷ [])));
}

pub lining_end : (f : ℕ → ℤ) (xs : List ℕ) (old : List ℤ) (i : ℕ) (now : List ℤ) → Lining f xs old i now → length xs ≤ i → now ≡ old ++ map f xs
lining_end f xs old i now s h = s.cells ∙ ap (λ t. old ++ map f t) (take_all i xs h)

pub ruleset lining = (to_z-of_z, own_known, lining_start, lining_more, lining_end)

-- the rows of the first stages
rows-append : (net : Network) (ks : List ℕ) (xs : List (List ℕ)) (y : List ℕ) → stage_rows net ks (xs ++ y ∷ []) ≡ stage_rows net ks xs ++ stage_row net ks y
rows-append net ks [] y = append-nil (stage_row net ks y)
rows-append net ks (x ∷ xs) y = ap (λ t. stage_row net ks x ++ t) (rows-append net ks xs y) ∙ sym (append_assoc (stage_row net ks x) (stage_rows net ks xs) (stage_row net ks y))

pub record Rowing (net : Network) (j s : ℕ) (now : List ℤ) : Type 0 where
  pub cells : now ≡ stage_rows net (own net (junction_at net j)) (take s (junction_at net j).stages)

pub rowing_start : (net : Network) (j : ℕ) → Rowing net j 0 []
rowing_start net j = record { cells = refl }

pub rowing_more : (net : Network) (j s : ℕ) (stage : List ℕ) (before now : List ℤ) → Rowing net j s before → s < length (junction_at net j).stages → stage ≡ stage_at (junction_at net j) (s + 1) → now ≡ before ++ stage_row net (own net (junction_at net j)) stage → Rowing net j (s + 1) now
rowing_more net j s stage before now r h e w = record {
  cells =
      w ∙ ap₂ (λ a b. a ++ stage_row net (own net (junction_at net j)) b) r.cells (e ∙ ap (λ i. slice_index_or (junction_at net j).stages i []) (omega arith))
      ∙ sym (ap (stage_rows net (own net (junction_at net j))) (take_more (junction_at net j).stages s [] h) ∙ rows-append net (own net (junction_at net j)) (take s (junction_at net j).stages) (get_or (junction_at net j).stages s []));
}

pub rowing_end : (net : Network) (j s : ℕ) (now : List ℤ) → Rowing net j s now → length (junction_at net j).stages ≤ s → now ≡ stage_rows net (own net (junction_at net j)) (junction_at net j).stages
rowing_end net j s now r h = r.cells ∙ ap (stage_rows net (own net (junction_at net j))) (take_all s (junction_at net j).stages h)

pub ruleset rowing = (to_z-of_z, rowing_start, rowing_more, rowing_end)

-- a 1 for each of the first stages
pub record Siding (stages : List (List ℕ)) (s : ℕ) (now : List ℤ) : Type 0 where
  pub cells : now ≡ map (λ (stage : List ℕ). pos 1) (take s stages)

pub siding_start : (stages : List (List ℕ)) → Siding stages 0 []
siding_start stages = record { cells = refl }

ones-append : (xs : List (List ℕ)) (y : List ℕ) → map (λ (stage : List ℕ). pos 1) (xs ++ y ∷ []) ≡ map (λ (stage : List ℕ). pos 1) xs ++ pos 1 ∷ []
ones-append [] y = refl
ones-append (x ∷ xs) y = ap (λ t. pos 1 ∷ t) (ones-append xs y)

pub siding_more : (stages : List (List ℕ)) (s : ℕ) (now : List ℤ) → Siding stages s now → s < length stages → Siding stages (s + 1) (now ++ pos 1 ∷ [])
siding_more stages s now r h = record {
  cells = ap (λ t. t ++ pos 1 ∷ []) r.cells ∙ sym (ap (map (λ (stage : List ℕ). pos 1)) (take_more stages s [] h) ∙ ones-append (take s stages) (get_or stages s []));
}

pub siding_end : (stages : List (List ℕ)) (s : ℕ) (now : List ℤ) → Siding stages s now → length stages ≤ s → now ≡ map (λ (stage : List ℕ). pos 1) stages
siding_end stages s now r h = r.cells ∙ ap (map (λ (stage : List ℕ). pos 1)) (take_all s stages h)

pub ruleset siding = (to_z-of_z, siding_start, siding_more, siding_end)

-- the rate of a movement stands behind the two first numbers
drop_two : (row : List ℤ) (i : ℕ) → get_or (drop 2 row) i (pos 0) ≡ get_or row (i + 2) (pos 0)
drop_two [] i = refl
drop_two (x ∷ []) i = ap (λ t. get_or (x ∷ []) t (pos 0)) {x = suc (suc i)} {y = i + 2} (omega arith)
drop_two (x ∷ y ∷ row) i = ap (λ t. get_or (x ∷ y ∷ row) t (pos 0)) {x = suc (suc i)} {y = i + 2} (omega arith)

pub rate_at : (row : List ℤ) (k : ℕ) → 1 ≤ k → get_or row (k + 1) (pos 0) ≡ int_entry (drop 2 row) k
rate_at row k h = ap (λ i. get_or row i (pos 0)) (omega arith) ∙ sym (drop_two row (k - 1))

pub ruleset aiming = (to_z-of_z, rate_at)
