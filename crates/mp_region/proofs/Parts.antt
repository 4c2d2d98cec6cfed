-- What a write leaves of a part.
use Rattle.std.proofs.Common.{◌≡◌, ◌≤◌, ◌<◌, ◌+◌, ◌-◌, ℕ, zero, suc, List, [], ◌∷◌, length, refl, set, take, drop, arith, ap, sym, ◌∙◌, ⊎_elim, ℤ}
use Rattle.std.specs.Prelude.{slice_range}
use Rattle.std.specs.List.{refill}
use Rattle.std.proofs.lemmas.Bool.{cases_lt}
use Rattle.std.proofs.lemmas.List.{take-append-le, take-set-le, drop-set-lt, drop-set-add}
use Rattle.mp_region.specs.Cells.{Cells, Extent, ShareNoCell, part_of, put}

-- a write before a range, or behind it
before : (xs : List ℤ) (a b c : ℕ) (v : ℤ) → c < a → slice_range (set xs c v) a b ≡ slice_range xs a b
before xs a b c v h = ap (take (b - a)) (drop-set-lt a xs c v h)

behind : (xs : List ℤ) (a b c : ℕ) (v : ℤ) → a ≤ c → b ≤ c → slice_range (set xs c v) a b ≡ slice_range xs a b
behind xs a b c v g h =
    let k : a + (c - a) ≡ c = omega arith in
    ap (λ t. take (b - a) (drop a (set xs t v))) (sym k)
    ∙ ap (take (b - a)) (drop-set-add a xs (c - a) v)
    ∙ take-set-le (b - a) (drop a xs) (c - a) v (omega arith)

pub outside : (xs : List ℤ) (a n c : ℕ) (v : ℤ) → (a ≤ c → c < a + n → ⊥) → slice_range (set xs c v) a (a + n) ≡ slice_range xs a (a + n)
outside xs a n c v h = ⊎_elim
    (λ (lt : c < a). before xs a (a + n) c v lt)
    (λ (ge : a ≤ c). ⊎_elim
    (λ (l : c < a + n). absurd (h ge l))
    (λ (g : a + n ≤ c). behind xs a (a + n) c v ge g)
    (cases_lt c (a + n)))
    (cases_lt c a)

-- a write through a span leaves each part that shares no cell with it
pub leaves : (region : Cells) (span other : Extent) (i : ℕ) (v : ℤ) → i < span.len → ShareNoCell span other → part_of (put region span i v) other ≡ part_of region other
leaves region span other i v h apart = outside region.cells other.at other.len (span.at + i) v
    (λ l g. apart (span.at + i) (omega arith, omega arith) (l, g))

take-set-both : (n : ℕ) (xs : List ℤ) (i : ℕ) (v : ℤ) → take n (set xs i v) ≡ set (take n xs) i v
take-set-both zero xs i v = refl
take-set-both (suc n) [] i v = refl
take-set-both (suc n) (x ∷ xs) zero v = refl
take-set-both (suc n) (x ∷ xs) (suc i) v = ap (λ t. x ∷ t) (take-set-both n xs i v)

-- a write through a span is a write into its part
pub into : (xs : List ℤ) (a n i : ℕ) (v : ℤ) → slice_range (set xs (a + i) v) a (a + n) ≡ set (slice_range xs a (a + n)) i v
into xs a n i v = ap (take (a + n - a)) (drop-set-add a xs i v) ∙ take-set-both (a + n - a) (drop a xs) i v

-- a list of the same length is written whole
pub refilled : (n : ℕ) (xs ws : List ℤ) → length ws ≡ n → length xs ≡ n → refill n xs ws ≡ ws
refilled n xs ws e f =
    let all : n ≤ length ws = omega arith in
    take-append-le n ws (drop (length ws) xs) all ∙ take-all n ws (omega arith)
  where
    take-all : (n : ℕ) (xs : List ℤ) → length xs ≤ n → take n xs ≡ xs
    take-all n [] h = take-none n
      where
        take-none : (n : ℕ) → let e : List ℤ = [] in take n e ≡ e
        take-none zero = refl
        take-none (suc n) = refl
    take-all zero (x ∷ xs) h = absurd (omega arith)
    take-all (suc n) (x ∷ xs) h = ap (λ t. x ∷ t) (take-all n xs (omega arith))
