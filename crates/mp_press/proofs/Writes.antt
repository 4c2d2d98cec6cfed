-- What stands in a list after writes at the numbers of another.
use Rattle.std.proofs.Common.{◌≡◌, ◌==◌, ◌≤◌, ◌<◌, ℕ, zero, suc, ◌+◌, ◌-◌, Bool, true, false, cond, ◌||◌, List, [], ◌∷◌, length, get_or, set, drop, map, arith, refl, sym, ◌∙◌, ap, eqb-true, eq-eqb, add-one, drop-cons}
use Rattle.std.specs.List.{AllByRecursion, range_with_len}
use Rattle.std.proofs.lemmas.Grind.{common_steps}
use Rattle.std.proofs.lemmas.Bool.{false≢true}
use Rattle.std.proofs.lemmas.List.{length-set}
use Rattle.std.proofs.lemmas.List.FromFn.{fill_by_all}
use Rattle.mp_model.specs.Network.{has, numbers_to, entry}
use Rattle.mp_laws.proofs.Lists.{numbered, at_range, all_in}
use Rattle.mp_press.specs.Written.{IsAmong, written}

pub length-written : (f : ℕ → ℕ) (ks xs : List ℕ) → length (written f ks xs) ≡ length xs
length-written f [] xs = refl
length-written f (k ∷ ks) xs = length-written f ks (set xs (k - 1) (f k)) ∙ length-set xs (k - 1) (f k)

pub entry-set_same : (xs : List ℕ) (i j v : ℕ) → i ≡ j → 1 ≤ i → i ≤ length xs → entry (set xs (i - 1) v) j ≡ v
entry-set_same xs i j v e h l = grind (arith, common_steps)

pub entry-set_other : (xs : List ℕ) (i j v : ℕ) → (i ≡ j → ⊥) → 1 ≤ i → i ≤ length xs → 1 ≤ j → entry (set xs (i - 1) v) j ≡ entry xs j
entry-set_other xs i j v e h l k = grind (arith, common_steps)

pub cond-same : (b : Bool) (x : ℕ) → cond b x x ≡ x
cond-same true x = refl
cond-same false x = refl

pub entry-written : (f : ℕ → ℕ) (ks xs : List ℕ) (n k : ℕ) → length xs ≡ n → AllByRecursion (IsAmong n) ks → 1 ≤ k → k ≤ n → entry (written f ks xs) k ≡ cond (has ks k) (f k) (entry xs k)
entry-written f [] xs n k size known h l = refl
entry-written f (i ∷ ks) xs n k size known h l = entry-written f ks (set xs (i - 1) (f i)) n k (length-set xs (i - 1) (f i) ∙ size) known.1 h l ∙ go (i == k) refl
  where
    go : (b : Bool) → (i == k) ≡ b → cond (has ks k) (f k) (entry (set xs (i - 1) (f i)) k) ≡ cond (b || has ks k) (f k) (entry xs k)
    go true e = let same : i ≡ k = eqb-true i k e in ap (cond (has ks k) (f k)) (entry-set_same xs i k (f i) same known.0.0 (omega arith) ∙ ap f same) ∙ cond-same (has ks k) (f k)
    go false e = ap (cond (has ks k) (f k)) (entry-set_other xs i k (f i) (λ s. false≢true (sym e ∙ eq-eqb i k s)) known.0.0 (omega arith) h)

-- one more write, and the end of the list
pub written_more : (f : ℕ → ℕ) (ks xs : List ℕ) (i k : ℕ) → i < length ks → k ≡ get_or ks i 0 → written f (drop i ks) xs ≡ written f (drop (i + 1) ks) (set xs (k - 1) (f k))
written_more f ks xs i k h e = ap (λ t. written f t xs) (drop-cons ks i 0 h) ∙ ap (λ t. written f (drop (suc i) ks) (set xs (t - 1) (f t))) (sym e) ∙ ap (λ t. written f (drop t ks) (set xs (k - 1) (f k))) (sym (add-one i))

map-shift : (f : ℕ → ℕ) (a n : ℕ) → map (λ i. f (i + 1)) (range_with_len a n) ≡ map f (range_with_len (a + 1) n)
map-shift f a zero = refl
map-shift f a (suc n) = ap (λ t. f (a + 1) ∷ t) (map-shift f (a + 1) n)

-- a list that has f k at each number
pub numbers_by_all : (f : ℕ → ℕ) (xs : List ℕ) (n : ℕ) → length xs ≡ n → ((k : ℕ) → 1 ≤ k → k ≤ n → entry xs k ≡ f k) → xs ≡ map f (numbers_to n)
numbers_by_all f xs n size each = fill_by_all (λ i. f (i + 1)) xs n 0 size (λ i h. let back : (i + 1) - 1 ≡ i = omega arith in ap (λ t. get_or xs t 0) (sym back) ∙ each (i + 1) (omega arith) (omega arith)) ∙ map-shift f 0 n

-- and such a list has f k at each number
pub numbers_have : (f : ℕ → ℕ) (n k : ℕ) → 1 ≤ k → k ≤ n → entry (map f (numbers_to n)) k ≡ f k
numbers_have f n k some few = numbered f n k (at_range (λ k. has (numbers_to n) k ≡ true) 1 n k some (omega arith) (all_in (numbers_to n)))
