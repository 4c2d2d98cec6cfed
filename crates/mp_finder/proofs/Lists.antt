-- Loops over lists.
use Rattle.std.proofs.Common.{◌≡◌, ◌≤◌, ◌<◌, ℕ, ◌+◌, ◌-◌, max, true, false, List, [], ◌∷◌, ◌++◌, map, take, drop, length, get_or, find, Some, None, ℤ, pos, unsigned_abs, refl, sym, ap, ap₂, ◌∙◌, arith}
use Rattle.std.specs.List.{fold, range_with_len}
use Rattle.std.proofs.lemmas.List.{drop_all, drop_more, take_all, take_more}
use Rattle.std.proofs.lemmas.List.FromFn.{length-range_with_len, get_or-range_with_len}
use Rattle.mp_model.specs.Load.{greatest}
use Rattle.mp_model.specs.Network.{Junction, numbers_to, stage_at, has}
use Rattle.mp_scaled.proofs.Sweeping.{find_here, find_past, find_end}
use Rattle.mp_finder.specs.Greens.{lowest_stage}

pub number_at : (n i : ℕ) → i < n → get_or (numbers_to n) i 0 ≡ i + 1
number_at n i lt = get_or-range_with_len 1 n i 0 lt ∙ omega arith

-- ---- a list of values
pub record Mapping {A : Type 0} (f : A → ℕ) (xs : List A) (i : ℕ) (now : List ℕ) : Type 0 where
  pub cells : now ≡ map f (take i xs)

pub mapping_start : {A : Type 0} (f : A → ℕ) (xs : List A) → Mapping f xs 0 []
mapping_start f xs = record { cells = refl }

map-more : {A : Type 0} (f : A → ℕ) (xs : List A) (y : A) → map f (xs ++ y ∷ []) ≡ map f xs ++ f y ∷ []
map-more f [] y = refl
map-more f (x ∷ xs) y = ap (λ zs. f x ∷ zs) (map-more f xs y)

pub mapping_more : {A : Type 0} (f : A → ℕ) (xs : List A) (i : ℕ) (now : List ℕ) (d : A) (v : ℕ) → Mapping f xs i now → i < length xs → v ≡ f (get_or xs i d) → Mapping f xs (i + 1) (now ++ v ∷ [])
mapping_more f xs i now d v s lt is = record { cells = ap₂ (λ a b. a ++ b ∷ []) s.cells is ∙ sym (ap (map f) (take_more xs i d lt) ∙ map-more f (take i xs) (get_or xs i d)) }

pub mapping_end : {A : Type 0} (f : A → ℕ) (xs : List A) (i : ℕ) (now : List ℕ) → Mapping f xs i now → length xs ≤ i → now ≡ map f xs
mapping_end f xs i now s le = s.cells ∙ ap (map f) (take_all i xs le)

pub numbering_more : (f : ℕ → ℕ) (n i : ℕ) (now : List ℕ) (v : ℕ) → Mapping f (numbers_to n) i now → i < n → v ≡ f (i + 1) → Mapping f (numbers_to n) (i + 1) (now ++ v ∷ [])
numbering_more f n i now v s lt is = mapping_more f (numbers_to n) i now 0 v s (omega (arith, length-range_with_len 1 n)) (is ∙ ap f (sym (number_at n i lt)))

pub numbering_end : (f : ℕ → ℕ) (n i : ℕ) (now : List ℕ) → Mapping f (numbers_to n) i now → n ≤ i → now ≡ map f (numbers_to n)
numbering_end f n i now s le = mapping_end f (numbers_to n) i now s (omega (arith, length-range_with_len 1 n))

pub ruleset mapping = (mapping_start, numbering_more, numbering_end)

pub copying_more : (xs : List ℤ) (i : ℕ) (now : List ℕ) (v : ℕ) → Mapping unsigned_abs xs i now → i < length xs → v ≡ unsigned_abs (get_or xs i (pos 0)) → Mapping unsigned_abs xs (i + 1) (now ++ v ∷ [])
copying_more xs i now v s lt is = mapping_more unsigned_abs xs i now (pos 0) v s lt is

pub copying_end : (xs : List ℤ) (i : ℕ) (now : List ℕ) → Mapping unsigned_abs xs i now → length xs ≤ i → now ≡ map unsigned_abs xs
copying_end xs i now s le = mapping_end unsigned_abs xs i now s le

pub ruleset copying = (mapping_start, copying_more, copying_end)

-- ---- a running value
pub record Folding {B : Type 0} (f : B → ℕ → B) (first : B) (xs : List ℕ) (i : ℕ) (now : B) : Type 0 where
  pub rest : fold f first xs ≡ fold f now (drop i xs)

pub folding_start : {B : Type 0} (f : B → ℕ → B) (first : B) (xs : List ℕ) → Folding f first xs 0 first
folding_start f first xs = record { rest = refl }

pub folding_more : {B : Type 0} (f : B → ℕ → B) (first : B) (xs : List ℕ) (i : ℕ) (now next : B) → Folding f first xs i now → i < length xs → next ≡ f now (get_or xs i 0) → Folding f first xs (i + 1) next
folding_more f first xs i now next s lt is = record { rest = s.rest ∙ ap (fold f now) (drop_more xs i 0 lt) ∙ ap (λ t. fold f t (drop (i + 1) xs)) (sym is) }

pub folding_end : {B : Type 0} (f : B → ℕ → B) (first : B) (xs : List ℕ) (i : ℕ) (now : B) → Folding f first xs i now → length xs ≤ i → now ≡ fold f first xs
folding_end f first xs i now s le = sym (s.rest ∙ ap (fold f now) (drop_all i xs le))

pub folding_number : {B : Type 0} (f : B → ℕ → B) (first : B) (n i : ℕ) (now next : B) → Folding f first (numbers_to n) i now → i < n → next ≡ f now (i + 1) → Folding f first (numbers_to n) (i + 1) next
folding_number f first n i now next s lt is = folding_more f first (numbers_to n) i now next s (omega (arith, length-range_with_len 1 n)) (is ∙ ap (f now) (sym (number_at n i lt)))

pub folding_numbers : {B : Type 0} (f : B → ℕ → B) (first : B) (n i : ℕ) (now : B) → Folding f first (numbers_to n) i now → n ≤ i → now ≡ fold f first (numbers_to n)
folding_numbers f first n i now s le = folding_end f first (numbers_to n) i now s (omega (arith, length-range_with_len 1 n))

pub ruleset folding = (folding_start, folding_more, folding_end, folding_number, folding_numbers)

-- ---- the greatest of some values
pub record Reaching (f : ℕ → ℕ) (xs : List ℕ) (i most : ℕ) : Type 0 where
  pub rest : greatest (map f xs) ≡ max most (greatest (map f (drop i xs)))

pub reaching_start : (f : ℕ → ℕ) (xs : List ℕ) → Reaching f xs 0 0
reaching_start f xs = record { rest = omega arith }

pub reaching_more : (f : ℕ → ℕ) (xs : List ℕ) (i most next : ℕ) → Reaching f xs i most → i < length xs → next ≡ max (f (get_or xs i 0)) most → Reaching f xs (i + 1) next
reaching_more f xs i most next s lt is = let step : greatest (map f (drop i xs)) ≡ max (f (get_or xs i 0)) (greatest (map f (drop (i + 1) xs))) = ap (λ t. greatest (map f t)) (drop_more xs i 0 lt) in record { rest = omega (arith, s.rest, step, is) }

pub reaching_end : (f : ℕ → ℕ) (xs : List ℕ) (i most : ℕ) → Reaching f xs i most → length xs ≤ i → most ≡ greatest (map f xs)
reaching_end f xs i most s le = let none : greatest (map f (drop i xs)) ≡ 0 = ap (λ t. greatest (map f t)) (drop_all i xs le) in omega (arith, s.rest, none)

pub ruleset greatest_so_far = (reaching_start, reaching_more, reaching_end)

-- ---- the lowest stage of a movement
pub record Looking (j : Junction) (k i : ℕ) : Type 0 where
  pub rest : lowest_stage j k ≡ find (λ s. has (stage_at j s) k) (range_with_len (i + 1) ((length j.stages + 1) - (i + 1)))

pub looking_start : (j : Junction) (k : ℕ) → Looking j k 0
looking_start j k = let same : length j.stages ≡ (length j.stages + 1) - (0 + 1) = omega arith in record { rest = ap (λ n. find (λ s. has (stage_at j s) k) (range_with_len 1 n)) same }

pub looking_more : (j : Junction) (k i : ℕ) → Looking j k i → i < length j.stages → has (stage_at j (i + 1)) k ≡ false → Looking j k (i + 1)
looking_more j k i s lt is = record { rest = s.rest ∙ find_past (λ s. has (stage_at j s) k) (i + 1) (length j.stages + 1) (omega arith) is }

pub looking_found : (j : Junction) (k i at : ℕ) → Looking j k i → i < length j.stages → has (stage_at j (i + 1)) k ≡ true → at ≡ i + 1 → Some at ≡ lowest_stage j k
looking_found j k i at s lt is e = ap Some e ∙ sym (s.rest ∙ find_here (λ s. has (stage_at j s) k) (i + 1) (length j.stages + 1) (omega arith) is)

pub looking_end : (j : Junction) (k i : ℕ) → Looking j k i → length j.stages ≤ i → None ≡ lowest_stage j k
looking_end j k i s le = sym (s.rest ∙ find_end (λ s. has (stage_at j s) k) (i + 1) (length j.stages + 1) (omega arith))

pub ruleset finding = (looking_start, looking_more, looking_found, looking_end)
