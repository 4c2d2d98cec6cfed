-- Lists that are read by number are the lists.
use Rattle.std.proofs.Common.{◌≡◌, ℕ, suc, ◌+◌, ◌-◌, ◌<◌, List, [], ◌∷◌, ◌++◌, length, get_or, map, arith, refl, sym, ◌∙◌, ap, ap₂}
use Rattle.std.specs.List.{range_with_len}
use Rattle.std.proofs.lemmas.List.{map-id}
use Rattle.std.proofs.lemmas.List.FromFn.{map-range_with_len_more}
use Rattle.mp_model.specs.Network.{numbers_to}

read_from : {X Y : Type 0} (f : ℕ → Y) (g : X → Y) (d : X) (xs : List X) (a : ℕ) → ((i : ℕ) → i < length xs → f (a + i) ≡ g (get_or xs i d)) → map f (range_with_len a (length xs)) ≡ map g xs
read_from f g d [] a h = refl
read_from f g d (x ∷ xs) a h =
    let here : a ≡ a + 0 = omega arith in
    ap₂ ◌∷◌ (ap f here ∙ h 0 (omega arith)) (read_from f g d xs (a + 1) (λ i lt. let e : a + 1 + i ≡ a + suc i = omega arith in ap f e ∙ h (suc i) (omega arith)))

pub read_mapped : {X Y : Type 0} (g : X → Y) (d : X) (xs : List X) → map (λ k. g (get_or xs (k - 1) d)) (numbers_to (length xs)) ≡ map g xs
read_mapped g d xs = read_from (λ k. g (get_or xs (k - 1) d)) g d xs 1 (λ i lt. let e : 1 + i - 1 ≡ i = omega arith in ap (λ n. g (get_or xs n d)) e)

pub read_all : {X : Type 0} (d : X) (xs : List X) → map (λ k. get_or xs (k - 1) d) (numbers_to (length xs)) ≡ xs
read_all d xs = read_mapped (λ x. x) d xs ∙ map-id xs

-- what a loop over numbers has appended
pub next_copy : {Y : Type 0} (f : ℕ → Y) (i : ℕ) (old new : List Y) → new ≡ old ++ f (i + 1) ∷ [] → old ≡ map f (numbers_to i) → new ≡ map f (numbers_to (i + 1))
next_copy f i old new e s = e ∙ ap (λ ys. ys ++ f (i + 1) ∷ []) s ∙ sym (map-range_with_len_more f 1 i (i + 1) (omega arith))

pub all_copied : {Y : Type 0} (f : ℕ → Y) (n i : ℕ) (now : List Y) → now ≡ map f (numbers_to i) → i ≡ n → now ≡ map f (numbers_to n)
all_copied f n i now s e = s ∙ ap (λ k. map f (numbers_to k)) e
