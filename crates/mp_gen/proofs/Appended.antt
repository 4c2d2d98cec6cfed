-- What a loop over numbers has appended.
use Rattle.std.proofs.Common.{◌≡◌, ℕ, ◌+◌, List, [], ◌∷◌, ◌++◌, map, arith, sym, ◌∙◌, ap}
use Rattle.std.specs.List.{flat_map}
use Rattle.std.proofs.lemmas.List.{append-nil, map-id}
use Rattle.std.proofs.lemmas.List.Concat.{flat_map-append}
use Rattle.std.proofs.lemmas.List.FromFn.{map-range_with_len_more}
use Rattle.mp_model.specs.Network.{numbers_to}

numbers_more : (n : ℕ) → numbers_to (n + 1) ≡ numbers_to n ++ (n + 1) ∷ []
numbers_more n =
    sym (map-id (numbers_to (n + 1))) ∙ map-range_with_len_more (λ k. k) 1 n (n + 1) (omega arith) ∙ ap (λ ks. ks ++ (n + 1) ∷ []) (map-id (numbers_to n))

pub flat_more : {X : Type 0} (f : ℕ → List X) (n : ℕ) → flat_map f (numbers_to (n + 1)) ≡ flat_map f (numbers_to n) ++ f (n + 1)
flat_more f n =
    ap (flat_map f) (numbers_more n) ∙ flat_map-append f (numbers_to n) ((n + 1) ∷ []) ∙ ap (λ xs. flat_map f (numbers_to n) ++ xs) (append-nil (f (n + 1)))

pub map_more : {X : Type 0} (f : ℕ → X) (n : ℕ) → map f (numbers_to (n + 1)) ≡ map f (numbers_to n) ++ f (n + 1) ∷ []
map_more f n = map-range_with_len_more f 1 n (n + 1) (omega arith)
