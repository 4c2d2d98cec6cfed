-- The values that a loop makes of the entries of a list, numbered from 1.
use Rattle.std.proofs.Common.{◌≡◌, ℕ, ◌+◌, ◌-◌, ◌≤◌, List, [], ◌∷◌, ◌++◌, length, map, take, get_or, Vec, Global, refl, ap, sym, ◌∙◌, arith}
use Rattle.std.proofs.lemmas.List.{take_more}
use Rattle.toml.specs.Data.{Data, array}
use Rattle.toml.specs.View.{view, items_of}
use Rattle.toml.specs.declared.value.Value.{Value, Array}
use Rattle.toml.proofs.Views.{view-Array}

-- the values stand for the entries below number i
pub record RowsTo {A : Type 0} (tree : A → Data) (xs : List A) (i : ℕ) (values : List Value) : Type 0 where
  pub same : map view values ≡ map tree (take (i - 1) xs)

pub RowsTo-start : {A : Type 0} (tree : A → Data) (xs : List A) → RowsTo tree xs 1 []
RowsTo-start tree xs = record { same = refl }

map-push : {A B : Type 0} (f : A → B) (xs : List A) (x : A) → map f (xs ++ x ∷ []) ≡ map f xs ++ f x ∷ []
map-push f [] x = refl
map-push f (y ∷ ys) x = ap (λ zs. f y ∷ zs) (map-push f ys x)

pub RowsTo-more : {A : Type 0} (tree : A → Data) (xs : List A) (i : ℕ) (values more : List Value) (v : Value) (x d : A) → RowsTo tree xs i values → 1 ≤ i → i ≤ length xs → more ≡ values ++ v ∷ [] → view v ≡ tree x → x ≡ get_or xs (i - 1) d
    → RowsTo tree xs (i + 1) more
RowsTo-more tree xs i values more v x d rows some within e is here =
    let next : i + 1 - 1 ≡ i - 1 + 1 = omega arith in
    let longer : take (i - 1 + 1) xs ≡ take (i - 1) xs ++ x ∷ [] = take_more xs (i - 1) d (omega arith) ∙ ap (λ y. take (i - 1) xs ++ y ∷ []) (sym here) in
    let made : map view more ≡ map tree (take (i - 1) xs) ++ tree x ∷ [] = ap (map view) e ∙ map-push view values v ∙ ap (λ ys. ys ++ view v ∷ []) rows.same ∙ ap (λ y. map tree (take (i - 1) xs) ++ y ∷ []) is in
    record { same = made ∙ sym (ap (λ n. map tree (take n xs)) next ∙ ap (map tree) longer ∙ map-push tree (take (i - 1) xs) x) }

take-all : {A : Type 0} (xs : List A) → take (length xs) xs ≡ xs
take-all [] = refl
take-all (x ∷ xs) = ap (λ ys. x ∷ ys) (take-all xs)

pub RowsTo-end : {A : Type 0} (tree : A → Data) (xs : List A) (i : ℕ) (v : Vec Value Global) → RowsTo tree xs i v.items → i ≡ length xs + 1 → view (Array v) ≡ array (items_of (map tree xs))
RowsTo-end tree xs i v rows last =
    let count : i - 1 ≡ length xs = omega arith in
    view-Array v ∙ ap (λ ys. array (items_of ys)) (rows.same ∙ ap (λ n. map tree (take n xs)) count ∙ ap (map tree) (take-all xs))

pub ruleset rows = (RowsTo-start, RowsTo-more, RowsTo-end)
