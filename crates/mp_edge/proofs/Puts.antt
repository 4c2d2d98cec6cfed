-- What was put, one piece after another.
use Rattle.std.proofs.Common.{◌≡◌, ℕ, List, [], ◌++◌, Option, Ok, Err, Result, sym, ◌∙◌, ap}
use Rattle.std.proofs.lemmas.List.{append_assoc, append-nil}
use Rattle.mp_edge.specs.Outside.{Tells, Puts, IsPrefix, GainsPrefix}
use Rattle.mp_edge.proofs.Told.{Tells-then, Tells-same}
use Rattle.mp_edge.proofs.Gains.{GainsPrefix-longer, GainsPrefix-then}

-- these bytes were appended to what was held
abbrev pub HasPut : Option (List ℕ) → Option (List ℕ) → List ℕ → Type 0
HasPut old new bytes = Tells old new (λ was now. now ≡ was ++ bytes)

pub put_none : (held : Option (List ℕ)) → HasPut held held []
put_none held = Tells-same held (λ was now. now ≡ was ++ []) (λ was. sym (append-nil was))

pub put_more : (old mid new : Option (List ℕ)) (xs ys zs : List ℕ) → HasPut old mid xs → HasPut mid new ys → zs ≡ xs ++ ys → HasPut old new zs
put_more old mid new xs ys zs so_far more is =
    Tells-then old mid new (λ was now. now ≡ was ++ xs) (λ was now. now ≡ was ++ ys) (λ was now. now ≡ was ++ zs)
    (λ was half now first second. second ∙ ap (λ bs. bs ++ ys) first ∙ append_assoc was xs ys ∙ ap (λ bs. was ++ bs) (sym is)) so_far more

-- a failure after so many bytes has put a prefix of the whole
pub put_fails : (old mid new : Option (List ℕ)) (xs ys whole : List ℕ) → HasPut old mid xs → Tells mid new (λ was now. GainsPrefix ys was now) → IsPrefix (xs ++ ys) whole → Tells old new (λ was now. GainsPrefix whole was now)
put_fails old mid new xs ys whole so_far more front =
    Tells-then old mid new (λ was now. now ≡ was ++ xs) (λ was now. GainsPrefix ys was now) (λ was now. GainsPrefix whole was now)
    (λ was half now first second. GainsPrefix-longer (xs ++ ys) whole was now front (GainsPrefix-then xs ys was half now first second)) so_far more

-- the last piece ends the whole
pub put_last : {T E : Type 0} (r : Result T E) (old mid new : Option (List ℕ)) (xs ys whole : List ℕ) → HasPut old mid xs → Tells mid new (Puts r ys) → whole ≡ xs ++ ys → Tells old new (Puts r whole)
put_last (Ok x) old mid new xs ys whole so_far more is = put_more old mid new xs ys whole so_far more is
put_last (Err e) old mid new xs ys whole so_far more is = put_fails old mid new xs ys whole so_far more ([], is ∙ sym (append-nil (xs ++ ys)))
