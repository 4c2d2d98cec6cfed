-- What was reached before, where a stated calculation reaches a value.
use Rattle.std.proofs.Common.{◌≡◌, ℕ, zero, suc, ◌<◌, List, [], ◌∷◌, length, get_or, Option, Some, None, arith, refl, sym, ap, subst}
use Rattle.mp_flow.specs.declared.network.Place.{Place}
use Rattle.mp_simplex.specs.declared.Optimum.{Optimum}
use Rattle.mp_simplex.specs.Outcome.{Outcome, Optimal, Ray, Passes, Limit}
use Rattle.mp_verdict.specs.Stated.{Stated, Reached, PassesAt, LimitAt, then, at_place, each_reached}
use Rattle.mp_verdict.specs.Program.{optimum_at}

pub then_reached : {X Y P : Type 0} (s : Stated X) (go : X → Stated Y) (y : Y) → then s go ≡ Reached y → ((x : X) → s ≡ Reached x → go x ≡ Reached y → P) → P
then_reached (Reached x) go y e h = h x refl e
then_reached (PassesAt place) go y e h = absurd (cc)
then_reached (LimitAt j) go y e h = absurd (cc)

pub same_reached : {X : Type 0} (x y : X) → (let s : Stated X = Reached x in s) ≡ Reached y → x ≡ y
same_reached x y e = cc

pub at_place_reached : {X : Type 0} (place : Place) (o : Option X) (x : X) → at_place place o ≡ Reached x → o ≡ Some x
at_place_reached place None x e = absurd (cc)
at_place_reached place (Some y) x e = ap Some (same_reached y x e)

pub optimum_reached : (place : Place) (j : ℕ) (outcome : Outcome) (o : Optimum) → optimum_at place j outcome ≡ Reached o → outcome ≡ Optimal o
optimum_reached place j (Optimal p) o e = ap Optimal (same_reached p o e)
optimum_reached place j (Ray x) o e = absurd (cc)
optimum_reached place j (Passes pivots) o e = absurd (cc)
optimum_reached place j Limit o e = absurd (cc)

-- what was reached of a list, entry by entry
pub record Entrywise {X Y : Type 0} (f : X → Stated Y) (xs : List X) (ys : List Y) : Type 0 where
  pub same_length : length ys ≡ length xs
  pub at : (k : ℕ) (d : X) (u : Y) → k < length xs → f (get_or xs k d) ≡ Reached (get_or ys k u)

entrywise_at : {X Y : Type 0} (f : X → Stated Y) (x : X) (xs : List X) (y : Y) (ys : List Y) → f x ≡ Reached y → Entrywise f xs ys →
    (k : ℕ) (d : X) (u : Y) → k < length (x ∷ xs) → f (get_or (x ∷ xs) k d) ≡ Reached (get_or (y ∷ ys) k u)
entrywise_at f x xs y ys h r zero d u l = h
entrywise_at f x xs y ys h r (suc k) d u l = r.at k d u (omega arith)

pub each_is : {X Y : Type 0} (f : X → Stated Y) (xs : List X) (ys : List Y) → each_reached f xs ≡ Reached ys → Entrywise f xs ys
unfolding each_reached
each_is f [] ys e = record { same_length = ap length (sym (same_reached [] ys e)); at = λ k d u h. absurd (omega arith) }
each_is {X = X} {Y = Y} f (x ∷ xs) ys e =
    then_reached (f x) _ ys e (λ y hy e'.
    then_reached (each_reached f xs) _ ys e' (λ rest hr e''.
    (let r : Entrywise f xs rest = each_is f xs rest hr in
    let P : List Y → Type 0 = λ s. Entrywise f (x ∷ xs) s in
    subst P (same_reached (y ∷ rest) ys e'') (record { same_length = ap suc r.same_length; at = entrywise_at f x xs y rest hy r }))))
