-- What a calculation of the verdict comes to, and what the code's results say of it.
use Rattle.std.specs.Prelude.{◌≡◌, ℕ, List, [], ◌∷◌, Option, Some, None, Result, Ok, Err}
use Rattle.mp_flow.specs.declared.network.Place.{Place}
use Rattle.mp_flow.specs.declared.network.CalcFault.{CalcFault}
use Rattle.mp_flow.specs.declared.network.CalcFault.TheVariants as Calculating

-- A stated calculation reaches a value, exceeds 128 bits at a place, or comes to the limit of turns at a junction.
pub data Stated (X : Type 0) : Type 0 where
  Reached : X → Stated X
  PassesAt : Place → Stated X
  LimitAt : ℕ → Stated X

-- A calculation goes on with the value that was reached; what has exceeded 128 bits or come to the limit stays so.
abbrev pub then : {X Y : Type 0} → Stated X → (X → Stated Y) → Stated Y
then (Reached x) go = go x
then (PassesAt place) go = PassesAt place
then (LimitAt j) go = LimitAt j

-- This is a calculation at a place, which exceeds 128 bits there or reaches its value.
abbrev pub at_place : {X : Type 0} → Place → Option X → Stated X
at_place place None = PassesAt place
at_place place (Some x) = Reached x

-- This is a running value over a list, as far as it is reached.
unfoldable pub run_reached : {X S : Type 0} → (S → X → Stated S) → S → List X → Stated S
run_reached f s [] = Reached s
run_reached f s (x ∷ xs) = then (f s x) (λ t. run_reached f t xs)

-- These are the values of a list's entries, as far as they are reached.
unfoldable pub each_reached : {X Y : Type 0} → (X → Stated Y) → List X → Stated (List Y)
each_reached f [] = Reached []
each_reached f (x ∷ xs) = then (f x) (λ y. then (each_reached f xs) (λ ys. Reached (y ∷ ys)))

-- A result gives what a calculation states: the value, its place where it exceeds 128 bits, or its junction at the limit of turns; out of memory says nothing.
abbrev pub Gives : {X Y : Type 0} → (X → Y) → Result X CalcFault → Stated Y → Type 0
Gives seen (Ok x) stated = stated ≡ Reached (seen x)
Gives seen (Err (Calculating.Overflow place)) stated = stated ≡ PassesAt place
Gives seen (Err (Calculating.PivotLimit j)) stated = stated ≡ LimitAt j
Gives seen (Err Calculating.NoMemory) stated = Unit {0}
