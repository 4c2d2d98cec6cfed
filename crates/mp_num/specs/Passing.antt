-- Calculations over lists whose single steps may exceed 128 bits; what has exceeded them stays so.
use Rattle.std.specs.Prelude.{◌≡◌, ℕ, zero, suc, ◌+◌, Bool, true, false, List, [], ◌∷◌, Option, Some, None, option_map, option_and_then}

-- This is a calculation on two lists entry by entry, and nothing where it exceeds 128 bits at some entry.
unfoldable pub each2 : {X Y Z : Type 0} → (X → Y → Option Z) → List X → List Y → Option (List Z)
each2 f [] ys = Some []
each2 f (x ∷ xs) [] = Some []
each2 f (x ∷ xs) (y ∷ ys) = option_and_then (λ z. option_map (λ zs. z ∷ zs) (each2 f xs ys)) (f x y)

-- This is a calculation on a list entry by entry, and nothing where it exceeds 128 bits at some entry.
unfoldable pub each : {X Y : Type 0} → (X → Option Y) → List X → Option (List Y)
each f [] = Some []
each f (x ∷ xs) = option_and_then (λ y. option_map (λ ys. y ∷ ys) (each f xs)) (f x)

-- This is a running value over a list, and nothing where a step exceeds 128 bits.
unfoldable pub stepped : {X S : Type 0} → (S → X → Option S) → S → List X → Option S
stepped f s [] = Some s
stepped f s (x ∷ xs) = option_and_then (λ t. stepped f t xs) (f s x)

-- A step in place answers true and leaves the value of the calculation, or false where the calculation exceeds 128 bits.
abbrev pub Becomes : {S : Type 0} → Bool → Option S → S → Type 0
Becomes true calculation now = calculation ≡ Some now
Becomes false calculation now = calculation ≡ None

-- These are so many numbers from a start on.
abbrev pub counting : ℕ → ℕ → List ℕ
counting zero start = []
counting (suc count) start = start ∷ counting count (start + 1)
