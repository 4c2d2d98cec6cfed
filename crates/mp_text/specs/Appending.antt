-- A text that goes into a sink in pieces: `Some` of the bytes that it holds, or `None` after a put that failed.
use Rattle.std.specs.Prelude.{◌≡◌, ◌≤◌, ⊤, ℕ, List, ◌++◌, Option, Some, None}
use Rattle.mp_edge.specs.Outside.{Rose, Tells, GainsPrefix}

-- A front of what was held and of the bytes goes out, and the rest is held; a put that fails puts a prefix of them, and after it nothing goes out.
abbrev pub PassesOn : List ℕ → Option (List ℕ) → Option (List ℕ) → List ℕ → List ℕ → Type 0
PassesOn bytes (Some old) (Some new) was now = (front : List ℕ) × (old ++ bytes ≡ front ++ new) × (now ≡ was ++ front)
PassesOn bytes (Some old) None was now = GainsPrefix (old ++ bytes) was now
PassesOn bytes None new was now = (new ≡ None) × (now ≡ was)

-- Where a put failed in between, the count of faults rose.
abbrev pub LostWithCause : Option (List ℕ) → Option (List ℕ) → ℕ → ℕ → Type 0
LostWithCause (Some old) (Some new) before now = ⊤
LostWithCause (Some old) None before now = Rose before now
LostWithCause None new before now = ⊤

-- Bytes are appended to a text when they pass on into what its sink holds, and the count of the sink's faults rose where that failed.
pub record Appends (bytes : List ℕ) (old new sunk_old sunk_new : Option (List ℕ)) (before now : ℕ) : Type 0 where
  pub passed : Tells sunk_old sunk_new (PassesOn bytes old new)
  pub later : before ≤ now
  pub cause : LostWithCause old new before now
