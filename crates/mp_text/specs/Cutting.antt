-- The lines of a text, and what a call of `next` takes off the text ahead: the bytes held, and those that the source has left.
use Rattle.std.specs.Prelude.{◌≡◌, ◌<◌, ◌≤◌, ◌⊎◌, ℕ, List, [], ◌∷◌, ◌++◌, length, take, Result, MatchResult, Bool, false, ◌==◌}
use Rattle.std.specs.List.{All, slice_split}
use Rattle.mp_model.specs.Stream.{raw_lines, without_return}
use Rattle.mp_text.specs.Cut.{Cut}
use Rattle.mp_text.specs.declared.cutter.LineStep.{LineStep}
use Rattle.mp_text.specs.declared.cutter.LineStep.TheVariants.{Line, End, TooLong, Failed}

-- A line feed is the byte 10.
abbrev pub is_line_feed : ℕ → Bool
is_line_feed b = b == 10

-- No byte is a line feed.
abbrev pub NoLineFeed : List ℕ → Type 0
NoLineFeed bytes = All (λ b. is_line_feed b ≡ false) bytes

-- These are the parts of a list but the last.
abbrev pub without_last : List (List ℕ) → List (List ℕ)
without_last [] = []
without_last (part ∷ []) = []
without_last (part ∷ next ∷ parts) = part ∷ without_last (next ∷ parts)

-- These are the lines of a text that a line feed ends; what stands behind the last line feed is none of them.
abbrev pub ended_lines : List ℕ → List (List ℕ)
ended_lines text = without_last (slice_split is_line_feed text)

-- The bytes held and those to come are the same before a fill and after it, and it adds none exactly where none was left.
abbrev pub Fills : {E : Type 0} → Result ℕ E → ℕ → List ℕ → List ℕ → List ℕ → List ℕ → Type 0
Fills result have old new was now = MatchResult result (λ n. (take have old ++ was ≡ take n new ++ now) × (n ≡ have → was ≡ [])) (λ _. now ≡ was)

-- The first line of the text is taken off it, and given without its end: a line feed ends it, or the text does.
pub record CutsLine (n : ℕ) (text rest line : List ℕ) : Type 0 where
  pub raw : List ℕ
  pub plain : NoLineFeed raw
  pub ends : (text ≡ raw ++ 10 ∷ rest) ⊎ (rest ≡ [])
  pub lines : raw_lines text ≡ raw ∷ raw_lines rest
  pub fits : length raw < n
  pub given : line ≡ without_return raw

-- The first line of the text has n bytes or more.
pub record StartsLong (n : ℕ) (text : List ℕ) : Type 0 where
  pub raw : List ℕ
  pub more : List (List ℕ)
  pub lines : raw_lines text ≡ raw ∷ more
  pub long : n ≤ length raw

-- The bytes begin a line of less than n bytes, and do not end it.
abbrev pub BeginsLine : ℕ → List ℕ → Type 0
BeginsLine n bytes = NoLineFeed bytes × (length bytes < n)

-- A step cuts the text ahead as it says; a failure takes nothing of it, and the bytes held then do not end a line.
abbrev pub Cuts : ℕ → LineStep → Cut → Cut → List ℕ → List ℕ → Type 0
Cuts n Line old new was now = CutsLine n (old.held ++ was) (new.held ++ now) new.line
Cuts n End old new was now = (old.held ++ was ≡ []) × (now ≡ [])
Cuts n TooLong old new was now = StartsLong n (old.held ++ was)
Cuts n Failed old new was now = (old.held ++ was ≡ new.held ++ now) × BeginsLine n new.held
