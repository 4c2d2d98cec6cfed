-- A controller by counts: what it writes first, and its answers one after another.
use Rattle.std.specs.Prelude.{ℕ, List, [], ◌∷◌, ◌++◌, length}
use Rattle.mp_model.specs.ControlLog.{control_end_line}
use Rattle.mp_model.specs.Log.{text_of}

-- A controller has a text that it writes first, and a line in answer to counts, by all lists of counts before them.
pub record Controller : Type 0 where
  pub first : List ℕ
  pub answer : List (List ℕ) → List ℕ → List ℕ

-- These are the answers to lists of counts that come after others.
abbrev pub answers_after : Controller → List (List ℕ) → List (List ℕ) → List (List ℕ)
answers_after c before [] = []
answers_after c before (counts ∷ rest) = c.answer before counts ∷ answers_after c (before ++ counts ∷ []) rest

-- This is the first text and the answers to lists of counts.
abbrev pub begun : Controller → List (List ℕ) → List ℕ
begun c counted = c.first ++ text_of (answers_after c [] counted)

-- The control log is the first text, the answers, and the end line with their number.
abbrev pub log_of : Controller → List (List ℕ) → List ℕ
log_of c counted = begun c counted ++ (control_end_line (length counted) ++ 10 ∷ [])
