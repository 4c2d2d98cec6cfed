-- What is read of the input of a controller, and what is written of its log.
use Rattle.std.specs.Prelude.{◌≡◌, ◌≤◌, ◌⊎◌, ℕ, ◌+◌, List, [], ◌∷◌, ◌++◌, length, Option}
use Rattle.mp_edge.specs.Outside.{Tells, GainsPrefix}
use Rattle.mp_model.specs.Network.{Network}
use Rattle.mp_model.specs.ControlLog.{InputLine, counts_of_lines, control_end_line}
use Rattle.mp_model.specs.ControlLog.InputLine.{long_line, skipped_line, counts_line, bad_line}
use Rattle.mp_model.specs.declared.limits.TheConstants.{MOST_LINES, MOST_LOG_LINE_BYTES}
use Rattle.mp_text.specs.Cut.{Cut}
use Rattle.mp_text.specs.Cutting.{Cuts}
use Rattle.mp_text.specs.declared.cutter.LineStep.TheVariants.{Line, End as NoLine, TooLong as LongLine, Failed}
use Rattle.mp_control.specs.Controlling.{StartsWith, ReadsFront, Leaves, WroteAll}
use Rattle.mp_control.specs.declared.driving.ControlEnd.{ControlEnd}
use Rattle.mp_control.specs.declared.driving.ControlEnd.TheVariants.{Done, Read, Write, LineLimit, Long, Grammar}
use Rattle.mp_guard_control.specs.Controller.{Controller, begun, log_of}
use Rattle.mp_guard_control.specs.declared.driving.Answered.{Answered}
use Rattle.mp_guard_control.specs.declared.driving.Answered.TheVariants.{Skipped, Put, Bad, TooLong, End, Unread, Unwritten}

-- The input was read to its end, each of its lines was taken, at most 2^48 of them, and the control log of their counts was written.
pub record Finished (net : Network) (c : Controller) (whole left was now : Option (List ℕ)) : Type 0 where
  pub lines : List InputLine
  pub few : length lines ≤ MOST_LINES
  pub read : Tells whole left (λ text rest. (rest ≡ []) × StartsWith net text lines [])
  pub written : Tells was now (WroteAll (log_of c (counts_of_lines lines)))

-- The lines before line n, which is at most 2^48, were taken, line n is this one, and the first text and the answers to the lines before it were written.
pub record RefusedAt (net : Network) (c : Controller) (line : InputLine) (n : ℕ) (whole left was now : Option (List ℕ)) : Type 0 where
  pub lines : List InputLine
  pub number : n ≡ length lines + 1
  pub few : n ≤ MOST_LINES
  pub read : Tells whole left (λ text rest. (more : List InputLine) × StartsWith net text lines (line ∷ more))
  pub written : Tells was now (WroteAll (begun c (counts_of_lines lines)))

-- The first 2^48 lines were taken, another line follows them, and the first text and their answers were written.
pub record HasTooMany (net : Network) (c : Controller) (whole left was now : Option (List ℕ)) : Type 0 where
  pub lines : List InputLine
  pub number : length lines ≡ MOST_LINES
  pub read : Tells whole left (λ text rest. (line : InputLine) × (more : List InputLine) × StartsWith net text lines (line ∷ more))
  pub written : Tells was now (WroteAll (begun c (counts_of_lines lines)))

-- The lines of the front that was read were taken, at most 2^48 of them, and the first text and their answers were written.
pub record StopsReading (net : Network) (c : Controller) (whole left was now : Option (List ℕ)) : Type 0 where
  pub lines : List InputLine
  pub few : length lines ≤ MOST_LINES
  pub read : Tells whole left (ReadsFront net lines [])
  pub written : Tells was now (WroteAll (begun c (counts_of_lines lines)))

-- A prefix of the first text and the answers was written; or, where the input was read to its end and each of its lines was taken, of the whole control log.
abbrev pub WritesPart : Network → Controller → List InputLine → Option (List ℕ) → Option (List ℕ) → Option (List ℕ) → Option (List ℕ) → Type 0
WritesPart net c lines whole left was now =
    Tells was now (GainsPrefix (begun c (counts_of_lines lines)))
    ⊎ (Tells whole left (λ text rest. (rest ≡ []) × StartsWith net text lines []) × Tells was now (GainsPrefix (log_of c (counts_of_lines lines))))

-- Lines of the front that was read were taken, at most 2^48 of them, and a part of what is written of them was written, with nothing of the end line before the end of the input.
pub record StopsWriting (net : Network) (c : Controller) (whole left was now : Option (List ℕ)) : Type 0 where
  pub lines : List InputLine
  pub few : length lines ≤ MOST_LINES
  pub read : Tells whole left (λ text rest. (more : List InputLine) × ReadsFront net lines more text rest)
  pub written : WritesPart net c lines whole left was now

-- This is what each end of a controller says.
abbrev pub EndsAs : Network → Controller → ControlEnd → Option (List ℕ) → Option (List ℕ) → Option (List ℕ) → Option (List ℕ) → Type 0
EndsAs net c Done whole left was now = Finished net c whole left was now
EndsAs net c Read whole left was now = StopsReading net c whole left was now
EndsAs net c Write whole left was now = StopsWriting net c whole left was now
EndsAs net c LineLimit whole left was now = HasTooMany net c whole left was now
EndsAs net c (Long n) whole left was now = RefusedAt net c long_line n whole left was now
EndsAs net c (Grammar n) whole left was now = RefusedAt net c bad_line n whole left was now

-- A line of counts was answered so; or a prefix of the answer was written.
pub record IsAnswered (answer : List ℕ → List ℕ) (line : InputLine) (Wrote : List ℕ → List ℕ → List ℕ → Type 0) (was now : Option (List ℕ)) : Type 0 where
  pub counts : List ℕ
  pub is : line ≡ counts_line counts
  pub written : Tells was now (Wrote (answer counts ++ 10 ∷ []))

-- What came of the next line says what it is, and what was written when it was done with: the whole answer to a line of counts, and nothing of any other.
abbrev pub Answers : (List ℕ → List ℕ) → Answered → InputLine → Option (List ℕ) → Option (List ℕ) → Type 0
Answers answer Skipped line was now = (line ≡ skipped_line) × (now ≡ was)
Answers answer Put line was now = IsAnswered answer line WroteAll was now
Answers answer Unwritten line was now = IsAnswered answer line GainsPrefix was now
Answers answer Bad line was now = (line ≡ bad_line) × (now ≡ was)
Answers answer TooLong line was now = now ≡ was
Answers answer End line was now = now ≡ was
Answers answer Unread line was now = now ≡ was

-- These come of a line that was read.
abbrev pub OfLine : Answered → Type 0
OfLine TooLong = ⊥
OfLine End = ⊥
OfLine Unread = ⊥
OfLine answered = Unit {0}

-- What came of the next line says what was cut off the input.
abbrev pub Takes : Answered → Cut → Cut → List ℕ → List ℕ → Type 0
Takes TooLong old new was now = Cuts (MOST_LOG_LINE_BYTES + 1) LongLine old new was now
Takes End old new was now = Cuts (MOST_LOG_LINE_BYTES + 1) NoLine old new was now
Takes Unread old new was now = Cuts (MOST_LOG_LINE_BYTES + 1) Failed old new was now
Takes answered old new was now = Cuts (MOST_LOG_LINE_BYTES + 1) Line old new was now

-- The end line was written, or a prefix of it where the write failed.
abbrev pub Finishes : ControlEnd → ℕ → Option (List ℕ) → Option (List ℕ) → Type 0
Finishes Done number was now = Tells was now (WroteAll (control_end_line number ++ 10 ∷ []))
Finishes Write number was now = Tells was now (GainsPrefix (control_end_line number ++ 10 ∷ []))
Finishes end number was now = ⊥

-- In the middle: the lines so far, what is to come, what was written, with one answer for each line of counts, and what is kept of these.
pub record Progress (net : Network) (c : Controller) (Keeps : List (List ℕ) → Type 0) (whole left : Option (List ℕ)) (held : List ℕ) (was now : Option (List ℕ)) (count number : ℕ) : Type 0 where
  pub lines : List InputLine
  pub counted : length lines ≡ count
  pub numbered : length (counts_of_lines lines) ≡ number
  pub kept : Keeps (counts_of_lines lines)
  pub to_come : Tells whole left (λ text rest. Leaves net lines text (held ++ rest))
  pub written : Tells was now (WroteAll (begun c (counts_of_lines lines)))
