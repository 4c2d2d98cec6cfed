-- What is read of the controller's input, and what is written of its log.
use Rattle.std.specs.Prelude.{◌≡◌, ◌≤◌, ◌⊎◌, ℕ, ◌+◌, List, [], ◌∷◌, ◌++◌, length, map, Option}
use Rattle.std.specs.List.{AllByRecursion}
use Rattle.mp_edge.specs.Outside.{Tells, GainsPrefix}
use Rattle.mp_model.specs.Network.{Network}
use Rattle.mp_model.specs.ControlLog.{InputLine, input_line, input_lines, counts_of_lines, first_control_line, answer_to, answers, control_end_line, control_log_text, AreAnswers}
use Rattle.mp_model.specs.ControlLog.InputLine.{long_line, skipped_line, counts_line, bad_line}
use Rattle.mp_model.specs.Log.{text_of}
use Rattle.mp_model.specs.declared.limits.TheConstants.{MOST_LINES, MOST_LOG_LINE_BYTES}
use Rattle.mp_text.specs.Cut.{Cut}
use Rattle.mp_text.specs.Cutting.{NoLineFeed, ended_lines, Cuts}
use Rattle.mp_text.specs.declared.cutter.LineStep.TheVariants.{Line, End as NoLine, TooLong as LongLine, Failed}
use Rattle.mp_control.specs.declared.driving.ControlEnd.{ControlEnd}
use Rattle.mp_control.specs.declared.driving.ControlEnd.TheVariants.{Done, Read, Write, LineLimit, Long, Grammar}
use Rattle.mp_control.specs.declared.driving.Answered.{Answered}
use Rattle.mp_control.specs.declared.driving.Answered.TheVariants.{Skipped, Put, Bad, TooLong, End, Unread, Unwritten}

-- A line is taken where it is skipped or gives counts.
abbrev pub IsTaken : InputLine → Type 0
IsTaken skipped_line = Unit {0}
IsTaken (counts_line counts) = Unit {0}
IsTaken long_line = ⊥
IsTaken bad_line = ⊥

-- A text starts with these lines, each of them taken, and goes on with the other lines.
pub record StartsWith (net : Network) (text : List ℕ) (lines more : List InputLine) : Type 0 where
  pub all : input_lines net text ≡ lines ++ more
  pub taken : AllByRecursion IsTaken lines

-- These are the lines of a text that a line feed ends.
abbrev pub ended_input_lines : Network → List ℕ → List InputLine
ended_input_lines net text = map (input_line net) (ended_lines text)

-- A front of the text was read, with the rest left: its lines that a line feed ends, or all lines where nothing is left, are these and more, and the first of them were taken.
pub record ReadsFront (net : Network) (lines more : List InputLine) (text rest : List ℕ) : Type 0 where
  pub front : List ℕ
  pub splits : text ≡ front ++ rest
  pub all : (ended_input_lines net front ≡ lines ++ more) ⊎ ((rest ≡ []) × (input_lines net text ≡ lines ++ more))
  pub taken : AllByRecursion IsTaken lines

-- These are the first line and the answers to lines of the input.
abbrev pub answered_text : Network → List InputLine → List ℕ
answered_text net lines = text_of (first_control_line ∷ answers net (counts_of_lines lines))

-- The input was read to its end, each of its lines was taken, at most 2^48 of them, and the control log of their counts was written; in it each line of counts has the stages of greatest pressure at these counts alone.
pub record Finished (net : Network) (whole left was now : Option (List ℕ)) : Type 0 where
  pub lines : List InputLine
  pub few : length lines ≤ MOST_LINES
  pub read : Tells whole left (λ text rest. (rest ≡ []) × StartsWith net text lines [])
  pub written : Tells was now (λ before after. after ≡ before ++ control_log_text net (counts_of_lines lines))
  pub answered : AreAnswers net 1 (counts_of_lines lines) (answers net (counts_of_lines lines))

-- The lines before line n, which is at most 2^48, were taken, line n is this one, and the first line and the answers to the lines before it were written.
pub record RefusedAt (net : Network) (line : InputLine) (n : ℕ) (whole left was now : Option (List ℕ)) : Type 0 where
  pub lines : List InputLine
  pub number : n ≡ length lines + 1
  pub few : n ≤ MOST_LINES
  pub read : Tells whole left (λ text rest. (more : List InputLine) × StartsWith net text lines (line ∷ more))
  pub written : Tells was now (λ before after. after ≡ before ++ answered_text net lines)

-- The first 2^48 lines were taken, another line follows them, and the first line and their answers were written.
pub record HasTooMany (net : Network) (whole left was now : Option (List ℕ)) : Type 0 where
  pub lines : List InputLine
  pub number : length lines ≡ MOST_LINES
  pub read : Tells whole left (λ text rest. (line : InputLine) × (more : List InputLine) × StartsWith net text lines (line ∷ more))
  pub written : Tells was now (λ before after. after ≡ before ++ answered_text net lines)

-- The lines of the front that was read were taken, at most 2^48 of them, and the first line and their answers were written.
pub record StopsReading (net : Network) (whole left was now : Option (List ℕ)) : Type 0 where
  pub lines : List InputLine
  pub few : length lines ≤ MOST_LINES
  pub read : Tells whole left (ReadsFront net lines [])
  pub written : Tells was now (λ before after. after ≡ before ++ answered_text net lines)

-- A prefix of the first line and the answers was written; or, where the input was read to its end and each of its lines was taken, of the whole control log.
abbrev pub WritesPart : Network → List InputLine → Option (List ℕ) → Option (List ℕ) → Option (List ℕ) → Option (List ℕ) → Type 0
WritesPart net lines whole left was now =
    Tells was now (GainsPrefix (answered_text net lines))
    ⊎ (Tells whole left (λ text rest. (rest ≡ []) × StartsWith net text lines []) × Tells was now (GainsPrefix (control_log_text net (counts_of_lines lines))))

-- Lines of the front that was read were taken, at most 2^48 of them, and a part of what is written of them was written, with nothing of the end line before the end of the input.
pub record StopsWriting (net : Network) (whole left was now : Option (List ℕ)) : Type 0 where
  pub lines : List InputLine
  pub few : length lines ≤ MOST_LINES
  pub read : Tells whole left (λ text rest. (more : List InputLine) × ReadsFront net lines more text rest)
  pub written : WritesPart net lines whole left was now

-- This is what each end of the controller says.
abbrev pub EndsAs : Network → ControlEnd → Option (List ℕ) → Option (List ℕ) → Option (List ℕ) → Option (List ℕ) → Type 0
EndsAs net Done whole left was now = Finished net whole left was now
EndsAs net Read whole left was now = StopsReading net whole left was now
EndsAs net Write whole left was now = StopsWriting net whole left was now
EndsAs net LineLimit whole left was now = HasTooMany net whole left was now
EndsAs net (Long n) whole left was now = RefusedAt net long_line n whole left was now
EndsAs net (Grammar n) whole left was now = RefusedAt net bad_line n whole left was now

-- A line of counts was answered, with this number; or a prefix of the answer was written.
pub record IsAnswered (net : Network) (line : InputLine) (number : ℕ) (Wrote : List ℕ → List ℕ → List ℕ → Type 0) (was now : Option (List ℕ)) : Type 0 where
  pub counts : List ℕ
  pub is : line ≡ counts_line counts
  pub written : Tells was now (Wrote (answer_to net number counts ++ 10 ∷ []))

-- All of the bytes were written behind what was there.
abbrev pub WroteAll : List ℕ → List ℕ → List ℕ → Type 0
WroteAll bytes before after = after ≡ before ++ bytes

-- What came of the next line says what it is, and what was written when it was done with: the whole answer to a line of counts, and nothing of any other.
abbrev pub Answers : Network → ℕ → Answered → InputLine → Option (List ℕ) → Option (List ℕ) → Type 0
Answers net number Skipped line was now = (line ≡ skipped_line) × (now ≡ was)
Answers net number Put line was now = IsAnswered net line number WroteAll was now
Answers net number Unwritten line was now = IsAnswered net line number GainsPrefix was now
Answers net number Bad line was now = (line ≡ bad_line) × (now ≡ was)
Answers net number TooLong line was now = now ≡ was
Answers net number End line was now = now ≡ was
Answers net number Unread line was now = now ≡ was

-- These come of a line that was read.
abbrev pub OfLine : Answered → Type 0
OfLine TooLong = ⊥
OfLine End = ⊥
OfLine Unread = ⊥
OfLine answered = Unit {0}

-- What came of the next line says what was cut off the input.
abbrev pub Takes : Answered → Cut → Cut → List ℕ → List ℕ → Type 0
Takes TooLong old new was now = Cuts (MOST_LOG_LINE_BYTES + 1) LongLine old new was now
Takes End old new was now = Cuts (MOST_LOG_LINE_BYTES + 1) NoLine old new was now
Takes Unread old new was now = Cuts (MOST_LOG_LINE_BYTES + 1) Failed old new was now
Takes answered old new was now = Cuts (MOST_LOG_LINE_BYTES + 1) Line old new was now

-- The end line was written, or a prefix of it where the write failed.
abbrev pub Finishes : ControlEnd → ℕ → Option (List ℕ) → Option (List ℕ) → Type 0
Finishes Done number was now = Tells was now (WroteAll (control_end_line number ++ 10 ∷ []))
Finishes Write number was now = Tells was now (GainsPrefix (control_end_line number ++ 10 ∷ []))
Finishes end number was now = ⊥

-- These lines, each ended by a line feed, stand before the rest of a text, or nothing is left of it.
abbrev pub StandsBefore : Network → List InputLine → List ℕ → List ℕ → Type 0
StandsBefore net lines text rest = ((raws : List (List ℕ)) × AllByRecursion NoLineFeed raws × (text ≡ text_of raws ++ rest) × (lines ≡ map (input_line net) raws)) ⊎ (rest ≡ [])

-- These lines were taken off a text, and this is left of it.
abbrev pub Leaves : Network → List InputLine → List ℕ → List ℕ → Type 0
Leaves net lines text rest = StartsWith net text lines (input_lines net rest) × StandsBefore net lines text rest

-- In the middle: the lines so far, what is to come, and what was written, with one answer for each line of counts.
pub record Progress (net : Network) (whole left : Option (List ℕ)) (held : List ℕ) (was now : Option (List ℕ)) (count number : ℕ) : Type 0 where
  pub lines : List InputLine
  pub counted : length lines ≡ count
  pub numbered : length (counts_of_lines lines) ≡ number
  pub to_come : Tells whole left (λ text rest. Leaves net lines text (held ++ rest))
  pub written : Tells was now (λ before after. after ≡ before ++ answered_text net lines)
