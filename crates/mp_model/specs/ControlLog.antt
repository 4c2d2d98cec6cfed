-- The log of the controller: to each line of counts, the stages of greatest pressure at these counts.
use Rattle.std.specs.Prelude.{◌≡◌, ℕ, ◌+◌, cond, nat_lt, List, [], ◌∷◌, ◌++◌, length, map, Option, Some, None, codes, decimal}
use Rattle.mp_model.specs.Network.{Network, entry}
use Rattle.mp_model.specs.Pressure.{AllGreatest}
use Rattle.mp_model.specs.Run.{greatest_stages}
use Rattle.mp_model.specs.Log.{spaced, text_of}
use Rattle.mp_model.specs.Stream.{raw_lines, without_return, is_skipped, read_counts}
use Rattle.mp_model.specs.declared.limits.TheConstants.{MOST_LOG_LINE_BYTES}

-- A line of the controller's input is too long, skipped, one of counts, or bad.
pub data InputLine : Type 0 where
  long_line : InputLine
  skipped_line : InputLine
  counts_line : List ℕ → InputLine
  bad_line : InputLine

-- A line with the right counts is one of counts, and any other is bad.
abbrev pub counted_line : Option (List ℕ) → InputLine
counted_line (Some counts) = counts_line counts
counted_line None = bad_line

-- This is what a line without its carriage return is: skipped where it has blanks alone, is empty, or begins with `#`, and else one count per movement with a comma between two.
abbrev pub plain_line : Network → List ℕ → InputLine
plain_line net line = cond (is_skipped line) skipped_line (counted_line (read_counts (length net.movements) line))

-- This is what a line of the input is; it may have 16,384 bytes, with its carriage return.
abbrev pub input_line : Network → List ℕ → InputLine
input_line net raw = cond (nat_lt MOST_LOG_LINE_BYTES (length raw)) long_line (plain_line net (without_return raw))

-- These are the lines of an input.
abbrev pub input_lines : Network → List ℕ → List InputLine
input_lines net text = map (input_line net) (raw_lines text)

-- These are the counts of lines of an input: one list per line of counts.
abbrev pub counts_of_lines : List InputLine → List (List ℕ)
counts_of_lines [] = []
counts_of_lines (counts_line counts ∷ lines) = counts ∷ counts_of_lines lines
counts_of_lines (line ∷ lines) = counts_of_lines lines

-- The first line names the program and the version of its control log.
abbrev pub first_control_line : List ℕ
first_control_line = codes "maxpressure control 1"

-- An answer gives its number, the counts of the movements, and the stages of the junctions.
abbrev pub answer_of : ℕ → List ℕ → List ℕ → List ℕ
answer_of number counts stages = codes "c " ++ decimal number ++ codes " q" ++ spaced counts ++ codes " s" ++ spaced stages

-- This is the answer to counts: the stages of greatest pressure where these are the queues.
abbrev pub answer_to : Network → ℕ → List ℕ → List ℕ
answer_to net number counts = answer_of number counts (greatest_stages net (entry counts))

-- These are the answers to lists of counts, numbered from one number on.
abbrev pub answers_from : Network → ℕ → List (List ℕ) → List (List ℕ)
answers_from net number [] = []
answers_from net number (counts ∷ rest) = answer_to net number counts ∷ answers_from net (number + 1) rest

-- These are the answers to lists of counts, numbered from 1.
abbrev pub answers : Network → List (List ℕ) → List (List ℕ)
answers net counted = answers_from net 1 counted

-- The end line gives the number of answers.
abbrev pub control_end_line : ℕ → List ℕ
control_end_line number = codes "end " ++ decimal number

-- The lines of a control log are the first line, the answers, and the end line.
abbrev pub control_log_lines : Network → List (List ℕ) → List (List ℕ)
control_log_lines net counted = first_control_line ∷ answers net counted ++ control_end_line (length counted) ∷ []

-- The control log is the text of these lines.
abbrev pub control_log_text : Network → List (List ℕ) → List ℕ
control_log_text net counted = text_of (control_log_lines net counted)

-- A line answers counts where its stages are those of greatest pressure at these counts, the lowest number on ties, and no other stages are.
pub record IsAnswer (net : Network) (number : ℕ) (counts line : List ℕ) : Type 0 where
  pub stages : List ℕ
  pub written : line ≡ answer_of number counts stages
  pub greatest : AllGreatest net (entry counts) net.junctions stages
  pub alone : (others : List ℕ) → AllGreatest net (entry counts) net.junctions others → others ≡ stages

-- Each line answers the counts at its place, numbered from one number on.
abbrev pub AreAnswers : Network → ℕ → List (List ℕ) → List (List ℕ) → Type 0
AreAnswers net number [] [] = Unit {0}
AreAnswers net number (counts ∷ rest) (line ∷ lines) = IsAnswer net number counts line × AreAnswers net (number + 1) rest lines
AreAnswers net number [] (line ∷ lines) = ⊥
AreAnswers net number (counts ∷ rest) [] = ⊥
