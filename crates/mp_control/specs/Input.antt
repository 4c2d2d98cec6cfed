-- What the answer to a line of the input says of it.
use Rattle.std.specs.Prelude.{◌≡◌, ◌<◌, ◌^◌, ℤ, List, All}
use Rattle.mp_model.specs.ControlLog.{InputLine}
use Rattle.mp_model.specs.ControlLog.InputLine.{skipped_line, counts_line, bad_line}
use Rattle.mp_press.specs.Queues.{naturals, NoneNegative}
use Rattle.mp_control.specs.declared.input.InputKind.{InputKind}
use Rattle.mp_control.specs.declared.input.InputKind.TheVariants.{Skipped, Counts, Bad}

-- Counts are small where none is negative and each has at most 9 digits.
pub record AreSmall (counts : List ℤ) : Type 0 where
  pub none_negative : NoneNegative counts
  pub digits : All (λ q. q < 10 ^ 9) (naturals counts)

-- The answer is that of a line, and the counts are those of a line of counts.
abbrev pub IsOfLine : InputKind → List ℤ → InputLine → Type 0
IsOfLine Skipped counts line = line ≡ skipped_line
IsOfLine Counts counts line = line ≡ counts_line (naturals counts)
IsOfLine Bad counts line = line ≡ bad_line
