-- What a command is handed, and what it leaves.
use Rattle.std.specs.Prelude.{◌≡◌, ◌⊎◌, ◌++◌, ℕ, List, Option}
use Rattle.mp_edge.specs.Outside.{Tells, GainsPrefix}
use Rattle.mp_cli.specs.declared.outcome.Outcome.{Outcome}
use Rattle.mp_cli.specs.declared.outcome.Outcome.TheVariants.{Done, Write}

-- The files are told as names and bytes, or not at all.
abbrev pub Files : Type 0
Files = Option (List (List ℕ × List ℕ))

-- A command is handed the files, an input with what is to come from it, and an output with what it holds; each tells it or not.
pub record Ports : Type 0 where
  pub files : Files
  pub input_before : Option (List ℕ)
  pub input_after : Option (List ℕ)
  pub output_before : Option (List ℕ)
  pub output_after : Option (List ℕ)

-- Nothing was taken from the input.
abbrev pub IsUnread : Ports → Type 0
IsUnread ports = ports.input_after ≡ ports.input_before

-- Nothing was taken from the input, and nothing was put to the output.
pub record IsUntouched (ports : Ports) : Type 0 where
  pub input : IsUnread ports
  pub output : ports.output_after ≡ ports.output_before

-- The whole text was put to the output, or a prefix of it where the output met a fault.
abbrev pub Writes : Outcome → Ports → List ℕ → Type 0
Writes Done ports text = Tells ports.output_before ports.output_after (λ before after. after ≡ before ++ text)
Writes Write ports text = Tells ports.output_before ports.output_after (GainsPrefix text)
Writes outcome ports text = ⊥

-- A text was put so, and nothing was taken from the input.
abbrev pub Answers : Outcome → Ports → List ℕ → Type 0
Answers outcome ports text = IsUnread ports × Writes outcome ports text

-- A command was refused with nothing taken from the input and nothing put to the output, or it went on.
abbrev pub RefusedOr : Type 0 → Ports → Type 0 → Type 0
RefusedOr IsRefused ports GoesOn = (IsRefused × IsUntouched ports) ⊎ GoesOn
