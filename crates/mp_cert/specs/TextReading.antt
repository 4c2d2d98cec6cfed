-- How the lines ahead are read, one after another.
use Rattle.std.specs.Prelude.{◌≡◌, ◌+◌, ◌-◌, ◌<◌, ◌≤◌, ◌^◌, false, ℕ, ℤ, List, [], ◌∷◌, ◌++◌, length, Result}
use Rattle.mp_model.specs.Stream.{lines_of}
use Rattle.mp_cert.specs.declared.types.Mix.{Mix}
use Rattle.mp_cert.specs.Texts.{mix_numbers}
use Rattle.mp_cert.specs.Views.{mix_of}
use Rattle.mp_cert.specs.declared.text_fault.TextFault.{TextFault}
use Rattle.mp_cert.specs.TextFaults.{IsFaultOf}
use Rattle.mp_cert.specs.TextMeaning.{Form, is_passed_over, rows_of, made}

-- These are the rows of the lines of a text, of which the first has the number n.
abbrev pub rows_ahead : ℕ → List ℕ → List Form → Result (List (List ℤ)) ℕ
rows_ahead n text forms = rows_of n forms (lines_of text)

-- Whatever forms are wanted, the rows ahead are the same, at another line.
abbrev pub SameAhead : ℕ → List ℕ → ℕ → List ℕ → Type 0
SameAhead n text m rest = (forms : List Form) → rows_ahead n text forms ≡ rows_ahead m rest forms

-- The first line ahead that is not passed over is this one, before line m.
pub record StandsFirst (line : List ℕ) (n : ℕ) (text : List ℕ) (m : ℕ) (rest : List ℕ) : Type 0 where
  pub stays : is_passed_over line ≡ false
  pub before : 1 ≤ m
  pub ahead : (forms : List Form) → rows_ahead n text forms ≡ rows_of (m - 1) forms (line ∷ lines_of rest)

-- No line is left that is not passed over, and the line after the last has the number m.
abbrev pub NoneStands : ℕ → List ℕ → ℕ → Type 0
NoneStands n text m = (forms : List Form) → rows_ahead n text forms ≡ rows_of m forms []

-- The row is the first of those ahead, before the others.
abbrev pub ReadsRow : Form → List ℤ → ℕ → List ℕ → ℕ → List ℕ → Type 0
ReadsRow form row n text m rest = (forms : List Form) → rows_ahead n text (form ∷ forms) ≡ made (λ rows. row ∷ rows) (rows_ahead m rest forms)

-- The fault is that of the lines ahead where a line of the form is wanted first.
abbrev pub RefusesAhead : Form → ℕ → List ℕ → TextFault → Type 0
RefusesAhead form n text fault = (forms : List Form) → IsFaultOf (rows_ahead n text (form ∷ forms)) fault

-- A line number of 64 bits is enough for the lines ahead.
abbrev pub HasRoom : ℕ → List ℕ → Type 0
HasRoom n text = n + length text < 2 ^ 64

-- The rows were read of the lines ahead, before those of further forms.
abbrev pub ReadsRows : List Form → List (List ℤ) → List Form → ℕ → List ℕ → ℕ → List ℕ → Type 0
ReadsRows all rows forms n text m rest = rows_ahead n text all ≡ made (λ others. rows ++ others) (rows_ahead m rest forms)

-- These are the numbers of a mix.
abbrev pub mix_row : Mix → List ℤ
mix_row mix = mix_numbers (mix_of mix)

-- These are the rows before those of the mixes.
abbrev pub head_rows : ℤ → ℤ → List ℤ → List (List ℤ)
head_rows d e h = [] ∷ (d ∷ []) ∷ (e ∷ []) ∷ h ∷ []
