-- The texts of small numbers.
use Rattle.std.specs.Prelude.{◌≡◌, ◌≤◌, ℕ, ◌∷◌, take, length, decimal}
use Rattle.mp_text.specs.declared.small_numbers.Spaced.{Spaced}

-- The front of a text is a space and the digits of the number.
abbrev pub IsSpaced : ℕ → Spaced → Type 0
IsSpaced n spaced = (length spaced.text ≡ 4) × (spaced.len ≤ 4) × (take spaced.len spaced.text ≡ 32 ∷ decimal n)
