-- What a refusal of a text says.
use Rattle.std.specs.Prelude.{◌≡◌, ℕ, ℤ, List, Option, None, Result, Err, ⊤}
use Rattle.mp_cert.specs.declared.text_fault.TextFault.{TextFault}
use Rattle.mp_cert.specs.declared.text_fault.TextFault.TheVariants.{Line, NoMemory}

-- The fault names the first line that is not in the grammar; out of memory says nothing of the text.
abbrev pub IsFaultOf : {X : Type 0} → Result X ℕ → TextFault → Type 0
IsFaultOf meaning (Line n) = meaning ≡ Err n
IsFaultOf meaning NoMemory = ⊤

-- The fault names line n, which has no row of numbers; out of memory says nothing of the line.
abbrev pub RefusesLine : ℕ → Option (List ℤ) → TextFault → Type 0
RefusesLine n row (Line m) = (m ≡ n) × (row ≡ None)
RefusesLine n row NoMemory = ⊤
