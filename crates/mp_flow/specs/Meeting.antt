-- What the code's solving comes to.
use Rattle.std.specs.Prelude.{◌≡◌, ℤ, List, Result, Ok, Err}
use Rattle.mp_flow.specs.declared.solving.Solved.{Solved}
use Rattle.mp_flow.specs.declared.solving.SolveFault.{SolveFault}
use Rattle.mp_flow.specs.declared.solving.SolveFault.TheVariants.{Singular, Overflow, NoMemory}
use Rattle.mp_flow.specs.Answers.{Outcome, Answer, Kernel, Passes}

-- A result is what the calculation comes to, or memory ran out.
abbrev pub Meets : Result Solved SolveFault → Outcome → Type 0
Meets (Ok s) outcome = outcome ≡ Answer s.x s.d
Meets (Err (Singular kernel)) outcome = outcome ≡ Kernel kernel
Meets (Err (Overflow column)) outcome = outcome ≡ Passes column
Meets (Err NoMemory) outcome = Unit {0}

-- A fact holds of the kernel where the system is singular.
abbrev pub IfSingular : Result Solved SolveFault → (List ℤ → Type 0) → Type 0
IfSingular (Ok s) P = Unit {0}
IfSingular (Err (Singular kernel)) P = P kernel
IfSingular (Err (Overflow column)) P = Unit {0}
IfSingular (Err NoMemory) P = Unit {0}
