-- What a run does at a line.
use Rattle.std.specs.Prelude.{◌≡◌, ◌<◌, ℕ, List, [], ◌∷◌, ◌++◌, length, Option, Result, Ok, Err}
use Rattle.mp_edge.specs.Outside.{Tells, GainsPrefix}
use Rattle.mp_model.specs.Log.{text_of}
use Rattle.mp_model.specs.Stream.{LineKind}
use Rattle.mp_model.specs.Stream.LineKind.{bad_line}
use Rattle.mp_model.specs.declared.limits.TheConstants.{MOST_LINES}
use Rattle.mp_stream.specs.Course.{Course, IsTaken}
use Rattle.mp_stream.specs.declared.driving.End.{End}
use Rattle.mp_stream.specs.declared.driving.End.TheVariants as end
use Rattle.mp_stream.specs.declared.runs.Stop.{Stop}
use Rattle.mp_stream.specs.declared.runs.Stop.TheVariants.{Bad, Refused, Write}

-- A run stands at its start: behind no line, where nothing is refused or written yet.
pub record IsAtStart {R : Type 0} (run : Course R) (Stands : List LineKind → Type 0) : Type 0 where
  pub stands : Stands []
  pub permitted : run.Permits []
  pub nothing : run.lines [] ≡ []

-- A run stands behind less than 2^48 lines.
pub record HasRoom (Stands : List LineKind → Type 0) : Type 0 where
  pub kinds : List LineKind
  pub stands : Stands kinds
  pub few : length kinds < MOST_LINES

-- The lines that stand in one list behind those of another were written.
abbrev pub WritesMore : List (List ℕ) → List (List ℕ) → Option (List ℕ) → Option (List ℕ) → Type 0
WritesMore before after was now = (more : List (List ℕ)) × (after ≡ before ++ more) × Tells was now (λ old new. new ≡ old ++ text_of more)

-- A prefix of the lines that stand in one list behind those of another was written.
abbrev pub WritesPrefix : List (List ℕ) → List (List ℕ) → Option (List ℕ) → Option (List ℕ) → Type 0
WritesPrefix before after was now = (more : List (List ℕ)) × (after ≡ before ++ more) × Tells was now (GainsPrefix (text_of more))

-- A line of this kind was taken: behind whatever lines the run stood, it stands behind this one more, which is permitted there, and what it adds was written.
pub record Takes {R : Type 0} (run : Course R) (Old New : List LineKind → Type 0) (kind : LineKind) (was now : Option (List ℕ)) : Type 0 where
  pub taken : IsTaken kind
  pub stands : (kinds : List LineKind) → Old kinds → New (kinds ++ kind ∷ [])
  pub permitted : (kinds : List LineKind) → Old kinds → run.Permits (kinds ++ kind ∷ [])
  pub written : (kinds : List LineKind) → Old kinds → WritesMore (run.lines kinds) (run.lines (kinds ++ kind ∷ [])) was now

-- A line of this kind is permitted behind whatever lines the run stood, and a prefix of what it adds was written.
pub record CutsShort {R : Type 0} (run : Course R) (Old : List LineKind → Type 0) (kind : LineKind) (was now : Option (List ℕ)) : Type 0 where
  pub taken : IsTaken kind
  pub permitted : (kinds : List LineKind) → Old kinds → run.Permits (kinds ++ kind ∷ [])
  pub written : (kinds : List LineKind) → Old kinds → WritesPrefix (run.lines kinds) (run.lines (kinds ++ kind ∷ [])) was now

-- A line of this kind is taken, or the run stops at it: as it is bad or refused, where nothing is written, or as a write failed.
abbrev pub TakesLine : {R : Type 0} → Course R → (List LineKind → Type 0) → (List LineKind → Type 0) → LineKind → Result (Unit {0}) (Stop R) → Option (List ℕ) → Option (List ℕ) → Type 0
TakesLine run Old New kind (Ok done) was now = Takes run Old New kind was now
TakesLine run Old New kind (Err Bad) was now = (kind ≡ bad_line) × (now ≡ was)
TakesLine run Old New kind (Err (Refused refusal)) was now = ((kinds : List LineKind) → Old kinds → run.Refuses kinds kind refusal) × (now ≡ was)
TakesLine run Old New kind (Err Write) was now = CutsShort run Old kind was now

-- This is the end of a run that stops at line n.
abbrev pub stop_end : {R : Type 0} → ℕ → Stop R → End R
stop_end n Bad = end.Bad n
stop_end n (Refused refusal) = end.Refused n refusal
stop_end n Write = end.Write

-- The end line behind whatever lines the run stands was written, or a prefix of it where the write failed.
abbrev pub Finishes : {R : Type 0} → Course R → (List LineKind → Type 0) → End R → Option (List ℕ) → Option (List ℕ) → Type 0
Finishes run Stands end.Done was now = (kinds : List LineKind) → Stands kinds → Tells was now (λ before after. after ≡ before ++ text_of (run.end_line kinds ∷ []))
Finishes run Stands end.Write was now = (kinds : List LineKind) → Stands kinds → Tells was now (GainsPrefix (text_of (run.end_line kinds ∷ [])))
Finishes run Stands end.Read was now = ⊥
Finishes run Stands end.LineLimit was now = ⊥
Finishes run Stands (end.Long n) was now = ⊥
Finishes run Stands (end.Bad n) was now = ⊥
Finishes run Stands (end.Refused n refusal) was now = ⊥
