-- How a run over a stream ends: what was read of the stream, and what is written.
use Rattle.std.specs.Prelude.{◌≡◌, ◌≤◌, ◌⊎◌, ◌+◌, ℕ, List, [], ◌∷◌, ◌++◌, length, Option}
use Rattle.std.specs.List.{AllByRecursion}
use Rattle.mp_edge.specs.Outside.{Tells, GainsPrefix}
use Rattle.mp_model.specs.Log.{text_of}
use Rattle.mp_model.specs.Stream.{LineKind}
use Rattle.mp_model.specs.Stream.LineKind.{long_line, bad_line}
use Rattle.mp_model.specs.declared.limits.TheConstants.{MOST_LINES}
use Rattle.mp_stream.specs.Course.{Course, kinds_of, ended_kinds, IsTaken, StartsWith}
use Rattle.mp_stream.specs.declared.driving.End.{End}
use Rattle.mp_stream.specs.declared.driving.End.TheVariants.{Done, Read, Write, LineLimit, Long, Bad, Refused}

-- A front of the text was read, with the rest left: its lines that a line feed ends, or all lines where nothing is left, are of these kinds and of more, and the first of them were taken.
pub record ReadsFront {R : Type 0} (run : Course R) (kinds more : List LineKind) (text rest : List ℕ) : Type 0 where
  pub front : List ℕ
  pub splits : text ≡ front ++ rest
  pub lines : (ended_kinds run front ≡ kinds ++ more) ⊎ ((rest ≡ []) × (kinds_of run text ≡ kinds ++ more))
  pub taken : AllByRecursion IsTaken kinds

-- The whole text of a run behind lines of these kinds has the lines that are written of them, and the end line.
abbrev pub whole_text : {R : Type 0} → Course R → List LineKind → List ℕ
whole_text run kinds = text_of (run.lines kinds ++ run.end_line kinds ∷ [])

-- The stream was read to its end, each of its lines was taken, at most 2^48 of them, they are permitted, and behind the head the whole text was written.
pub record Finished {R : Type 0} (run : Course R) (head : List ℕ) (whole left was now : Option (List ℕ)) : Type 0 where
  pub kinds : List LineKind
  pub few : length kinds ≤ MOST_LINES
  pub permitted : run.Permits kinds
  pub read : Tells whole left (λ text rest. (rest ≡ []) × StartsWith run text kinds [])
  pub written : Tells was now (λ before after. after ≡ before ++ (head ++ whole_text run kinds))

-- The lines before line n, which is at most 2^48, were taken and are permitted, line n is of this kind, and behind the head the lines of the lines before it were written.
pub record RefusedAt {R : Type 0} (run : Course R) (head : List ℕ) (kind : LineKind) (n : ℕ) (whole left was now : Option (List ℕ)) : Type 0 where
  pub kinds : List LineKind
  pub number : n ≡ length kinds + 1
  pub few : n ≤ MOST_LINES
  pub permitted : run.Permits kinds
  pub read : Tells whole left (λ text rest. (more : List LineKind) × StartsWith run text kinds (kind ∷ more))
  pub written : Tells was now (λ before after. after ≡ before ++ (head ++ text_of (run.lines kinds)))

-- The run refuses line n so: it is refused at that line, of whatever kind it is.
pub record RefusedBy {R : Type 0} (run : Course R) (head : List ℕ) (n : ℕ) (refusal : R) (whole left was now : Option (List ℕ)) : Type 0 where
  pub kind : LineKind
  pub at : RefusedAt run head kind n whole left was now
  pub refused : run.Refuses at.kinds kind refusal

-- The first 2^48 lines were taken and are permitted, another line follows them, and behind the head their lines were written.
pub record HasTooMany {R : Type 0} (run : Course R) (head : List ℕ) (whole left was now : Option (List ℕ)) : Type 0 where
  pub kinds : List LineKind
  pub number : length kinds ≡ MOST_LINES
  pub permitted : run.Permits kinds
  pub read : Tells whole left (λ text rest. (kind : LineKind) × (more : List LineKind) × StartsWith run text kinds (kind ∷ more))
  pub written : Tells was now (λ before after. after ≡ before ++ (head ++ text_of (run.lines kinds)))

-- The lines of the front that was read were taken, at most 2^48 of them, they are permitted, and behind the head their lines were written.
pub record StopsReading {R : Type 0} (run : Course R) (head : List ℕ) (whole left was now : Option (List ℕ)) : Type 0 where
  pub kinds : List LineKind
  pub few : length kinds ≤ MOST_LINES
  pub permitted : run.Permits kinds
  pub read : Tells whole left (ReadsFront run kinds [])
  pub written : Tells was now (λ before after. after ≡ before ++ (head ++ text_of (run.lines kinds)))

-- A prefix of the head and the lines was written; or, where the stream was read to its end and each of its lines was taken, of the head and the whole text.
abbrev pub WritesPart : {R : Type 0} → Course R → List ℕ → List LineKind → Option (List ℕ) → Option (List ℕ) → Option (List ℕ) → Option (List ℕ) → Type 0
WritesPart run head kinds whole left was now =
    Tells was now (GainsPrefix (head ++ text_of (run.lines kinds)))
    ⊎ (Tells whole left (λ text rest. (rest ≡ []) × StartsWith run text kinds []) × Tells was now (GainsPrefix (head ++ whole_text run kinds)))

-- Lines of the front that was read were taken, at most 2^48 of them, they are permitted, and a part of what is written of them was written, with nothing of the end line before the end of the stream.
pub record StopsWriting {R : Type 0} (run : Course R) (head : List ℕ) (whole left was now : Option (List ℕ)) : Type 0 where
  pub kinds : List LineKind
  pub few : length kinds ≤ MOST_LINES
  pub permitted : run.Permits kinds
  pub read : Tells whole left (λ text rest. (more : List LineKind) × ReadsFront run kinds more text rest)
  pub written : WritesPart run head kinds whole left was now

-- This is what each end of a run says, where a head stands before its text.
abbrev pub EndsAs : {R : Type 0} → Course R → List ℕ → End R → Option (List ℕ) → Option (List ℕ) → Option (List ℕ) → Option (List ℕ) → Type 0
EndsAs run head Done whole left was now = Finished run head whole left was now
EndsAs run head Read whole left was now = StopsReading run head whole left was now
EndsAs run head Write whole left was now = StopsWriting run head whole left was now
EndsAs run head LineLimit whole left was now = HasTooMany run head whole left was now
EndsAs run head (Long n) whole left was now = RefusedAt run head long_line n whole left was now
EndsAs run head (Bad n) whole left was now = RefusedAt run head bad_line n whole left was now
EndsAs run head (Refused n refusal) whole left was now = RefusedBy run head n refusal whole left was now
